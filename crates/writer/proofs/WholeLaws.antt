-- Bytes that come in pieces and are stored in groups of 4 are stored in their order. Plain lists: what is stored is the whole
-- groups of all bytes so far, and the rest stands at the group buffer's start. Assumes nothing.
use mathlib.Core.Path.{◌≡◌, sym, ap, ap₂, ◌∙◌}
use mathlib.Core.List.{List, ◌++◌, append_assoc}
use Prim.Native.Nat.{ℕ, ◌+◌, ◌-◌, ◌*◌, ◌/◌, ◌%◌, ◌≤◌, ◌<◌}
use native.Mathlib.Nat.{le_refl}
use native.Mathlib.Omega.{arith}
use lib.ListN.{length, take, drop, length-append, length-take, length-drop, take-append-drop}
use lib.Seq.{take_all, take-append-le, drop-append-le, take-append-add, drop-append-add, take-add}
use Rattle.slices.specs.Patch.{over, patch}
use Rattle.slices.proofs.PatchLaws.{length-patch, part-over, part-patch, take-patch-below, patch-join}

-- ---- the whole groups of a list, and the rest

abbrev pub wholes : List ℕ → List ℕ
wholes bs = take (length bs - length bs % 4) bs

abbrev pub rest : List ℕ → List ℕ
rest bs = drop (length bs - length bs % 4) bs

pub length_rest : (bs : List ℕ) → length (rest bs) ≡ length bs % 4
length_rest bs = simp length-drop (omega arith)

pub length-wholes : (bs : List ℕ) → length (wholes bs) ≡ length bs - length bs % 4
length-wholes bs = simp length-take (omega arith)

-- ---- a buffer of 4 with bytes put in

pub over-take : (k : ℕ) (bs xs : List ℕ) → length bs ≡ k → k ≤ length xs → take k (over bs xs) ≡ bs
over-take k bs xs e h = ap (λ (n : ℕ). take n (over bs xs)) (sym e) ∙ part-over bs xs (omega arith)

pub patch-take : (r k : ℕ) (bs xs : List ℕ) → length bs ≡ k → r + k ≤ length xs → take (r + k) (patch r bs xs) ≡ take r xs ++ bs
patch-take r k bs xs e h =
    let laid = patch r bs xs in
    let there : take k (drop r laid) ≡ bs = ap (λ (n : ℕ). take n (drop r laid)) (sym e) ∙ part-patch r bs xs (omega arith) in
    take-add r k laid ∙ ap₂ (λ (a b : List ℕ). a ++ b) (take-patch-below r r bs xs (le_refl r)) there

-- ---- more bytes behind whole groups, and behind an unfinished one

pub wholes-even : (a b : List ℕ) → length a % 4 ≡ 0 → wholes (a ++ b) ≡ a ++ wholes b
wholes-even a b h =
    let l : length (a ++ b) ≡ length a + length b = length-append a b in
    let k : length (a ++ b) - length (a ++ b) % 4 ≡ length a + (length b - length b % 4) = omega arith in
    ap (λ (n : ℕ). take n (a ++ b)) k ∙ take-append-add a b (length b - length b % 4)

pub rest-even : (a b : List ℕ) → length a % 4 ≡ 0 → rest (a ++ b) ≡ rest b
rest-even a b h =
    let l : length (a ++ b) ≡ length a + length b = length-append a b in
    let k : length (a ++ b) - length (a ++ b) % 4 ≡ length a + (length b - length b % 4) = omega arith in
    ap (λ (n : ℕ). drop n (a ++ b)) k ∙ drop-append-add a b (length b - length b % 4)

pub wholes-short : (a b : List ℕ) → length a % 4 + length b < 4 → wholes (a ++ b) ≡ wholes a
wholes-short a b h =
    let l : length (a ++ b) ≡ length a + length b = length-append a b in
    let k : length (a ++ b) - length (a ++ b) % 4 ≡ length a - length a % 4 = omega arith in
    ap (λ (n : ℕ). take n (a ++ b)) k ∙ take-append-le (length a - length a % 4) a b (omega arith)

pub rest-short : (a b : List ℕ) → length a % 4 + length b < 4 → rest (a ++ b) ≡ rest a ++ b
rest-short a b h =
    let l : length (a ++ b) ≡ length a + length b = length-append a b in
    let k : length (a ++ b) - length (a ++ b) % 4 ≡ length a - length a % 4 = omega arith in
    ap (λ (n : ℕ). drop n (a ++ b)) k ∙ drop-append-le (length a - length a % 4) a b (omega arith)

-- whole groups as the code counts them
pub wholes-take : (b : List ℕ) → take (length b / 4 * 4) b ≡ wholes b
wholes-take b = let k : length b / 4 * 4 ≡ length b - length b % 4 = omega arith in ap (λ (n : ℕ). take n b) k

-- ---- the pages that they make

-- an unfinished group is completed by bytes of the next piece
pub group-stored : (at g : ℕ) (payload bytes buf page : List ℕ) → length buf ≡ 4 → take (length payload % 4) buf ≡ rest payload → length payload % 4 + g ≡ 4 → g ≤ length bytes
    → patch (at + (length payload - length payload % 4)) (patch (length payload % 4) (take g bytes) buf) (patch at (wholes payload) page) ≡ patch at (payload ++ take g bytes) page
group-stored at g payload bytes buf page four top fill has =
    let r = length payload % 4 in
    let lg : length (take g bytes) ≡ g = simp length-take (omega arith) in
    let group : patch r (take g bytes) buf ≡ rest payload ++ take g bytes = whole-group r g (take g bytes) buf lg fill four ∙ ap (λ (l : List ℕ). l ++ take g bytes) top in
    ap₂ (λ (n : ℕ) (b : List ℕ). patch (at + n) b (patch at (wholes payload) page)) (sym (length-wholes payload)) group
    ∙ patch-join at (wholes payload) (rest payload ++ take g bytes) page
    ∙ ap (λ (l : List ℕ). patch at l page) (sym (append_assoc (wholes payload) (rest payload) (take g bytes)) ∙ ap (λ (l : List ℕ). l ++ take g bytes) (take-append-drop (length payload - r) payload))
  where
    whole-group : (r k : ℕ) (bs xs : List ℕ) → length bs ≡ k → r + k ≡ 4 → length xs ≡ 4 → patch r bs xs ≡ take r xs ++ bs
    whole-group r k bs xs e f four =
        let n : length (patch r bs xs) ≤ r + k = rw length-patch (omega arith) in
        sym (take_all (r + k) (patch r bs xs) n) ∙ patch-take r k bs xs e (omega arith)

-- whole groups behind whole groups
pub wholes-stored : (at : ℕ) (payload bytes page : List ℕ) → length payload % 4 ≡ 0
    → patch (at + length payload) (wholes bytes) (patch at payload page) ≡ patch at (wholes (payload ++ bytes)) page
wholes-stored at payload bytes page h =
    patch-join at payload (wholes bytes) page ∙ ap (λ (l : List ℕ). patch at l page) (sym (wholes-even payload bytes h))
