-- Fields of any width: read byte by byte, and what is put is got. Assumes nothing.
use mathlib.Core.Path.{◌≡◌, refl, sym, ap, ap₂, ◌∙◌}
use mathlib.Core.List.{List, [], ◌∷◌}
use Prim.Native.Nat.{ℕ, zero, suc, ◌+◌, ◌*◌, ◌^◌, ◌≤◌, ◌<◌}
use native.Mathlib.Nat.{add-zero}
use native.Mathlib.Numerals.{add-one}
use native.Mathlib.Omega.{arith}
use lib.ListN.{length, take, drop, get_or}
use lib.Seq.{drop-drop, get_or-drop}
use Rattle.types.specs.Bytes.{word, bytes_of}
use Rattle.types.proofs.BytesLaws.{length-bytes_of, word-bytes_of}
use Rattle.slices.specs.Fields.{field}
use Rattle.slices.specs.Patch.{patch}
use Rattle.slices.proofs.PatchLaws.{part-patch}

-- k elements from index i on, each by itself
unfoldable pub elements : ℕ → ℕ → List ℕ → List ℕ
elements zero i xs = []
elements (suc k) i xs = get_or xs i 0 ∷ elements k (suc i) xs

word-take : (k : ℕ) (xs : List ℕ) → word (take (suc k) xs) ≡ word (take k (drop 1 xs)) * 256 + get_or xs 0 0
unfolding word
word-take zero [] = refl
word-take (suc k) [] = refl
word-take zero (x ∷ xs) = refl
word-take (suc k) (x ∷ xs) = refl

-- a field is its bytes, each read by itself
pub word-elements : (k i : ℕ) (xs : List ℕ) → word (elements k i xs) ≡ word (take k (drop i xs))
unfolding word elements
word-elements zero i xs = refl
word-elements (suc k) i xs =
    let rest : drop (suc i) xs ≡ drop 1 (drop i xs) = sym (drop-drop 1 i xs ∙ ap (λ (n : ℕ). drop n xs) (add-one i)) in
    let first : get_or xs i 0 ≡ get_or (drop i xs) 0 0 = sym (get_or-drop i xs 0 0 ∙ ap (λ (n : ℕ). get_or xs n 0) (add-zero i)) in
    ap₂ (λ (w b : ℕ). w * 256 + b) (word-elements k (suc i) xs ∙ ap (λ (l : List ℕ). word (take k l)) rest) first
    ∙ sym (word-take k (drop i xs))

-- a field of four bytes, byte by byte
pub word-four : (i : ℕ) (xs : List ℕ)
    → get_or xs i 0 + get_or xs (i + 1) 0 * 0x100 + get_or xs (i + 2) 0 * 0x1_0000 + get_or xs (i + 3) 0 * 0x100_0000 ≡ word (take 4 (drop i xs))
unfolding word elements
word-four i xs =
    let second : get_or xs (i + 1) 0 ≡ get_or xs (suc i) 0 = ap (λ (n : ℕ). get_or xs n 0) (omega arith) in
    let third : get_or xs (i + 2) 0 ≡ get_or xs (suc (suc i)) 0 = ap (λ (n : ℕ). get_or xs n 0) (omega arith) in
    let fourth : get_or xs (i + 3) 0 ≡ get_or xs (suc (suc (suc i))) 0 = ap (λ (n : ℕ). get_or xs n 0) (omega arith) in
    omega (arith, second, third, fourth, word-elements 4 i xs)

-- what is put is got
pub field_put : (k n at : ℕ) (xs : List ℕ) → n < 256 ^ k → at + k ≤ length xs → field k (patch at (bytes_of k n) xs) at ≡ n
field_put k n at xs h fits =
    let l : length (bytes_of k n) ≡ k = length-bytes_of k n in
    let put = patch at (bytes_of k n) xs in
    ap (λ (m : ℕ). word (take m (drop at put))) (sym l) ∙ ap word (part-patch at (bytes_of k n) xs (rw l fits)) ∙ word-bytes_of k n h
