-- The turns of decoding. Assumes nothing.
use mathlib.Core.Path.{◌≡◌, refl, sym, ap, ◌∙◌}
use mathlib.Core.List.{List, [], ◌∷◌}
use mathlib.Core.Logic.{⊎_elim}
use Prim.Native.Nat.{ℕ, zero, suc, ◌+◌, ◌*◌, ◌/◌, ◌%◌, ◌<◌, min}
use native.Mathlib.Omega.{arith}
use lib.ListN.{length, take, get_or, set}
use lib.Seq.{take_all}
use Rattle.slices.specs.Patch.{over}
use Rattle.slices.proofs.PatchLaws.{put-turn}
use Rattle.types.proofs.TestLaws.{le-or-lt}
use Rattle.digits.specs.Hex.{digit_of, byte_in, bytes_in, hex_of}

-- ---- bytes

pub length-bytes_in : (word : List ℕ) → length (bytes_in word) ≡ length word / 2
unfolding bytes_in
length-bytes_in [] = refl
length-bytes_in (a ∷ []) = refl
length-bytes_in (a ∷ b ∷ word) = let ih : length (bytes_in word) ≡ length word / 2 = length-bytes_in word in omega arith

pub bytes_in-at : (word : List ℕ) (i : ℕ) → 2 * i + 1 < length word → byte_in (get_or word (2 * i) 0) (get_or word (2 * i + 1) 0) ≡ get_or (bytes_in word) i 0
unfolding bytes_in
bytes_in-at [] i h = absurd (omega arith)
bytes_in-at (a ∷ []) i h = absurd (omega arith)
bytes_in-at (a ∷ b ∷ word) zero h = refl
bytes_in-at (a ∷ b ∷ word) (suc i) h =
    let e : 2 * suc i ≡ suc (suc (2 * i)) = omega arith in
    let f : 2 * suc i + 1 ≡ suc (suc (2 * i + 1)) = omega arith in
    rw (f, e) (bytes_in-at word i (omega arith))

-- ---- encoding

length-hex_of : (bytes : List ℕ) → length (hex_of bytes) ≡ 2 * length bytes
unfolding hex_of
length-hex_of [] = refl
length-hex_of (b ∷ bytes) = let ih : length (hex_of bytes) ≡ 2 * length bytes = length-hex_of bytes in omega arith

hex_of-high : (bytes : List ℕ) (i : ℕ) → i < length bytes → get_or (hex_of bytes) (2 * i) 0 ≡ digit_of (get_or bytes i 0 / 16)
unfolding hex_of
hex_of-high [] i h = absurd (omega arith)
hex_of-high (b ∷ bytes) zero h = refl
hex_of-high (b ∷ bytes) (suc i) h =
    let e : 2 * suc i ≡ suc (suc (2 * i)) = omega arith in rw e (hex_of-high bytes i (omega arith))

hex_of-low : (bytes : List ℕ) (i : ℕ) → i < length bytes → get_or (hex_of bytes) (2 * i + 1) 0 ≡ digit_of (get_or bytes i 0 % 16)
unfolding hex_of
hex_of-low [] i h = absurd (omega arith)
hex_of-low (b ∷ bytes) zero h = refl
hex_of-low (b ∷ bytes) (suc i) h =
    let e : 2 * suc i + 1 ≡ suc (suc (2 * i + 1)) = omega arith in rw e (hex_of-low bytes i (omega arith))

take-hex_of : (k : ℕ) (bytes : List ℕ) → take (2 * k) (hex_of bytes) ≡ hex_of (take k bytes)
unfolding hex_of
take-hex_of zero bytes = refl
take-hex_of (suc k) [] = let e : 2 * suc k ≡ suc (suc (2 * k)) = omega arith in rw e
take-hex_of (suc k) (b ∷ bytes) =
    let e : 2 * suc k ≡ suc (suc (2 * k)) = omega arith in rw (e, take-hex_of k bytes)

-- a byte more
pub encode-turn : (bytes out : List ℕ) (i : ℕ) → i < length bytes → 2 * i + 1 < length out
    → set (set (over (take (2 * i) (hex_of bytes)) out) (2 * i) (digit_of (get_or bytes i 0 / 16))) (2 * i + 1) (digit_of (get_or bytes i 0 % 16)) ≡ over (take (2 * (i + 1)) (hex_of bytes)) out
encode-turn bytes out i h k =
    let n : length (hex_of bytes) ≡ 2 * length bytes = length-hex_of bytes in
    let e : 2 * (i + 1) ≡ 2 * i + 1 + 1 = omega arith in
    rw (← hex_of-high bytes i h, ← hex_of-low bytes i h, e)
    (ap (λ (l : List ℕ). set l (2 * i + 1) (get_or (hex_of bytes) (2 * i + 1) 0)) (put-turn (hex_of bytes) out (2 * i) (omega arith) (omega arith))
    ∙ put-turn (hex_of bytes) out (2 * i + 1) (omega arith) (omega arith))

-- all that there is room for
pub encode-end : (bytes out : List ℕ) (i : ℕ) → i ≡ min (length bytes) (length out / 2) → over (take (2 * i) (hex_of bytes)) out ≡ over (hex_of (take (length out / 2) bytes)) out
encode-end bytes out i e =
    ap (λ (l : List ℕ). over l out)
    (take-hex_of i bytes ∙ ap hex_of (⊎_elim (λ h. take_all i bytes (omega arith) ∙ sym (take_all (length out / 2) bytes h))
    (λ h. let q : i ≡ length out / 2 = omega arith in ap (λ (n : ℕ). take n bytes) q) (le-or-lt (length bytes) (length out / 2))))
