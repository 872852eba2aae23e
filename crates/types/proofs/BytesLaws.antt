-- Numbers as bytes and back, at every width. Assumes nothing.
use mathlib.Core.Path.{◌≡◌, refl, sym, ap, ap₂, ◌∙◌}
use mathlib.Core.List.{List, [], ◌∷◌, ◌++◌}
use Prim.Native.Nat.{ℕ, zero, suc, ◌+◌, ◌*◌, ◌/◌, ◌%◌, ◌^◌, ◌<◌}
use native.Mathlib.Nat.{pow-suc}
use native.Mathlib.Omega.{arith}
use lib.Arith.{lt-one}
use lib.Dec.{lit<}
use lib.ListN.{length}
use Rattle.types.specs.Bytes.{Bytes, word, bytes_of}

-- ---- bytes

pub bytes-none : Bytes []
unfolding Bytes
bytes-none i = omega arith

pub bytes-tail : (b : ℕ) (bs : List ℕ) → Bytes (b ∷ bs) → Bytes bs
unfolding Bytes
bytes-tail b bs h i = h (suc i)

pub bytes-first : (b : ℕ) (bs : List ℕ) → Bytes (b ∷ bs) → b < 256
unfolding Bytes
bytes-first b bs h = h 0

-- ---- a number's bytes

pub bytes-append : (a b : List ℕ) → Bytes a → Bytes b → Bytes (a ++ b)
unfolding Bytes
bytes-append [] b p q i = q i
bytes-append (x ∷ a) b p q zero = p 0
bytes-append (x ∷ a) b p q (suc i) = bytes-append a b (λ j. p (suc j)) q i

pub length-bytes_of : (k n : ℕ) → length (bytes_of k n) ≡ k
unfolding bytes_of
length-bytes_of zero n = refl
length-bytes_of (suc k) n = ap suc (length-bytes_of k (n / 256))

pub bytes_of-bytes : (k n : ℕ) → Bytes (bytes_of k n)
unfolding bytes_of Bytes
bytes_of-bytes zero n i = lit< tt
bytes_of-bytes (suc k) n zero = omega arith
bytes_of-bytes (suc k) n (suc i) = bytes_of-bytes k (n / 256) i

-- what is written in k bytes is read again, where it fits
pub word-bytes_of : (k n : ℕ) → n < 256 ^ k → word (bytes_of k n) ≡ n
unfolding word bytes_of
word-bytes_of zero n h = sym (lt-one h)
word-bytes_of (suc k) n h =
    let e : 256 ^ suc k ≡ 256 ^ k * 256 = pow-suc 256 k in
    let w : word (bytes_of k (n / 256)) ≡ n / 256 = word-bytes_of k (n / 256) (omega arith) in
    rw w (omega arith)

-- bytes that are read as a number are written again from it
pub bytes_of-word : (bs : List ℕ) → Bytes bs → bytes_of (length bs) (word bs) ≡ bs
unfolding word bytes_of
bytes_of-word [] h = refl
bytes_of-word (b ∷ bs) h =
    let f : b < 256 = bytes-first b bs h in
    let r : (word bs * 256 + b) % 256 ≡ b = omega arith in
    let q : (word bs * 256 + b) / 256 ≡ word bs = omega arith in
    ap₂ (λ (x : ℕ) (l : List ℕ). x ∷ l) r (ap (bytes_of (length bs)) q ∙ bytes_of-word bs (bytes-tail b bs h))

pub word_fits : (bs : List ℕ) → Bytes bs → word bs < 256 ^ length bs
unfolding word
word_fits [] h = lit< tt
word_fits (b ∷ bs) h =
    let e : 256 ^ suc (length bs) ≡ 256 ^ length bs * 256 = pow-suc 256 (length bs) in
    let f : b < 256 = bytes-first b bs h in
    let w : word bs < 256 ^ length bs = word_fits bs (bytes-tail b bs h) in
    rw e (omega arith)
