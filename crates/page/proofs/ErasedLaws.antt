-- Bytes that read as erased: found one after the other, the same as a blank list, and no start of a chunk. Assumes nothing.
use Rattle.std.specs.Prelude.{Ok, None}
use mathlib.Core.Path.{◌≡◌, refl, sym, ap, ap₂, ◌∙◌}
use mathlib.Core.Bool.{true, false}
use mathlib.Core.List.{List, [], ◌∷◌}
use Prim.Native.Nat.{ℕ, zero, suc, ◌+◌, ◌-◌, ◌≤◌, ◌<◌}
use native.Mathlib.Numerals.{add-one}
use native.Mathlib.Omega.{arith}
use lib.Dec.{eqb}
use lib.ListN.{length, get_or, take, drop, length-drop}
use lib.Seq.{drop-cons, drop-length, length-take-le}
use borrow.Author.Tests.{eqb-true, eq-eqb, ne_eqb}
use Rattle.types.specs.Build.{erase_value}
use Rattle.types.specs.Bytes.{word}
use Rattle.types.proofs.TestLaws.{both_true}
use Rattle.slices.specs.Patch.{blank}
use Rattle.slices.proofs.OverLaws.{blank_none, blank-more}
use Rattle.slices.proofs.PatchLaws.{length-blank}
use Rattle.page.specs.Chunks.{chunk_magic, chunk_at}
use Rattle.page.specs.Walks.{all_erased}
use Rattle.page.proofs.ChunkLaws.{chunk-unmarked}
use Rattle.page.proofs.WorkedMark.{erased-word}

module _ (e : ℕ) (bytes : List ℕ) (i : ℕ) where
  pub erased-not : i < length bytes → (get_or bytes i 0 ≡ e → ⊥) → all_erased e (drop i bytes) ≡ false
  unfolding all_erased
  erased-not h n = rw (drop-cons bytes i 0, ne_eqb (get_or bytes i 0) e n)

  pub erased-one : i < length bytes → get_or bytes i 0 ≡ e → all_erased e (drop i bytes) ≡ all_erased e (drop (i + 1) bytes)
  unfolding all_erased
  erased-one h q = rw (drop-cons bytes i 0, eq-eqb (get_or bytes i 0) e q, add-one)

  pub erased-end : i ≡ length bytes → all_erased e (drop i bytes) ≡ true
  unfolding all_erased
  erased-end q = rw (q, drop-length)

-- ---- erased bytes as a list

pub erased-blank : (e : ℕ) (bytes : List ℕ) → all_erased e bytes ≡ true → bytes ≡ blank e (length bytes)
unfolding all_erased
erased-blank e [] h = sym (blank_none e)
erased-blank e (b ∷ bytes) h =
    let t = both_true (eqb b e) (all_erased e bytes) h in
    ap₂ (λ (x : ℕ) (l : List ℕ). x ∷ l) (eqb-true b e t.0) (erased-blank e bytes t.1) ∙ sym (blank-more e (length bytes))

pub blank-erased : (e n : ℕ) → all_erased e (blank e n) ≡ true
unfolding all_erased
blank-erased e zero = rw (blank_none e) refl
blank-erased e (suc n) = rw (blank-more e n, eq-eqb e e refl) (blank-erased e n)

-- a part of erased bytes is erased
erased-take : (e k : ℕ) (bytes : List ℕ) → all_erased e bytes ≡ true → all_erased e (take k bytes) ≡ true
unfolding all_erased
erased-take e zero bytes h = refl
erased-take e (suc k) [] h = refl
erased-take e (suc k) (b ∷ bytes) h =
    let t = both_true (eqb b e) (all_erased e bytes) h in
    rw t.0 (erased-take e k bytes t.1)

erased-drop : (e k : ℕ) (bytes : List ℕ) → all_erased e bytes ≡ true → all_erased e (drop k bytes) ≡ true
unfolding all_erased
erased-drop e zero bytes h = h
erased-drop e (suc k) [] h = refl
erased-drop e (suc k) (b ∷ bytes) h = erased-drop e k bytes (both_true (eqb b e) (all_erased e bytes) h).1

pub take-blank : (e n k : ℕ) → k ≤ n → take k (blank e n) ≡ blank e k
take-blank e n k h =
    erased-blank e (take k (blank e n)) (erased-take e k (blank e n) (blank-erased e n))
    ∙ ap (blank e) (length-take-le k (blank e n) (rw length-blank h))

pub drop-blank : (e n k : ℕ) → drop k (blank e n) ≡ blank e (n - k)
drop-blank e n k =
    erased-blank e (drop k (blank e n)) (erased-drop e k (blank e n) (blank-erased e n))
    ∙ ap (blank e) (length-drop k (blank e n) ∙ ap (λ (m : ℕ). m - k) (length-blank e n))

-- no chunk starts with erased bytes, where two of them are not the mark
pub chunk-blank : (e : ℕ) (page : List ℕ) (o : ℕ) → (word (blank e 2) ≡ chunk_magic → ⊥) → take 2 (drop o page) ≡ blank e 2 → chunk_at page o ≡ Ok None
chunk-blank e page o n h = chunk-unmarked page o (λ q. n (sym (ap word h) ∙ q))

-- the mark is not two bytes of the erase value that we ship
pub mark-shown : word (blank erase_value 2) ≡ chunk_magic → ⊥
mark-shown q = let e : 0xFFFF ≡ chunk_magic = sym erased-word ∙ q in omega arith
