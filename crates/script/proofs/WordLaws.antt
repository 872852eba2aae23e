-- The turns of the searches in a line. Assumes nothing.
use Rattle.std.proofs.lemmas.List.Sums.{prefix_len-drop_all, prefix_len-drop_no, prefix_len-drop_yes}
use mathlib.Core.Bool.{not}
use lib.Dec.{eqb}
use mathlib.Core.Path.{◌≡◌, sym, ap, ◌∙◌}
use mathlib.Core.List.{List}
use mathlib.Core.Logic.{⊎_elim}
use Prim.Native.Nat.{ℕ, suc, ◌+◌, ◌-◌, ◌≤◌, ◌<◌, min}
use native.Mathlib.Omega.{arith}
use lib.ListN.{length, take, drop, get_or, drop_of_length-le}
use lib.Seq.{drop-drop}
use borrow.Author.Tests.{eq-eqb, ne_eqb}
use Rattle.types.proofs.TestLaws.{le-or-lt}
use Rattle.script.specs.Words.{before, end_from, space, nth_word}

-- ---- the end of a word or a line

module _ (text : List ℕ) (i byte : ℕ) where
  pub end-found : i < length text → get_or text i 0 ≡ byte → i ≡ end_from text i byte
  end-found h e = let z = prefix_len-drop_no (λ b. not (eqb b byte)) text i 0 h (ap not (eq-eqb (get_or text i 0) byte e)) in omega arith

  pub end-turn : i < length text → (get_or text i 0 ≡ byte → ⊥) → end_from text (i + 1) byte ≡ end_from text i byte
  end-turn h n = let z = prefix_len-drop_yes (λ b. not (eqb b byte)) text i 0 h (ap not (ne_eqb (get_or text i 0) byte n)) in omega arith

  pub end-past : length text ≤ i → i ≡ end_from text i byte
  end-past h = let z = prefix_len-drop_all (λ b. not (eqb b byte)) text i h in omega arith

-- ---- the k-th word

module _ (line : List ℕ) (at r : ℕ) (e : r ≡ min (end_from line at space) (length line)) where
  -- behind the word that stands at an index, and its space
  rest-of-line : drop (r + 1) line ≡ drop (suc (before space (drop at line))) (drop at line)
  rest-of-line =
      let b = before space (drop at line) in
      ⊎_elim
      (λ h. let q : r + 1 ≡ at + suc b = omega arith in ap (λ (n : ℕ). drop n line) q ∙ sym (drop-drop (suc b) at line))
      (λ h. let p : length line ≤ r + 1 = omega arith in let q : length line ≤ at + suc b = omega arith in drop_of_length-le line p ∙ sym (drop-drop (suc b) at line ∙ drop_of_length-le line q))
      (le-or-lt (end_from line at space) (length line))

  pub word-turn : (k i : ℕ) → i < k → nth_word (k - (i + 1)) (drop (r + 1) line) ≡ nth_word (k - i) (drop at line)
  unfolding nth_word
  word-turn k i h =
      let s : k - i ≡ suc (k - (i + 1)) = omega arith in rw s (ap (nth_word (k - (i + 1))) rest-of-line)

pub word-found : (line : List ℕ) (at k i : ℕ) → k ≤ i → take (end_from line at space - at) (drop at line) ≡ nth_word (k - i) (drop at line)
unfolding nth_word
word-found line at k i h =
    let z : k - i ≡ 0 = omega arith in
    let b : end_from line at space - at ≡ before space (drop at line) = omega arith in
    rw (z, b)
