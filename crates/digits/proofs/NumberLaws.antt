-- The turns of reading a number. Assumes nothing.
use Rattle.std.specs.Prelude.{Some, None}
use Rattle.std.specs.declared.option.Option.{Option}
use mathlib.Core.Path.{◌≡◌, refl, sym, ap, ◌∙◌}
use mathlib.Core.Bool.{Bool, true, false, cond, ◌&&◌}
use mathlib.Core.List.{List, [], ◌∷◌}
use Prim.Native.Nat.{ℕ, suc, ◌+◌, ◌*◌, ◌≤◌, ◌<◌}
use native.Mathlib.Numerals.{add-one}
use native.Mathlib.Omega.{arith}
use lib.Dec.{eqb, leb, ltb}
use lib.ListN.{length, drop, get_or, drop_of_length-le}
use lib.Seq.{drop-cons}
use borrow.Author.Tests.{leb-true}
use Rattle.types.proofs.TestLaws.{both_true}
use Rattle.digits.specs.Hex.{digit_in}
use Rattle.digits.specs.Numbers.{with_digit, read_digits, number_in}

-- ---- a word

module _ (base most : ℕ) where
  read_none : (word : List ℕ) → read_digits base most None word ≡ None
  unfolding read_digits
  read_none [] = refl
  read_none (d ∷ word) = refl

  module _ (word : List ℕ) (i n : ℕ) where
    -- past a byte: it goes on with what there is then
    pub read-turn : i < length word → (r m : Option ℕ) → r ≡ with_digit base most n (digit_in (get_or word i 0)) → r ≡ m → read_digits base most m (drop (i + 1) word)
        ≡ read_digits base most (Some n) (drop i word)
    unfolding read_digits
    read-turn h r m f g = rw (add-one, drop-cons word i 0 h) (ap (λ (x : Option ℕ). read_digits base most x (drop (suc i) word)) (sym g ∙ f))

    pub read-stops : i < length word → (r : Option ℕ) → r ≡ with_digit base most n (digit_in (get_or word i 0)) → r ≡ None → None ≡ read_digits base most (Some n) (drop i word)
    read-stops h r f g = sym (read_none (drop (i + 1) word)) ∙ read-turn h r None f g

    pub read_done : length word ≤ i → Some n ≡ read_digits base most (Some n) (drop i word)
    unfolding read_digits
    read_done h = rw (drop_of_length-le word h)

  pub number_read : (word : List ℕ) (r : Option ℕ) → eqb (length word) 0 ≡ false → r ≡ read_digits base most (Some 0) word → r ≡ number_in base most word
  number_read word r n e = rw n e

  -- ---- a number that is read stays within the most

  module _ (m : ℕ) where
    within : (word : List ℕ) (t : Bool) (k : ℕ) → (t ≡ true → k ≤ most) → (k ≤ most → read_digits base most (Some k) word ≡ Some m → m ≤ most)
        → read_digits base most (cond t (Some k) None) word ≡ Some m → m ≤ most
    within word true k f rest e = rest (f refl) e
    within word false k f rest e =
        let x : None ≡ Some m = sym (read_none word) ∙ e in let z : ◌≡◌ {A = ℕ} 0 1 = cc in absurd (omega arith)

    within-digit : (word : List ℕ) (n : ℕ) (d : Option ℕ) → ((k : ℕ) → k ≤ most → read_digits base most (Some k) word ≡ Some m → m ≤ most)
        → read_digits base most (with_digit base most n d) word ≡ Some m → m ≤ most
    within-digit word n None rest e = let x : None ≡ Some m = sym (read_none word) ∙ e in let z : ◌≡◌ {A = ℕ} 0 1 = cc in absurd (omega arith)
    within-digit word n (Some d) rest e =
        within word (ltb d base && leb (n * base + d) most) (n * base + d)
        (λ t. leb-true (n * base + d) most (both_true (ltb d base) (leb (n * base + d) most) t).1)
        (rest (n * base + d))
        e

    read-within : (word : List ℕ) (n : ℕ) → n ≤ most → read_digits base most (Some n) word ≡ Some m → m ≤ most
    unfolding read_digits
    read-within [] n h e = let q : n ≡ m = cc in omega arith
    read-within (d ∷ word) n h e = within-digit word n (digit_in d) (read-within word) e

    number_within_by : (t : Bool) (word : List ℕ) → cond t None (read_digits base most (Some 0) word) ≡ Some m → m ≤ most
    number_within_by true word e = let z : ◌≡◌ {A = ℕ} 0 1 = cc in absurd (omega arith)
    number_within_by false word e = read-within word 0 (omega arith) e

    pub number_within : (word : List ℕ) → number_in base most word ≡ Some m → m ≤ most
    number_within word e = number_within_by (eqb (length word) 0) word e
