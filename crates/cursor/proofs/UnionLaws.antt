-- On lists of rising keys: a newer list laid over an older one rises, and says of each key what the newer says, or else
-- the older. The same of all runs together. Assumes nothing.
use mathlib.Core.Path.{◌≡◌, refl, sym, ◌∙◌, ap}
use mathlib.Core.Bool.{Bool, true, false, cond}
use mathlib.Core.List.{List, [], ◌∷◌}
use Prim.Native.Nat.{ℕ, zero, suc, ◌<◌}
use native.Mathlib.Omega.{arith}
use Rattle.run.specs.Items.{Item, Below, Rising, Said, nothing, deleted, live, said_by, said_in}
use Rattle.keys.specs.Keys.{compare_keys}
use Rattle.std.specs.declared.cmp.Ordering.{Ordering}
use Rattle.std.specs.declared.cmp.Ordering.TheVariants.{Less, Equal, Greater}
use Rattle.keys.proofs.OrderLaws.{compare-equal, greater-less}
use Rattle.run.proofs.ItemLaws.{below_more, below-first, below_rest, below_less, rising_none, rising-more, rising-first, rising-rest}
use Rattle.run.proofs.ItemLaws.{said_in-none, said_in-less, said_in-equal, said_in-greater, said_in-below}
use Rattle.cursor.specs.Merged.{or_else, said}
use Rattle.cursor.specs.Union.{laid_first, laid, union}

-- ---- an item laid over

module _ (x y : Item) (newer older : List Item) where
  pub laid-less : compare_keys x.key y.key ≡ Less → laid (x ∷ newer) (y ∷ older) ≡ x ∷ laid newer (y ∷ older)
  unfolding laid laid_first
  laid-less q = rw q

  pub laid-equal : compare_keys x.key y.key ≡ Equal → laid (x ∷ newer) (y ∷ older) ≡ x ∷ laid newer older
  unfolding laid laid_first
  laid-equal q = rw q

  pub laid-greater : compare_keys x.key y.key ≡ Greater → laid (x ∷ newer) (y ∷ older) ≡ y ∷ laid (x ∷ newer) older
  unfolding laid laid_first
  laid-greater q = rw q

pub laid_none : (newer : List Item) → laid newer [] ≡ newer
unfolding laid laid_first
laid_none [] = refl
laid_none (x ∷ newer) = refl

pub laid-empty : (older : List Item) → laid [] older ≡ older
unfolding laid
laid-empty older = refl

-- ---- cases of the order

-- a proof for each way that two lists can be laid over each other
module _ (P : List Item → List Item → Type 0)
    (none : (older : List Item) → P [] older)
    (last : (x : Item) (newer : List Item) → P (x ∷ newer) [])
    (less : (x y : Item) (newer older : List Item) → compare_keys x.key y.key ≡ Less → P newer (y ∷ older) → P (x ∷ newer) (y ∷ older))
    (equal : (x y : Item) (newer older : List Item) → compare_keys x.key y.key ≡ Equal → P newer older → P (x ∷ newer) (y ∷ older))
    (greater : (x y : Item) (newer older : List Item) → compare_keys x.key y.key ≡ Greater → P (x ∷ newer) older → P (x ∷ newer) (y ∷ older)) where
  laid_by : (x y : Item) (newer older : List Item) → ((rest : List Item) → P newer rest) → P (x ∷ newer) older
      → (o : Ordering) → compare_keys x.key y.key ≡ o → P (x ∷ newer) (y ∷ older)
  laid_by x y newer older later here Less q = less x y newer older q (later (y ∷ older))
  laid_by x y newer older later here Equal q = equal x y newer older q (later older)
  laid_by x y newer older later here Greater q = greater x y newer older q here

  laid-first : (x : Item) (newer : List Item) → ((rest : List Item) → P newer rest) → (older : List Item) → P (x ∷ newer) older
  laid-first x newer later [] = last x newer
  laid-first x newer later (y ∷ older) = laid_by x y newer older later (laid-first x newer later older) _ refl

  pub laid-rule : (newer older : List Item) → P newer older
  laid-rule [] older = none older
  laid-rule (x ∷ newer) older = laid-first x newer (λ rest. laid-rule newer rest) older

-- ---- rising

-- a key below that of a first item is below all of rising items
below_all : (x y : Item) (items : List Item) → compare_keys x.key y.key ≡ Less → Below y.key items → Below x.key (y ∷ items)
below_all x y items q h = below_more x.key y items q (below_less x.key y.key items q h)

below-laid : (key : List ℕ) (newer older : List Item) → Below key newer → Below key older → Below key (laid newer older)
below-laid key =
    laid-rule (λ newer older. Below key newer → Below key older → Below key (laid newer older))
    (λ older h k. rw (laid-empty older) k)
    (λ x newer h k. rw (laid_none (x ∷ newer)) h)
    (λ x y newer older q r h k.
    rw (laid-less x y newer older q)
    (below_more key x (laid newer (y ∷ older)) (below-first key x newer h) (r (below_rest key x newer h) k)))
    (λ x y newer older q r h k.
    rw (laid-equal x y newer older q)
    (below_more key x (laid newer older) (below-first key x newer h) (r (below_rest key x newer h) (below_rest key y older k))))
    (λ x y newer older q r h k.
    rw (laid-greater x y newer older q)
    (below_more key y (laid (x ∷ newer) older) (below-first key y older k) (r h (below_rest key y older k))))

rising-laid : (newer older : List Item) → Rising newer → Rising older → Rising (laid newer older)
rising-laid =
    laid-rule (λ newer older. Rising newer → Rising older → Rising (laid newer older))
    (λ older h k. rw (laid-empty older) k)
    (λ x newer h k. rw (laid_none (x ∷ newer)) h)
    (λ x y newer older q r h k.
    rw (laid-less x y newer older q)
    (rising-more x (laid newer (y ∷ older))
    (below-laid x.key newer (y ∷ older) (rising-first x newer h) (below_all x y older q (rising-first y older k)))
    (r (rising-rest x newer h) k)))
    (λ x y newer older q r h k.
    rw (laid-equal x y newer older q)
    (rising-more x (laid newer older)
    (below-laid x.key newer older (rising-first x newer h) (rw (compare-equal x.key y.key q) (rising-first y older k)))
    (r (rising-rest x newer h) (rising-rest y older k))))
    (λ x y newer older q r h k.
    let l : compare_keys y.key x.key ≡ Less = greater-less x.key y.key q in
    rw (laid-greater x y newer older q)
    (rising-more y (laid (x ∷ newer) older)
    (below-laid y.key (x ∷ newer) older (below_all y x newer l (rising-first x newer h)) (rising-first y older k))
    (r h (rising-rest y older k))))

-- ---- what is said

or_else-item : (x : Item) (older : Said) → or_else (said_by x) older ≡ said_by x
unfolding or_else
or_else-item x older = by x.deleted
  where
    by : (d : Bool) → or_else (cond d deleted (live x.value)) older ≡ cond d deleted (live x.value)
    by true = refl
    by false = refl

or_else-nothing : (s : Said) → or_else s nothing ≡ s
unfolding or_else
or_else-nothing nothing = refl
or_else-nothing deleted = refl
or_else-nothing (live value) = refl

module _ (key : List ℕ) (x : Item) where
  -- an item in front of what stands for the newer and the older
  said-front : (items rest : List Item) (older : Said) → said_in key rest ≡ or_else (said_in key items) older
      → said_in key (x ∷ rest) ≡ or_else (said_in key (x ∷ items)) older
  said-front items rest older e = by (compare_keys key x.key) refl
    where
      by : (o : Ordering) → compare_keys key x.key ≡ o → said_in key (x ∷ rest) ≡ or_else (said_in key (x ∷ items)) older
      by Less q = rw (said_in-less key x rest q, said_in-less key x items q) e
      by Equal q = rw (said_in-equal key x rest q, said_in-equal key x items q) (sym (or_else-item x older))
      by Greater q = rw (said_in-greater key x rest q, said_in-greater key x items q) e

  -- an older item with the same key is not heard
  said-level : (y : Item) (newer : List Item) (older : List Item) → x.key ≡ y.key
      → or_else (said_in key (x ∷ newer)) (said_in key older) ≡ or_else (said_in key (x ∷ newer)) (said_in key (y ∷ older))
  said-level y newer older e = by (compare_keys key y.key) refl
    where
      by : (o : Ordering) → compare_keys key y.key ≡ o
          → or_else (said_in key (x ∷ newer)) (said_in key older) ≡ or_else (said_in key (x ∷ newer)) (said_in key (y ∷ older))
      by Less q = ap (or_else (said_in key (x ∷ newer))) (sym (said_in-less key y older q))
      by Equal q =
          rw (said_in-equal key x newer (ap (compare_keys key) e ∙ q)) (or_else-item x (said_in key older) ∙ sym (or_else-item x (said_in key (y ∷ older))))
      by Greater q = ap (or_else (said_in key (x ∷ newer))) (sym (said_in-greater key y older q))

-- an older item with a lower key stands in front
said-behind : (key : List ℕ) (y : Item) (newer older rest : List Item) → Below y.key newer
    → said_in key rest ≡ or_else (said_in key newer) (said_in key older)
    → said_in key (y ∷ rest) ≡ or_else (said_in key newer) (said_in key (y ∷ older))
unfolding or_else
said-behind key y newer older rest h e = by (compare_keys key y.key) refl
  where
    by : (o : Ordering) → compare_keys key y.key ≡ o → said_in key (y ∷ rest) ≡ or_else (said_in key newer) (said_in key (y ∷ older))
    by Less q = rw (said_in-less key y rest q, said_in-less key y older q) e
    by Equal q =
        rw (said_in-equal key y rest q, said_in-equal key y older q, said_in-below key newer (rw (← compare-equal key y.key q) at h))
    by Greater q = rw (said_in-greater key y rest q, said_in-greater key y older q) e

pub said-laid : (key : List ℕ) (newer older : List Item) → Rising newer → said_in key (laid newer older) ≡ or_else (said_in key newer) (said_in key older)
unfolding or_else
said-laid key =
    laid-rule (λ newer older. Rising newer → said_in key (laid newer older) ≡ or_else (said_in key newer) (said_in key older))
    (λ older h. rw (laid-empty older, said_in-none key))
    (λ x newer h. rw (laid_none (x ∷ newer), said_in-none key) (sym (or_else-nothing (said_in key (x ∷ newer)))))
    (λ x y newer older q r h.
    rw (laid-less x y newer older q)
    (said-front key x newer (laid newer (y ∷ older)) (said_in key (y ∷ older)) (r (rising-rest x newer h))))
    (λ x y newer older q r h.
    rw (laid-equal x y newer older q)
    (said-front key x newer (laid newer older) (said_in key older) (r (rising-rest x newer h)) ∙ said-level key x y newer older (compare-equal x.key y.key q)))
    (λ x y newer older q r h.
    let l : compare_keys y.key x.key ≡ Less = greater-less x.key y.key q in
    rw (laid-greater x y newer older q)
    (said-behind key y (x ∷ newer) older (laid (x ∷ newer) older) (below_all y x newer l (rising-first x newer h)) (r h)))

-- ---- all runs together

pub rising-union : (n : ℕ) (items : ℕ → List Item) → ((i : ℕ) → i < n → Rising (items i)) → Rising (union n items)
unfolding union
rising-union zero items h = rising_none
rising-union (suc n) items h = rising-laid (items n) (union n items) (h n (omega arith)) (rising-union n items (λ i b. h i (omega arith)))

pub said-union : (key : List ℕ) (n : ℕ) (items : ℕ → List Item) → ((i : ℕ) → i < n → Rising (items i)) → said_in key (union n items) ≡ said key n items
unfolding union said
said-union key zero items h = said_in-none key
said-union key (suc n) items h =
    said-laid key (items n) (union n items) (h n (omega arith)) ∙ ap (or_else (said_in key (items n))) (said-union key n items (λ i b. h i (omega arith)))

-- runs that say the same item by item come together to the same
pub union-same : (n : ℕ) (f g : ℕ → List Item) → ((i : ℕ) → i < n → f i ≡ g i) → union n f ≡ union n g
unfolding union
union-same zero f g h = refl
union-same (suc n) f g h = rw (h n (omega arith), union-same n f g (λ i b. h i (omega arith)))
