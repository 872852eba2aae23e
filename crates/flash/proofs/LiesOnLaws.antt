-- Operations that lie on the flash are made as they are owed, and one that does not leaves the flash and the count. Assumes nothing.
use mathlib.Core.Path.{◌≡◌, refl, ap, ◌∙◌}
use mathlib.Core.Bool.{Bool, true, false, not, ◌&&◌}
use mathlib.Core.List.{List, [], ◌∷◌, ◌++◌}
use Prim.Native.Nat.{ℕ, ◌-◌}
use native.Mathlib.Omega.{arith}
use lib.ListN.{length, take}
use Rattle.types.specs.Build.{page_size, align}
use Rattle.types.proofs.TestLaws.{both_true}
use Rattle.flash.specs.Geometry.{page_start}
use Rattle.flash.specs.Operations.{Op, erase, store, op_if, lies_on, all_lie_on, spent_on, allowed_on}
use Rattle.flash.specs.declared.ops.Spent.{Spent}
use Rattle.flash.proofs.OperationLaws.{Ran, ran_append}
use Rattle.flash.proofs.PageLaws.{length-applied}

-- ---- a list in two parts

pub lies-both : (n p : ℕ) (a b : List Op) → all_lie_on n p (a ++ b) ≡ true → (all_lie_on n p a ≡ true) × (all_lie_on n p b ≡ true)
lies-both n p [] b h = (refl, h)
lies-both n p (op ∷ a) b h =
    let here = both_true (lies_on n p op) (all_lie_on n p (a ++ b)) h in
    let later = lies-both n p a b here.1 in
    (rw (here.0, later.0), later.1)

pub lies-append : (n p : ℕ) (a b : List Op) → all_lie_on n p a ≡ true → all_lie_on n p b ≡ true → all_lie_on n p (a ++ b) ≡ true
lies-append n p [] b f g = g
lies-append n p (op ∷ a) b f g =
    let here = both_true (lies_on n p op) (all_lie_on n p a) f in
    rw (here.0, lies-append n p a b here.1 g)

-- ---- what operations on any page come to

-- r is handed back and ys is the flash, where xs was and operations on page p were asked for
abbrev pub RanOn : ℕ → ℕ → List Op → List ℕ → Spent → List ℕ → Type 0
RanOn p left ops xs r ys = (r ≡ spent_on (length xs) p left ops) × (ys ≡ allowed_on p left ops xs)

-- operations that lie on the flash are made as they are owed
pub ran_on : (p left : ℕ) (ops : List Op) (xs ys : List ℕ) (r : Spent) → all_lie_on (length xs) p ops ≡ true
    → Ran (page_start p) left ops xs r ys → RanOn p left ops xs r ys
ran_on p left ops xs ys r lie ran = (ran.0 ∙ rw lie, ran.1 ∙ rw lie)

pub on-ran : (p left : ℕ) (ops : List Op) (xs ys : List ℕ) (r : Spent) → all_lie_on (length xs) p ops ≡ true
    → RanOn p left ops xs r ys → Ran (page_start p) left ops xs r ys
on-ran p left ops xs ys r lie on = (rw lie at on.0, rw lie at on.1)

-- those that follow others lie on a flash that is as long as before
pub ran-next : (p left : ℕ) (a b : List Op) (xs ys zs : List ℕ) (r s : Spent) → all_lie_on (length xs) p b ≡ true
    → Ran (page_start p) left a xs r ys → RanOn p r.left b ys s zs
    → Ran (page_start p) left (a ++ b) xs (record { ok = r.ok && s.ok; left = s.left }) zs
ran-next p left a b xs ys zs r s lie ran on =
    let long : length ys ≡ length xs = ap length ran.1 ∙ length-applied (page_start p) (take left a) xs in
    ran_append (page_start p) left a b xs ys zs r s ran (on-ran p r.left b ys zs s (rw long lie) on)

-- ---- one operation, if it is due

-- it is due, and the test says that it does not lie on the flash
pub off-flash : (p left : ℕ) (due lies : Bool) (op : Op) (xs : List ℕ) → lies ≡ lies_on (length xs) p op → (due && not lies) ≡ true
    → RanOn p left (op_if due op) xs (record { ok = false; left = left }) xs
off-flash p left true true op xs t e = let z : ◌≡◌ {A = ℕ} 0 1 = cc in absurd (omega arith)
off-flash p left true false op xs t e = (rw (← t), rw (← t))
off-flash p left false lies op xs t e = let z : ◌≡◌ {A = ℕ} 0 1 = cc in absurd (omega arith)

-- ---- on a flash of one page

-- page 1 is not there, and four bytes at 4,094 pass the page's end: nothing is counted; at 4,092 they do not
missing-page-refused : spent_on page_size 1 3 (store 0 (7 ∷ []) ∷ []) ≡ record { ok = false; left = 3 }
missing-page-refused = refl

missing-erase-refused : spent_on page_size 1 3 (erase 255 ∷ []) ≡ record { ok = false; left = 3 }
missing-erase-refused = refl

long-store-refused : spent_on page_size 0 3 (store (page_size - 2) (7 ∷ 7 ∷ 7 ∷ 7 ∷ []) ∷ []) ≡ record { ok = false; left = 3 }
long-store-refused = refl

last-group-stored : spent_on page_size 0 3 (store (page_size - align) (7 ∷ 7 ∷ 7 ∷ 7 ∷ []) ∷ []) ≡ record { ok = true; left = 2 }
last-group-stored = refl
