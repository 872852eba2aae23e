-- The page header: its tests, and which bytes they look at. Assumes nothing.
use mathlib.Core.Path.{◌≡◌}
use mathlib.Core.Bool.{true, false, ◌&&◌, and-false}
use mathlib.Core.List.{List}
use mathlib.Core.Logic.{⊎_elim}
use Prim.Native.Nat.{ℕ, ◌+◌, ◌-◌, ◌≤◌, ◌<◌, min}
use native.Mathlib.Omega.{arith}
use lib.Dec.{eqb, leb}
use lib.ListN.{length, take, length-take, length-drop}
use borrow.Author.Tests.{eqb-true, eq-eqb, ne_eqb, le-leb, lt-leb}
use Rattle.types.specs.Build.{page_header_size}
use Rattle.types.proofs.TestLaws.{both_true, le-or-lt}
use Rattle.crc.specs.Published.{published}
use Rattle.slices.specs.Fields.{field}
use Rattle.page.specs.Headers.{header_of, header_there, page_header_fine}
use Rattle.page.proofs.BelowLaws.{part-below, field_below, longer-below}

module _ (page : List ℕ) (magic p h : ℕ) where
  -- that it is there, magic and number decide first, then the sum
  pub header-known : (header_there page h && eqb (field 4 page 0) magic && eqb (field 4 page 4) p) ≡ true
      → page_header_fine page magic p h ≡ eqb (field 4 page 8) (published (header_of page h))
  unfolding page_header_fine
  header-known e = rw e

  pub header-unknown : (header_there page h && eqb (field 4 page 0) magic && eqb (field 4 page 4) p) ≡ false → page_header_fine page magic p h ≡ false
  unfolding page_header_fine
  header-unknown e = rw e

  pub header-other-magic : (field 4 page 0 ≡ magic → ⊥) → page_header_fine page magic p h ≡ false
  header-other-magic n = header-unknown (rw (ne_eqb (field 4 page 0) magic n, and-false (header_there page h)))

  pub header-other-page : (field 4 page 4 ≡ p → ⊥) → page_header_fine page magic p h ≡ false
  header-other-page n = header-unknown (rw (ne_eqb (field 4 page 4) p n) (and-false (header_there page h && eqb (field 4 page 0) magic)))

  pub header-there : page_header_size + h ≤ length page → header_there page h ≡ true
  header-there room =
      let whole : length (header_of page h) ≡ h = simp (length-take, length-drop) (omega arith) in
      rw (le-leb page_header_size (length page) (omega arith), eq-eqb (length (header_of page h)) h whole)

  pub header-sum : page_header_size + h ≤ length page → field 4 page 0 ≡ magic → field 4 page 4 ≡ p
      → page_header_fine page magic p h ≡ eqb (field 4 page 8) (published (header_of page h))
  header-sum room e f = header-known (rw (header-there room, eq-eqb (field 4 page 0) magic e, eq-eqb (field 4 page 4) p f))

-- a header that is not all there is not fine
pub header-short : (page : List ℕ) (magic p h : ℕ) → length page < page_header_size + h → page_header_fine page magic p h ≡ false
header-short page magic p h short = header-unknown page magic p h (rw not_there)
  where
    not_there : header_there page h ≡ false
    not_there =
        ⊎_elim
        (λ (room : 12 ≤ length page).
        let few : length (header_of page h) ≡ h → ⊥ = λ e. let k : min h (length page - 12) ≡ h = simp (length-take, length-drop) at e in omega arith in
        rw (ne_eqb (length (header_of page h)) h few, and-false (leb 12 (length page))))
        (λ (none : length page < 12). rw (lt-leb 12 (length page) none))
        (le-or-lt 12 (length page))

-- a fine header, taken apart
pub header-found : (page : List ℕ) (magic p h : ℕ) → page_header_fine page magic p h ≡ true
    → (field 4 page 0 ≡ magic) × ((field 4 page 4 ≡ p) × (field 4 page 8 ≡ published (header_of page h)))
unfolding page_header_fine
header-found page magic p h e =
    let l = both_true _ _ e in
    let k = both_true _ _ l.0 in
    let there = both_true (header_there page h) (eqb (field 4 page 0) magic) k.0 in
    (eqb-true (field 4 page 0) magic there.1, (eqb-true (field 4 page 4) p k.1, eqb-true (field 4 page 8) (published (header_of page h)) l.1))

-- ---- only the header's own bytes count

pub header_of-below : (h e : ℕ) (p q : List ℕ) → page_header_size + h ≤ e → take e q ≡ take e p → header_of q h ≡ header_of p h
header_of-below h e p q k a = part-below h 12 e p q k a

pub header-below : (magic n h e : ℕ) (p q : List ℕ) → page_header_size + h ≤ e → take e q ≡ take e p → page_header_fine q magic n h ≡ page_header_fine p magic n h
unfolding page_header_fine
header-below magic n h e p q k a =
    rw (longer-below 12 e p q (omega arith) a, field_below 4 0 e p q (omega arith) a, field_below 4 4 e p q (omega arith) a, field_below 4 8 e p q (omega arith) a, header_of-below h e p q k a)
