-- A page number or none goes into 16 bits and comes back. Assumes nothing.
use mathlib.Core.Path.{◌≡◌, refl}
use mathlib.Core.Logic.{⊎_elim}
use Prim.Native.Nat.{ℕ}
use borrow.Author.Tests.{eq-eqb, ne_eqb}
use Rattle.types.specs.PageIDs.{no_page, page_of_raw, raw_of}
use Rattle.types.specs.declared.page_id.PageID.{PageID}
use Rattle.std.specs.declared.option.Option.TheVariants.{None, Some}
use Rattle.types.proofs.TestLaws.{eq-or-ne}

pub raw-back : (raw : ℕ) → raw_of (page_of_raw raw) ≡ raw
raw-back raw = ⊎_elim (λ e. rw (eq-eqb raw no_page e) (rw e)) (λ n. rw (ne_eqb raw no_page n)) (eq-or-ne raw no_page)

pub none-back : page_of_raw (raw_of None) ≡ None
none-back = refl

pub page-back : (page : PageID) → (page.0 ≡ no_page → ⊥) → page_of_raw (raw_of (Some page)) ≡ Some page
page-back page n = rw (ne_eqb page.0 no_page n)
