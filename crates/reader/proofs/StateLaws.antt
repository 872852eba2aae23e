-- States that are the same. Assumes nothing.
use mathlib.Core.Path.{◌≡◌, refl, ap}
use Prim.Native.Nat.{ℕ}
use Rattle.types.specs.declared.page_id.PageID.{PageID}
use Rattle.reader.specs.States.{unread, new_reader, stored, restored}
use Rattle.reader.specs.declared.page_reader.PageReader.{PageReader}

pub unread-zero : (page : PageID) → page.0 ≡ 0 → unread page ≡ new_reader
unread-zero page e = ap (λ (n : ℕ). unread (record { 0 = n })) e

-- nothing is lost in keeping a reader
pub restored-stored : (r : PageReader) → restored (stored r) ≡ r
restored-stored r = refl
