-- A reader that was opened, and moved on by calls on the same flash, can be kept and brought back, the same as it was. Assumes nothing.
use Rattle.std.specs.Prelude.{Ok}
use mathlib.Core.Path.{◌≡◌, sym, subst}
use mathlib.Core.Bool.{false}
use mathlib.Core.List.{List}
use mathlib.Core.Logic.{⊎_elim}
use Prim.Native.Nat.{ℕ}
use lib.ListN.{length}
use Rattle.types.specs.declared.page_id.PageID.{PageID}
use Rattle.types.proofs.TestLaws.{decided}
use Rattle.crc.specs.Published.{published}
use Rattle.flash.specs.Geometry.{page_of}
use Rattle.page.specs.Chunks.{payload_at}
use Rattle.reader.specs.Calls.{rehydrate_from}
use Rattle.reader.specs.Checks.{reader_check}
use Rattle.reader.specs.States.{stored}
use Rattle.reader.specs.declared.page_reader.PageReader.{PageReader}
use Rattle.page.proofs.ChunkLaws.{fine-sum}
use Rattle.reader.proofs.OpenLaws.{rehydrate-ended, rehydrate-right}
use Rattle.reader.proofs.StandingLaws.{Stands}

pub kept-comes-back : (r s : PageReader) (flash : List ℕ) (page : PageID) (o : ℕ) → reader_check (length flash) s ≡ Ok tt → Stands page (page_of page.0 flash) o s
    → rehydrate_from r flash (stored s) ≡ record { answer = Ok tt; reader = s }
kept-comes-back r s flash page o v k =
    ⊎_elim (λ e. sym (rehydrate-ended r flash (stored s) v e)) (λ e. sym (rehydrate-right r flash (stored s) v e (sum e))) (decided s.ended)
  where
    -- the payload of its chunk has the sum that it knows
    sum : s.ended ≡ false → published (payload_at (page_of s.page.0 flash) s.offset s.len) ≡ s.crc
    sum e =
        subst (λ (p : PageID). published (payload_at (page_of p.0 flash) s.offset s.len) ≡ s.crc) (sym k.0)
        (fine-sum (page_of page.0 flash) s.offset s.len s.crc (k.1 e).sum)
