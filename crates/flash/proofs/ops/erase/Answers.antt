-- The page is lent, every byte of it is set, and it is put back (`erase-lent`). Assumes nothing.
use native.Mathlib.Omega.{arith}
use Rattle.flash.specs.Geometry.{page_start}
use Rattle.flash.proofs.LentLaws.{erase-lent}
use Rattle.flash.proofs.ops.erase.Goals as goal

pub returns : goal.returns
returns c =
    record {
      bytes =
          let a = c.args in
          erase-lent a.value (page_start a.page.0) c.min-start.result c.min-end.result a.flash.now c.wipe.new.part
          (omega arith) (omega arith) c.wipe.ensures.bytes;
    }
