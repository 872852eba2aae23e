-- The part of the flash from the store on is lent, takes the bytes at its start, and is put back (`store-lent`). Assumes nothing.
use native.Mathlib.Omega.{arith}
use Rattle.flash.specs.Geometry.{page_start}
use Rattle.flash.proofs.LentLaws.{store-lent}
use Rattle.flash.proofs.ops.store.Goals as goal

pub returns : goal.returns
returns c =
    record {
      bytes =
          let a = c.args in
          store-lent (page_start a.page.0) a.at c.saturating_sub-room.result c.min-n.result c.min-from.result
          a.bytes.now a.flash.now c.put.new.part
          (omega arith) (omega arith) (omega arith) c.put.ensures.bytes;
    }
