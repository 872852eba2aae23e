-- `slices::part::put_at`: the part of the buffer from the index on is lent, takes the bytes at its start, and is put back. Assumes nothing.
use Rattle.slices.proofs.OverLaws.{put-at-back}
use Rattle.slices.proofs.part.put_at.Goals as goal

pub returns : goal.returns
returns c = record {
  bytes =
      let a = c.args in
      put-at-back a.at c.min-from.result a.bytes.now a.buffer.now c.put.new.part c.min-from.ensures c.put.ensures.bytes;
}
