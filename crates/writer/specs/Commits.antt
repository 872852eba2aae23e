-- Finishing a chunk (docs/RULES.md, Adding): the erase if one is armed, the group that is not finished, then the
-- header. Each definition holds for any erase value e. Assumes nothing.
use Rattle.std.specs.Prelude.{cond, not, false, List, [], ◌∷◌, ◌++◌, ℕ, ◌+◌, ◌-◌, ◌%◌, eqb, take, drop}
use Rattle.types.specs.Build.{align, chunk_header_size}
use Rattle.crc.specs.Register.{preset, finished}
use Rattle.flash.specs.Operations.{Op, erase, store, op_if}
use Rattle.page.specs.Chunks.{chunk_header, next_offset}
use Rattle.writer.specs.declared.page_writer.PageWriter.{PageWriter}

-- how many bytes the unfinished group has
abbrev pub in_group : PageWriter → ℕ
in_group w = w.pending % align

-- the offset of the payload's byte n
abbrev pub payload_from : PageWriter → ℕ → ℕ
payload_from w n = w.offset + chunk_header_size + n

-- where the unfinished group lies
abbrev pub group_at : PageWriter → ℕ
group_at w = payload_from w (w.pending - in_group w)

-- what fills it up: whatever the group buffer holds there
abbrev pub padding : PageWriter → List ℕ
padding w = drop (in_group w) w.buf

-- the group with its padding
abbrev pub last_group : PageWriter → List ℕ
last_group w = take (in_group w) w.buf ++ padding w

-- the erase, if it is armed
abbrev pub erase_ops : ℕ → PageWriter → List Op
erase_ops e w = op_if w.armed (erase e)

-- the store of the unfinished group
abbrev pub rest_ops : PageWriter → List Op
rest_ops w = op_if (not (eqb (in_group w) 0)) (store (group_at w) (last_group w))

-- the store of the chunk's header
abbrev pub seal_op : PageWriter → Op
seal_op w = store w.offset (chunk_header w.pending (finished w.crc))

-- the operations that finish a chunk
unfoldable pub chunk_ops : ℕ → PageWriter → List Op
chunk_ops e w = erase_ops e w ++ rest_ops w ++ (seal_op w ∷ [])

-- the writer after a finished chunk
abbrev pub next_chunk : PageWriter → PageWriter
next_chunk w =
    record {
      page = w.page;
      h = w.h;
      armed = false;
      crc = preset;
      buf = w.buf;
      total = w.total;
      offset = next_offset w.offset w.pending;
      pending = 0;
    }

-- commit: with nothing pending it does nothing
abbrev pub commit_ops : ℕ → PageWriter → List Op
commit_ops e w = cond (eqb w.pending 0) [] (chunk_ops e w)

abbrev pub committed : PageWriter → PageWriter
committed w = cond (eqb w.pending 0) w (next_chunk w)
