-- Taking bytes (docs/RULES.md, Adding): the group that they complete, the whole groups in one store, and the rest in
-- the group buffer. Each definition holds for any erase value e. Assumes nothing.
use Rattle.std.specs.Prelude.{Bool, cond, not, false, ◌&&◌, List, [], ◌++◌, ℕ, ◌+◌, ◌-◌, ◌*◌, ◌/◌, min, eqb, leb, length, take, drop}
use Rattle.types.specs.Build.{page_size, align, chunk_header_size, max_chunk_size}
use Rattle.crc.specs.Register.{updated}
use Rattle.flash.specs.Operations.{Op, store, op_if}
use Rattle.slices.specs.Patch.{over, patch}
use Rattle.page.specs.Chunks.{align_up}
use Rattle.writer.specs.Commits.{in_group, payload_from, group_at, erase_ops, chunk_ops, next_chunk}
use Rattle.writer.specs.declared.page_writer.PageWriter.{PageWriter}

-- how many of n bytes are taken: those that the page and the chunk have room for
abbrev pub takes : ℕ → PageWriter → ℕ
takes n w = min n (min (page_size - (w.offset + chunk_header_size + w.pending)) (max_chunk_size - w.pending))

-- ---- n bytes over the groups

-- how many bytes complete the current group
abbrev pub lacking : PageWriter → ℕ
lacking w = align_up w.pending - w.pending

-- how many of n bytes go to that group
abbrev pub to_group : PageWriter → ℕ → ℕ
to_group w n = min (lacking w) n

-- whether n bytes complete it
abbrev pub completes : PageWriter → ℕ → Bool
completes w n = not (eqb (lacking w) 0) && leb (lacking w) n

-- how many of n bytes go to the whole groups behind it
abbrev pub to_whole : PageWriter → ℕ → ℕ
to_whole w n = (n - to_group w n) / align * align

-- where these whole groups lie
abbrev pub whole_at : PageWriter → ℕ → ℕ
whole_at w n = payload_from w (w.pending + to_group w n)

-- ---- the bytes themselves

-- the group buffer with the first bytes in it
unfoldable pub group_of : PageWriter → List ℕ → List ℕ
group_of w bytes = patch (in_group w) (take (to_group w (length bytes)) bytes) w.buf

-- the whole groups
abbrev pub whole_of : PageWriter → List ℕ → List ℕ
whole_of w bytes = take (to_whole w (length bytes)) (drop (to_group w (length bytes)) bytes)

-- the group buffer with the rest in it
unfoldable pub buffer_of : PageWriter → List ℕ → List ℕ
buffer_of w bytes = over (drop (to_group w (length bytes) + to_whole w (length bytes)) bytes) (group_of w bytes)

-- ---- a write that takes all these bytes

-- the writer with them, its chunk not finished
abbrev pub grown : PageWriter → List ℕ → PageWriter
grown w bytes =
    record {
      page = w.page;
      h = w.h;
      armed = false;
      crc = updated w.crc bytes;
      buf = buffer_of w bytes;
      total = w.total + length bytes;
      offset = w.offset;
      pending = w.pending + length bytes;
    }

-- whether its chunk is full
abbrev pub is_full : PageWriter → Bool
is_full w = eqb w.pending max_chunk_size

-- a chunk that is full is finished at once
abbrev pub close_ops : ℕ → PageWriter → List Op
close_ops e w = cond (is_full w) (chunk_ops e w) []

abbrev pub closed : PageWriter → PageWriter
closed w = cond (is_full w) (next_chunk w) w

-- the payload's stores: the group that the bytes complete, then all whole groups
unfoldable pub payload_ops : PageWriter → List ℕ → List Op
payload_ops w bytes =
    op_if (completes w (length bytes)) (store (group_at w) (group_of w bytes))
    ++ op_if (not (eqb (to_whole w (length bytes)) 0)) (store (whole_at w (length bytes)) (whole_of w bytes))

-- all the operations
unfoldable pub taking_ops : ℕ → PageWriter → List ℕ → List Op
taking_ops e w bytes = erase_ops e w ++ payload_ops w bytes ++ close_ops e (grown w bytes)

-- ---- write

-- the bytes that it takes
abbrev pub taken_of : PageWriter → List ℕ → List ℕ
taken_of w bytes = take (takes (length bytes) w) bytes

-- taking none does nothing
abbrev pub write_ops : ℕ → PageWriter → List ℕ → List Op
write_ops e w bytes = cond (eqb (takes (length bytes) w) 0) [] (taking_ops e w (taken_of w bytes))

abbrev pub written : PageWriter → List ℕ → PageWriter
written w bytes = cond (eqb (takes (length bytes) w) 0) w (closed (grown w (taken_of w bytes)))
