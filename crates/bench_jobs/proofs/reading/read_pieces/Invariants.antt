-- `bench_jobs::reading::read_pieces`: the reads that are left come to the whole. Assumes nothing.
use mathlib.Core.Path.{◌≡◌}
use Prim.Native.Nat.{◌+◌, ◌-◌}
use lib.ListN.{length}
use Rattle.types.specs.Build.{page_size}
use Rattle.bench_jobs.specs.Readings.{read_state, read_while_on, read_pieces}
use Rattle.bench_jobs.proofs.reading.read_pieces.Given as goal

abbrev pub invariant-loop-i : goal.invariant-loop-i
invariant-loop-i l = (length l.out ≡ length l.initial.out)
    × (read_while_on (page_size + 1 - l.i) l.flash (read_state l.r l.out) ≡ read_pieces l.flash (read_state l.initial.r l.initial.out))
