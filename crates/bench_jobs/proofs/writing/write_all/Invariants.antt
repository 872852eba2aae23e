-- `bench_jobs::writing::write_all`: the writes that are left come to the whole. Assumes nothing.
use mathlib.Core.Path.{◌≡◌}
use Prim.Native.Nat.{◌+◌, ◌-◌}
use lib.ListN.{length}
use Rattle.types.specs.Build.{page_size}
use Rattle.bench_jobs.specs.Writings.{write_state, write_on, write_all}
use Rattle.bench_jobs.proofs.writing.write_all.Given as goal

abbrev pub invariant-loop-i : goal.invariant-loop-i
invariant-loop-i l = (length l.flash ≡ length l.initial.flash)
    × (write_on (page_size + 1 - l.i) l.payload l.piece (write_state l.w l.flash) ≡ write_all l.payload l.piece (write_state l.initial.w l.initial.flash))
