-- No read hands out more than there is room for. Assumes nothing.
use Rattle.std.specs.Prelude.{Ok, Err}
use Rattle.std.specs.declared.result.Result.{Result}
use Rattle.types.specs.declared.refusal.Corrupted.{Corrupted}
use mathlib.Core.Path.{◌≡◌}
use mathlib.Core.List.{List}
use Prim.Native.Nat.{ℕ, ◌≤◌, min}
use native.Mathlib.Omega.{arith}
use lib.ListN.{length}
use Rattle.types.specs.Checks.{refused_or, Verdict}
use Rattle.flash.specs.Geometry.{page_of}
use Rattle.reader.specs.Calls.{read, refused_passage, read_of}
use Rattle.reader.specs.Checks.{reader_check}
use Rattle.reader.specs.Moves.{ready, rest_of}
use Rattle.reader.specs.declared.page_reader.PageReader.{PageReader}

module _ (page : List ℕ) (r : PageReader) (room n : ℕ) where
  most-of : (v : Verdict) (a : Result PageReader Corrupted) → (refused_or v (refused_passage r) (read_of page r room a)).answer ≡ Ok n → n ≤ room
  most-of (Err why) a e = let z : ◌≡◌ {A = ℕ} 0 1 = cc in absurd (omega arith)
  most-of (Ok tt) (Err w) e = let z : ◌≡◌ {A = ℕ} 0 1 = cc in absurd (omega arith)
  most-of (Ok tt) (Ok s) e = let z : min room (length (rest_of page s)) ≡ n = cc in omega arith

pub read-most : (r : PageReader) (flash : List ℕ) (room n : ℕ) → (read r flash room).answer ≡ Ok n → n ≤ room
unfolding read
read-most r flash room n e =
    most-of (page_of r.page.0 flash) r room n (reader_check (length flash) r) (ready (page_of r.page.0 flash) r) e
