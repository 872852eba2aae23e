-- The calls that owe operations (docs/RULES.md, Adding): write, commit and write_header. Each definition holds for any
-- erase value e. Assumes nothing.
use Rattle.std.specs.Prelude.{List, [], ℕ, length, take, ⊤}
use Rattle.types.specs.Checks.{refused_or, Verdict}
use Rattle.flash.specs.Geometry.{page_start}
use Rattle.flash.specs.Operations.{Op, spent, allowed}
use Rattle.writer.specs.Commits.{commit_ops, committed}
use Rattle.writer.specs.Headings.{header_ops, headed}
use Rattle.writer.specs.Outcomes.{refused_at, ended_by}
use Rattle.writer.specs.Checks.{writer_check, heading_check}
use Rattle.writer.specs.Writes.{write_ops, written}
use Rattle.writer.specs.declared.answers.Ended.{Ended}
use Rattle.writer.specs.declared.page_writer.PageWriter.{PageWriter}

-- a call: what its checks say, its operations, and the writer once all are made
pub record Duty : Type 0 where
  pub check : Verdict
  pub ops : List Op
  pub next : PageWriter

-- ---- the three, of a writer w on a flash

abbrev pub write_duty : ℕ → List ℕ → PageWriter → List ℕ → Duty
write_duty e flash w bytes = record { check = writer_check (length flash) w; ops = write_ops e w bytes; next = written w bytes }

abbrev pub commit_duty : ℕ → List ℕ → PageWriter → Duty
commit_duty e flash w = record { check = writer_check (length flash) w; ops = commit_ops e w; next = committed w }

abbrev pub heading_duty : ℕ → List ℕ → PageWriter → ℕ → List ℕ → Duty
heading_duty e flash w magic header =
    record { check = heading_check (length flash) w (length header); ops = header_ops e w magic header; next = headed w }

-- ---- what one comes to, where `left` stores are left

-- the answer, the writer and the stores left
abbrev pub hands_back : Duty → PageWriter → ℕ → Ended ⊤
hands_back d w left = refused_or d.check (refused_at w left) (ended_by (spent left d.ops) d.next w)

-- the flash after it
abbrev pub leaves : Duty → PageWriter → ℕ → List ℕ → List ℕ
leaves d w left flash = refused_or d.check (λ why. flash) (allowed (page_start w.page.0) left d.ops flash)

-- the operations that are made
abbrev pub makes : Duty → ℕ → List Op
makes d left = refused_or d.check (λ why. []) (take left d.ops)
