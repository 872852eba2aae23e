use Rattle.crc.proofs.RegisterLaws.{stepped-odd, stepped-even}
use Rattle.crc.proofs.bitwise.step.Goals as goal

pub returns-then-c-ne0 : goal.returns-then-c-ne0
returns-then-c-ne0 c = record { answers = stepped-odd c.args.c c.if-c-ne0.true }

pub returns-else-c-ne0 : goal.returns-else-c-ne0
returns-else-c-ne0 c = record { answers = stepped-even c.args.c c.if-c-ne0.false }
