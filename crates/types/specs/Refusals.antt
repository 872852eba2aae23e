-- The table of refusals (docs/RULES.md, Refusals): the number of each row. Assumes nothing.
use Rattle.std.specs.Prelude.{ℕ}
use Rattle.types.specs.declared.refusal.Refusal.{Refusal}
use Rattle.types.specs.declared.refusal.Refusal.TheVariants.{Corrupted, KeyBufferTooSmall, ValueBufferTooSmall, OutOfRange, BadFlash, BadHeader, BadCount, LaterEdition, Cut, BadRuns, BadState}

abbrev pub number_of : Refusal → ℕ
number_of Corrupted = 1
number_of KeyBufferTooSmall = 2
number_of ValueBufferTooSmall = 3
number_of OutOfRange = 4
number_of BadFlash = 5
number_of BadHeader = 6
number_of BadCount = 7
number_of LaterEdition = 8
number_of Cut = 9
number_of BadRuns = 10
number_of BadState = 11
