-- How tight a promise is (docs/RULES.md, Promises): it admits one outcome. A promise is what the caller of a function learns of
-- its result r and of its parameters at its exit e, from the lifetimes and the arguments; it is read off the `ensures` clauses
-- themselves. An outcome is the result, of a reference the bytes there, and what each lent `&mut` holds afterwards. Assumes
-- nothing.
use Rattle.std.specs.Prelude.{◌≡◌}

-- two outcomes that both meet the promise are equal
abbrev pub OneOutcome : {Lifetimes Arguments Result Exit Outcome : Type 0} → (Lifetimes → Arguments → Result → Exit → Type 0) → (Result → Exit → Outcome) → Type 0
OneOutcome {Lifetimes} {Arguments} {Result} {Exit} Promise outcome =
    (lives : Lifetimes) (args : Arguments) (r r' : Result) (e e' : Exit) → Promise lives args r e → Promise lives args r' e' → outcome r e ≡ outcome r' e'

-- an outcome of two parts
abbrev pub beside : {X Y : Type 0} → X → Y → X × Y
beside x y = (x, y)
