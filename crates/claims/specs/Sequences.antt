-- What is claimed of a writer's calls that owe operations: one that is made again, and any of them one after the other, refused ones
-- among them. Assumes nothing.
use Rattle.std.specs.Prelude.{◌≡◌, List, [], ◌∷◌, ◌++◌, ℕ}
use Rattle.types.specs.Histories.{told_by_each}
use Rattle.flash.specs.Geometry.{page_of}
use Rattle.flash.specs.Operations.{Op}
use Rattle.writer.specs.Calls.{World, AddCall, writes, commits, heads, hands_back_in, leaves_in, makes_in}
use Rattle.writer.specs.Landings.{Lands}

-- ---- a call that is made again

-- the same, where `stores` may be made now
abbrev pub powered : ℕ → World → World
powered stores x = record { flash = x.flash; writer = x.writer; left = stores }

-- what a call left, where `stores` may be made now: there it is made again
abbrev pub again_in : ℕ → World → AddCall → ℕ → World
again_in e x call stores = powered stores (leaves_in e x call)

-- in two worlds a call hands back the same and leaves the same
abbrev pub SameIn : ℕ → AddCall → World → World → Type 0
SameIn e call x y = (hands_back_in e x call ≡ hands_back_in e y call) × (leaves_in e x call ≡ leaves_in e y call)

-- ---- calls one after the other

-- a call that was made: the bytes of its page before it, and the operations that it made
pub record Making : Type 0 where
  pub call : AddCall
  pub page : List ℕ
  pub ops : List Op

abbrev pub making_in : ℕ → World → AddCall → Making
making_in e x call = record { call = call; page = page_of x.writer.page.0 x.flash; ops = makes_in e x call }

-- what calls make, call by call
abbrev pub makings : ℕ → World → List AddCall → List Making
makings e x calls = told_by_each (leaves_in e) (making_in e) x calls

-- all operations that were made, in their order
abbrev pub all_ops : List Making → List Op
all_ops [] = []
all_ops (m ∷ ms) = m.ops ++ all_ops ms

-- each store of write and commit lies within the page, on bytes that read as erased just before it; the page header goes over what is there
abbrev pub LandsBy : ℕ → AddCall → List Op → List ℕ → Type 0
LandsBy e (writes bytes) ops page = Lands e ops page
LandsBy e commits ops page = Lands e ops page
LandsBy e (heads magic header) ops page = Unit

-- each of these calls keeps to that
abbrev pub AllLand : ℕ → List Making → Type 0
AllLand e [] = Unit
AllLand e (m ∷ ms) = LandsBy e m.call m.ops m.page × AllLand e ms
