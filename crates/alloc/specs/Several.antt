-- Several pages by one call: calls of try_allocate, or of free, each on the allocator that the one before left; but where one of the
-- pages cannot be freed, none is. The state is checked even where no page is asked for. Assumes nothing.
use Rattle.std.specs.declared.option.Option.{Option}
use Rattle.std.specs.declared.result.Result.{Result}
use Rattle.types.specs.declared.page_id.PageID.{PageID}
use Rattle.std.specs.Prelude.{List, [], ◌∷◌, ◌++◌, ℕ, zero, suc, length, drop, Ok, Err, Some, None, ⊤}
use Rattle.types.specs.Checks.{refused_or}
use Rattle.types.specs.declared.refusal.Refusal.{Refusal}
use Rattle.alloc.specs.Calls.{try_allocate, free, done, refused_change}
use Rattle.alloc.specs.Checks.{state_check}
use Rattle.alloc.specs.declared.allocator.Allocator.{Allocator}
use Rattle.alloc.specs.declared.answers.Change.{Change}

-- ---- try_allocate_each

-- the pages that calls hand out, and the allocator that they leave
pub record Handed : Type 0 where
  pub pages : List ℕ
  pub allocator : Allocator

-- no page is handed out
abbrev pub nothing_handed : Allocator → Handed
nothing_handed a = record { pages = []; allocator = a }

-- a call that hands out no page is the last
abbrev pub then_further : Result (Option PageID) Refusal → Allocator → Handed → Handed
then_further (Ok (Some page)) a further = record { pages = page.0 ∷ further.pages; allocator = further.allocator }
then_further (Ok None) a further = nothing_handed a
then_further (Err why) a further = nothing_handed a

-- by at most n calls of try_allocate
unfoldable pub handed_by : ℕ → Allocator → Handed
handed_by zero a = nothing_handed a
handed_by (suc n) a = then_further (try_allocate a).answer a (handed_by n (try_allocate a).allocator)

-- refused, with the allocator as it was
abbrev pub refused_allocations : Allocator → Refusal → Change ℕ
refused_allocations a why = record { answer = Err why; allocator = a }

-- how many pages calls hand out, and the allocator that they leave
abbrev pub allocations_of : Handed → Change ℕ
allocations_of h = record { answer = Ok (length h.pages); allocator = h.allocator }

-- with n places
unfoldable pub try_allocate_each : Allocator → ℕ → Change ℕ
try_allocate_each a n = refused_or (state_check a) (refused_allocations a) (allocations_of (handed_by n a))

-- the places afterwards: the pages at their start, the rest staying
abbrev pub put_first : List ℕ → List ℕ → List ℕ
put_first pages places = pages ++ drop (length pages) places

-- the places that were lent, after try_allocate_each
unfoldable pub places_after : Allocator → List ℕ → List ℕ
places_after a places = put_first (handed_by (length places) a).pages places

-- ---- free_each

-- the first refusal refuses all, with the allocator as it was at the start
abbrev pub then_freeing : Result ⊤ Refusal → Allocator → Change ⊤ → Change ⊤
then_freeing (Ok tt) start further = further
then_freeing (Err why) start further = refused_change start why

-- these pages are still to be freed, in this order; a call that is refused gives the number, 4 or 1
unfoldable pub free_on : Allocator → List ℕ → Allocator → Change ⊤
free_on start [] a = done a
free_on start (p ∷ ps) a =
    then_freeing (free a (record { 0 = p })).answer start (free_on start ps (free a (record { 0 = p })).allocator)

-- all pages of the list are freed, or none
unfoldable pub free_each : Allocator → List ℕ → Change ⊤
free_each a pages = refused_or (state_check a) (refused_change a) (free_on a pages a)
