-- The loops of the allocator's job. Assumes nothing.
use mathlib.Core.Path.{◌≡◌, ap, ◌∙◌}
use Prim.Native.Nat.{ℕ, ◌+◌, ◌≤◌}
use native.Mathlib.Numerals.{add-one}
use native.Mathlib.Omega.{arith}
use Rattle.types.specs.Build.{max_page_count}
use Rattle.bench_jobs.specs.Allocations.{allocate_one, allocate_first, free_one, free_first}
use Rattle.bench_jobs.specs.declared.allocating.Tally.{Tally}

pub allocate-again : (n : ℕ) (start t next : Tally) → t ≡ allocate_first n start → next ≡ allocate_one t → next ≡ allocate_first (n + 1) start
unfolding allocate_first
allocate-again n start t next so_far one = rw add-one (one ∙ ap allocate_one so_far)

pub free-again : (n : ℕ) (start t next : Tally) → t ≡ free_first n start → next ≡ free_one n t → next ≡ free_first (n + 1) start
unfolding free_first
free-again n start t next so_far one = rw add-one (one ∙ ap (free_one n) so_far)

all-of-them : (n : ℕ) → n ≤ max_page_count → max_page_count ≤ n → n ≡ max_page_count
all-of-them n most least = omega arith

pub allocate-end : (n : ℕ) (start t : Tally) → n ≤ max_page_count → max_page_count ≤ n → t ≡ allocate_first n start → t ≡ allocate_first max_page_count start
allocate-end n start t most least so_far = so_far ∙ ap (λ (k : ℕ). allocate_first k start) (all-of-them n most least)

pub free-end : (n : ℕ) (start t : Tally) → n ≤ max_page_count → max_page_count ≤ n → t ≡ free_first n start → t ≡ free_first max_page_count start
free-end n start t most least so_far = so_far ∙ ap (λ (k : ℕ). free_first k start) (all-of-them n most least)
