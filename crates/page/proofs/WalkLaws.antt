-- The walk needs no bound on its steps: more than fit a page change nothing. So it goes step by step, and one rule proves what
-- holds of every walk. Assumes nothing.
use Rattle.std.specs.Prelude.{Ok, Err, Some, None}
use Rattle.types.specs.Checks.{corruption}
use mathlib.Core.Path.{◌≡◌, refl, ◌∙◌}
use mathlib.Core.List.{List, [], ◌∷◌}
use Prim.Native.Nat.{ℕ, zero, suc, ◌+◌, ◌*◌, ◌≤◌, ◌<◌}
use native.Mathlib.Omega.{arith}
use Rattle.types.specs.Build.{page_size, chunk_header_size}
use Rattle.page.specs.Chunks.{chunk_at, Step, found_chunk}
use Rattle.page.specs.Walks.{Walked, walk_after, walk, walk_from}
use Rattle.page.proofs.ChunkLaws.{chunk-past, next_up}

-- ---- more steps than fit change nothing

module _ (page : List ℕ) where
  after_same : (m n o : ℕ) (s : Step) → chunk_at page o ≡ s → ((next : ℕ) → o + chunk_header_size ≤ next → walk m page next ≡ walk n page next)
      → walk_after (walk m page) o s ≡ walk_after (walk n page) o s
  after_same m n o (Ok None) e more = refl
  after_same m n o (Err w) e more = refl
  after_same m n o (Ok (Some chunk)) e more = rw (more chunk.next (omega (arith, next_up page o chunk.len chunk.crc chunk.next e)))

  -- two numbers of steps that are both enough
  pub walk_same : (m n o : ℕ) → page_size < o + chunk_header_size + chunk_header_size * m → page_size < o + chunk_header_size + chunk_header_size * n → walk m page o ≡ walk n page o
  unfolding walk
  walk_same zero zero o h k = refl
  walk_same zero (suc n) o h k = rw (chunk-past page o (omega arith))
  walk_same (suc m) zero o h k = rw (chunk-past page o (omega arith))
  walk_same (suc m) (suc n) o h k = after_same m n o (chunk_at page o) refl (λ next up. walk_same m n next (omega arith) (omega arith))

  pub walk-enough : (n o : ℕ) → page_size < o + chunk_header_size + chunk_header_size * n → walk n page o ≡ walk_from page o
  unfolding walk_from
  walk-enough n o h = walk_same n 513 o h (omega arith)

  -- one step of the walk
  pub walk_step : (o : ℕ) → walk_from page o ≡ walk_after (walk_from page) o (chunk_at page o)
  unfolding walk_from walk
  walk_step o = after_same 512 513 o (chunk_at page o) refl (λ next up. walk_same 512 513 next (omega arith) (omega arith))

  pub walk-end : (o : ℕ) → chunk_at page o ≡ Ok None → walk_from page o ≡ record { chunks = []; ending = Ok o }
  walk-end o e = walk_step o ∙ rw e

  pub walk-bad : (o : ℕ) → chunk_at page o ≡ Err corruption → walk_from page o ≡ record { chunks = []; ending = Err corruption }
  walk-bad o e = walk_step o ∙ rw e

  pub walk-chunk : (o len crc next : ℕ) → chunk_at page o ≡ found_chunk len crc next
      → walk_from page o
      ≡ record { chunks = record { offset = o; len = len; crc = crc } ∷ (walk_from page next).chunks; ending = (walk_from page next).ending }
  walk-chunk o len crc next e = walk_step o ∙ rw e

  -- ---- a rule for what holds of every walk

  -- the walk of a page, and the three ways to it
  module _ (P : ℕ → Walked → Type 0)
      (end : (o : ℕ) → chunk_at page o ≡ Ok None → P o (record { chunks = []; ending = Ok o }))
      (bad : (o : ℕ) → chunk_at page o ≡ Err corruption → P o (record { chunks = []; ending = Err corruption }))
      (more : (o len crc next : ℕ) → chunk_at page o ≡ found_chunk len crc next → P next (walk_from page next)
      → P o (record { chunks = record { offset = o; len = len; crc = crc } ∷ (walk_from page next).chunks; ending = (walk_from page next).ending }))
    where
      rule-after : (n o : ℕ) (s : Step) → chunk_at page o ≡ s → page_size < o + chunk_header_size + chunk_header_size * suc n
          → ((next : ℕ) → page_size < next + chunk_header_size + chunk_header_size * n → P next (walk_from page next))
          → P o (walk_from page o)
      rule-after n o (Ok None) e h rest = rw (walk-end o e) (end o e)
      rule-after n o (Err w) e h rest = rw (walk-bad o e) (bad o e)
      rule-after n o (Ok (Some chunk)) e h rest =
          rw (walk-chunk o chunk.len chunk.crc chunk.next e) (more o chunk.len chunk.crc chunk.next e (rest chunk.next (omega (arith, next_up page o chunk.len chunk.crc chunk.next e))))

      rule-by : (n o : ℕ) → page_size < o + chunk_header_size + chunk_header_size * n → P o (walk_from page o)
      rule-by zero o h = let e : chunk_at page o ≡ (Ok None) = chunk-past page o (omega arith) in rw (walk-end o e) (end o e)
      rule-by (suc n) o h = rule-after n o (chunk_at page o) refl h (λ next k. rule-by n next k)

      pub walk-rule : (o : ℕ) → P o (walk_from page o)
      walk-rule o = rule-by 513 o (omega arith)
