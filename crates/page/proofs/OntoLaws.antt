-- Two pages that agree below the end of one's walk: the other has the same chunks, followed by what stands at that end. So an
-- addition behind the chunks, whole or cut short, loses none of them. Assumes nothing.
use Rattle.std.specs.Prelude.{Ok, Err, None}
use Rattle.types.specs.Checks.{corruption}
use mathlib.Core.Path.{◌≡◌, ap, ◌∙◌}
use mathlib.Core.List.{List, [], ◌∷◌, ◌++◌, append-nil}
use Prim.Native.Nat.{ℕ, ◌+◌, ◌≤◌}
use native.Mathlib.Omega.{arith}
use lib.ListN.{take, drop}
use Rattle.types.specs.Build.{chunk_header_size}
use Rattle.slices.specs.Patch.{patch}
use Rattle.slices.proofs.PatchLaws.{take-patch-below}
use Rattle.page.specs.Chunks.{chunk_at, payload_at, payload_fine, checked_at, found_chunk}
use Rattle.page.specs.Walks.{Chunk, Walked, walk_from}
use Rattle.page.proofs.BelowLaws.{part-below}
use Rattle.page.proofs.ChunkLaws.{next_up, chunk-below, chunk-above}
use Rattle.page.proofs.WalkLaws.{walk-end, walk-bad, walk-chunk, walk-rule}
use Rattle.page.proofs.LaidLaws.{walk-ended}

-- chunks, and a walk that goes on behind them
abbrev pub joined : List Chunk → Walked → Walked
joined cs w = record { chunks = cs ++ w.chunks; ending = w.ending }

module _ (p q : List ℕ) where
  pub walk-onto : (o e : ℕ) → (walk_from p o).ending ≡ Ok e → take e q ≡ take e p → walk_from q o ≡ joined (walk_from p o).chunks (walk_from q e)
  walk-onto o e h a =
      walk-rule p (λ o w. w.ending ≡ Ok e → walk_from q o ≡ joined w.chunks (walk_from q e))
      (λ o s h. let f : o ≡ e = cc in ap (walk_from q) f)
      (λ o s h. let z : ◌≡◌ {A = ℕ} 0 1 = cc in absurd (omega arith))
      (λ o len crc next s rest h.
      let up : next ≤ e = (walk-ended p next e h).up in
      let whole : o + 8 + len ≤ e = omega (arith, next_up p o len crc next s) in
      walk-chunk q o len crc next (chunk-below o len crc next e p q s whole a) ∙ rw (rest h))
      o h

  -- nothing stands at the end: the walk is the same
  pub walk_kept : (o e : ℕ) → (walk_from p o).ending ≡ Ok e → take e q ≡ take e p → chunk_at q e ≡ Ok None → walk_from q o ≡ walk_from p o
  walk_kept o e h a s = walk-onto o e h a ∙ rw (walk-end q e s, append-nil, ← h)

  -- one chunk more stands there
  pub walk-added : (o e len crc next : ℕ) → (walk_from p o).ending ≡ Ok e → take e q ≡ take e p
      → chunk_at q e ≡ found_chunk len crc next → chunk_at q next ≡ Ok None
      → walk_from q o ≡ record { chunks = (walk_from p o).chunks ++ (record { offset = e; len = len; crc = crc } ∷ []); ending = Ok next }
  walk-added o e len crc next h a s t = walk-onto o e h a ∙ rw (walk-chunk q e len crc next s, walk-end q next t)

  -- a chunk stands there that cannot be
  pub walk-spoilt : (o e : ℕ) → (walk_from p o).ending ≡ Ok e → take e q ≡ take e p → chunk_at q e ≡ Err corruption
      → walk_from q o ≡ record { chunks = (walk_from p o).chunks; ending = Err corruption }
  walk-spoilt o e h a s = walk-onto o e h a ∙ rw (walk-bad q e s, append-nil)

  -- nothing before the start counts
  pub walk-above : (s o : ℕ) → s ≤ o → drop s q ≡ drop s p → walk_from q o ≡ walk_from p o
  walk-above s o h a =
      walk-rule p (λ o w. s ≤ o → walk_from q o ≡ w)
      (λ o t h. walk-end q o (chunk-above s o p q h a ∙ t))
      (λ o t h. walk-bad q o (chunk-above s o p q h a ∙ t))
      (λ o len crc next t rest h.
      walk-chunk q o len crc next (chunk-above s o p q h a ∙ t) ∙ rw (rest (omega (arith, next_up p o len crc next t))))
      o h

-- ---- the same with a patch

pub walk-patched : (page : List ℕ) (o e at : ℕ) (bytes : List ℕ) → (walk_from page o).ending ≡ Ok e → e ≤ at
    → walk_from (patch at bytes page) o ≡ joined (walk_from page o).chunks (walk_from (patch at bytes page) e)
walk-patched page o e at bytes h k = walk-onto page (patch at bytes page) o e h (take-patch-below e at bytes page k)

-- ---- payloads and sums

pub payload-below : (o len e : ℕ) (p q : List ℕ) → o + chunk_header_size + len ≤ e → take e q ≡ take e p → payload_at q o len ≡ payload_at p o len
payload-below o len e p q h a = part-below len (o + 8) e p q h a

-- so it is all there, and its sum right, on both or on neither
pub fine-below : (o len crc e : ℕ) (p q : List ℕ) → o + chunk_header_size + len ≤ e → take e q ≡ take e p → payload_fine q o len crc ≡ payload_fine p o len crc
fine-below o len crc e p q h a = rw (payload-below o len e p q h a)

-- a chunk's check looks at its own bytes alone
pub checked-below : (o len crc next e : ℕ) (p q : List ℕ) → chunk_at p o ≡ found_chunk len crc next → o + chunk_header_size + len ≤ e → take e q ≡ take e p
    → checked_at q o ≡ checked_at p o
unfolding checked_at
checked-below o len crc next e p q s h a =
    rw (chunk-below o len crc next e p q s h a, s, payload-below o len e p q h a)
