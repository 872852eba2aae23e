-- The good part of a list of chunks: the payloads up to the first wrong sum. Assumes nothing.
use Rattle.std.specs.Prelude.{Ok, Err, Some, None}
use Rattle.types.specs.Checks.{corruption}
use Rattle.std.specs.declared.result.Result.{Result}
use Rattle.types.specs.declared.refusal.Corrupted.{Corrupted}
use mathlib.Core.Path.{◌≡◌, refl, ap, ap₂, ◌∙◌}
use mathlib.Core.Bool.{true, false}
use mathlib.Core.List.{List, [], ◌∷◌, ◌++◌, map, append-nil}
use mathlib.Core.Logic.{⊎_elim}
use Prim.Native.Nat.{ℕ, ◌%◌}
use lib.ListN.{take}
use Rattle.types.specs.Build.{align}
use Rattle.types.specs.declared.refusal.Refusal.TheVariants as row
use Rattle.types.proofs.TestLaws.{decided}
use Rattle.page.specs.Chunks.{chunk_at, payload_at, checked_at, Step}
use Rattle.page.specs.Walks.{Chunk, Walked, walk_from}
use Rattle.page.proofs.ChunkLaws.{checked-end, checked-bad, checked-right, checked-wrong}
use Rattle.page.proofs.LaidLaws.{All, Placed, walk-laid, laid-placed, walk-ends-at}
use Rattle.page.proofs.OntoLaws.{walk-onto, payload-below}
use Rattle.page.proofs.WalkLaws.{walk-end, walk-bad, walk-chunk}
use Rattle.reader.specs.Finds.{Found, nothing_more, and_then, payload_of, sum_right, end_verdict, good_part, walk_finds}

-- parts, and what was found after them
abbrev pub onto : List (List ℕ) → Found → Found
onto parts f = record { parts = parts ++ f.parts; ends = f.ends }

abbrev pub Right : List ℕ → Chunk → Type 0
Right page c = sum_right page c ≡ true

module _ (page : List ℕ) where
  pub good_none : (e : Result ℕ Corrupted) → good_part page [] e ≡ nothing_more (end_verdict e)
  unfolding good_part
  good_none e = refl

  -- a refusal stands at the first wrong sum
  pub good-wrong : (c : Chunk) (cs : List Chunk) (e : Result ℕ Corrupted) → sum_right page c ≡ false → good_part page (c ∷ cs) e ≡ nothing_more (Err row.Corrupted)
  unfolding good_part
  good-wrong c cs e w = rw w

  pub good_right : (c : Chunk) (cs : List Chunk) (e : Result ℕ Corrupted) → Right page c → good_part page (c ∷ cs) e ≡ and_then (payload_of page c) (good_part page cs e)
  unfolding good_part
  good_right c cs e r = rw r

  -- chunks whose sums are right hand out their payloads, and then come the others
  pub good-onto : (cs ds : List Chunk) (e : Result ℕ Corrupted) → All (Right page) cs → good_part page (cs ++ ds) e ≡ onto (map (payload_of page) cs) (good_part page ds e)
  good-onto [] ds e a = refl
  good-onto (c ∷ cs) ds e a = good_right c (cs ++ ds) e a.0 ∙ ap (and_then (payload_of page c)) (good-onto cs ds e a.1)

  -- all of them are right: exactly their payloads, and the walk's end
  pub good-whole : (cs : List Chunk) (e : Result ℕ Corrupted) → All (Right page) cs → good_part page cs e ≡ record { parts = map (payload_of page) cs; ends = end_verdict e }
  good-whole [] e a = good_none e
  good-whole (c ∷ cs) e a = good_right c cs e a.0 ∙ ap (and_then (payload_of page c)) (good-whole cs e a.1)

  -- the first wrong one ends it, whatever follows
  pub good-until : (cs : List Chunk) (c : Chunk) (ds : List Chunk) (e : Result ℕ Corrupted) → All (Right page) cs → sum_right page c ≡ false
      → good_part page (cs ++ c ∷ ds) e ≡ record { parts = map (payload_of page) cs; ends = Err row.Corrupted }
  good-until cs c ds e a w = good-onto cs (c ∷ ds) e a ∙ rw (good-wrong c ds e w, append-nil)

-- ---- what the walk finds, step by step

-- what stands at o, as a reader finds it, and then the walk from the next chunk on
abbrev pub finds_at : List ℕ → ℕ → Step → Found
finds_at page o (Ok None) = nothing_more (Ok tt)
finds_at page o (Err w) = nothing_more (Err row.Corrupted)
finds_at page o (Ok (Some chunk)) = and_then (payload_at page o chunk.len) (walk_finds page chunk.next)

abbrev good_in : List ℕ → Walked → Found
good_in page w = good_part page w.chunks w.ending

pub finds-step : (page : List ℕ) (o : ℕ) → walk_finds page o ≡ finds_at page o (checked_at page o)
finds-step page o = by (chunk_at page o) refl
  where
    by : (x : Step) → chunk_at page o ≡ x → walk_finds page o ≡ finds_at page o (checked_at page o)
    by (Ok None) e = ap (good_in page) (walk-end page o e) ∙ good_none page (Ok o) ∙ rw (checked-end page o e)
    by (Err w) e = ap (good_in page) (walk-bad page o e) ∙ good_none page (Err corruption) ∙ rw (checked-bad page o e)
    by (Ok (Some chunk)) e =
        let c : Chunk = record { offset = o; len = chunk.len; crc = chunk.crc } in
        let rest = walk_from page chunk.next in
        ap (good_in page) (walk-chunk page o chunk.len chunk.crc chunk.next e)
        ∙ ⊎_elim
        (λ (r : sum_right page c ≡ true).
        good_right page c rest.chunks rest.ending r ∙ rw (checked-right page o chunk.len chunk.crc chunk.next e r))
        (λ (r : sum_right page c ≡ false).
        good-wrong page c rest.chunks rest.ending r ∙ rw (checked-wrong page o chunk.len chunk.crc chunk.next e r))
        (decided (sum_right page c))

-- ---- two pages that agree

module _ (p q : List ℕ) where
  -- a chunk before e has the same payload, and so the same sum
  pub good-same : (o e : ℕ) (cs : List Chunk) (x : Result ℕ Corrupted) → All (Placed o e) cs → take e q ≡ take e p → good_part q cs x ≡ good_part p cs x
  unfolding good_part
  good-same o e [] x a s = refl
  good-same o e (c ∷ cs) x a s =
      rw (payload-below c.offset c.len e p q a.0.whole s, good-same o e cs x a.1 s)

  -- FINDS ONTO: where q agrees with p below the end of p's walk, and p's sums are right, q has p's payloads, and then what stands at
  -- that end on q
  pub finds-onto : (o e : ℕ) → o % align ≡ 0 → (walk_from p o).ending ≡ Ok e → take e q ≡ take e p → All (Right p) (walk_from p o).chunks
      → walk_finds q o ≡ onto (map (payload_of p) (walk_from p o).chunks) (walk_finds q e)
  finds-onto o e g h s right =
      let cs = (walk_from p o).chunks in
      let placed : All (Placed o e) cs = rw (walk-ends-at p o e h) at (laid-placed o cs g (walk-laid p o)) in
      ap (good_in q) (walk-onto p q o e h s)
      ∙ good-onto q cs (walk_from q e).chunks (walk_from q e).ending (right-same o e cs placed s right)
      ∙ ap (λ (l : List (List ℕ)). onto l (walk_finds q e)) (payloads-same o e cs placed s)
    where
      right-same : (o e : ℕ) (cs : List Chunk) → All (Placed o e) cs → take e q ≡ take e p → All (Right p) cs → All (Right q) cs
      right-same o e [] a s r = tt
      right-same o e (c ∷ cs) a s r = (rw (payload-below c.offset c.len e p q a.0.whole s) r.0, right-same o e cs a.1 s r.1)

      payloads-same : (o e : ℕ) (cs : List Chunk) → All (Placed o e) cs → take e q ≡ take e p → map (payload_of q) cs ≡ map (payload_of p) cs
      payloads-same o e [] a s = refl
      payloads-same o e (c ∷ cs) a s =
          ap₂ (λ (x : List ℕ) (l : List (List ℕ)). x ∷ l) (payload-below c.offset c.len e p q a.0.whole s) (payloads-same o e cs a.1 s)
