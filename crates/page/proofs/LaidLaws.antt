-- How a walk's chunks lie on the page: one behind the other, each whole, no more than fit. Assumes nothing.
use Rattle.std.specs.Prelude.{Ok, Err, None}
use Rattle.std.specs.declared.result.Result.{Result}
use Rattle.types.specs.declared.refusal.Corrupted.{Corrupted}
use mathlib.Core.Path.{◌≡◌, refl, sym, subst}
use mathlib.Core.List.{List, [], ◌∷◌}
use Prim.Native.Nat.{ℕ, ◌+◌, ◌*◌, ◌%◌, ◌≤◌}
use native.Mathlib.Omega.{arith}
use lib.ListN.{length}
use Rattle.types.specs.Build.{page_size, align, page_header_size, max_header_size, chunk_header_size, max_chunk_size}
use Rattle.page.specs.Chunks.{next_offset, chunk_at}
use Rattle.page.specs.Walks.{Chunk, walk_from}
use Rattle.page.proofs.ChunkLaws.{chunk-found}
use Rattle.page.proofs.WalkLaws.{walk-rule}

-- the offset behind chunks that start at o
abbrev pub end_of : ℕ → List Chunk → ℕ
end_of o [] = o
end_of o (c ∷ cs) = end_of (next_offset o c.len) cs

-- chunks one behind the other from o on, each of an allowed length and within the page
abbrev pub Laid : ℕ → List Chunk → Type 0
Laid o [] = Unit
Laid o (c ∷ cs) = (c.offset ≡ o) × ((c.len ≤ max_chunk_size) × ((o + chunk_header_size + c.len ≤ page_size) × Laid (next_offset o c.len) cs))

-- ---- what lies so

pub next-group : (o len : ℕ) → next_offset o len % align ≡ 0
next-group o len = omega arith

-- the end is a multiple of 4 if the start is, not below the start, and within the page if the start is
pub end-group : (o : ℕ) (cs : List Chunk) → o % align ≡ 0 → end_of o cs % align ≡ 0
end-group o [] h = h
end-group o (c ∷ cs) h = end-group (next_offset o c.len) cs (next-group o c.len)

pub end-up : (o : ℕ) (cs : List Chunk) → o + chunk_header_size * length cs ≤ end_of o cs
end-up o [] = omega arith
end-up o (c ∷ cs) = omega (arith, end-up (next_offset o c.len) cs)

pub end-within : (o : ℕ) (cs : List Chunk) → o ≤ page_size → Laid o cs → end_of o cs ≤ page_size
end-within o [] h l = h
end-within o (c ∷ cs) h l = end-within (next_offset o c.len) cs (omega (arith, l.1.1.0)) l.1.1.1

-- every chunk of them: at a multiple of 4, after the start, whole before the end
pub record Placed (o e : ℕ) (c : Chunk) : Type 0 where
  pub group : c.offset % align ≡ 0
  pub start : o ≤ c.offset
  pub small : c.len ≤ max_chunk_size
  pub whole : c.offset + chunk_header_size + c.len ≤ e

abbrev pub All : (Chunk → Type 0) → List Chunk → Type 0
All P [] = Unit
All P (c ∷ cs) = P c × All P cs

pub all-imp : (P Q : Chunk → Type 0) → ((c : Chunk) → P c → Q c) → (cs : List Chunk) → All P cs → All Q cs
all-imp P Q f [] a = tt
all-imp P Q f (c ∷ cs) a = (f c a.0, all-imp P Q f cs a.1)

pub laid-placed : (o : ℕ) (cs : List Chunk) → o % align ≡ 0 → Laid o cs → All (Placed o (end_of o cs)) cs
laid-placed o [] h l = tt
laid-placed o (c ∷ cs) h l =
    let next = next_offset o c.len in
    let e = end_of next cs in
    let at : c.offset ≡ o = l.0 in
    let up : next + 8 * length cs ≤ e = end-up next cs in
    let small : c.len ≤ max_chunk_size = l.1.0 in (
      record { group = rw at h; start = omega arith; small = small; whole = omega arith },
      all-imp (Placed next e) (Placed o e)
          (λ d p. record { group = p.group; start = omega (arith, p.start); small = p.small; whole = p.whole })
          cs (laid-placed next cs (next-group o c.len) l.1.1.1),
    )

-- ---- every walk's chunks do

pub walk-laid : (page : List ℕ) (o : ℕ) → Laid o (walk_from page o).chunks
walk-laid page =
    walk-rule page (λ o w. Laid o w.chunks) (λ o e. tt) (λ o e. tt)
    (λ o len crc next e l.
    let f = chunk-found page o len crc next e in
    (refl, (f.small, (f.fits, subst (λ (n : ℕ). Laid n (walk_from page next).chunks) f.after l))))

-- where a walk ends, behind its last chunk
abbrev EndsAt : Result ℕ Corrupted → ℕ → Type 0
EndsAt (Ok e) at = e ≡ at
EndsAt (Err w) at = Unit

ends_at : (page : List ℕ) (o : ℕ) → EndsAt (walk_from page o).ending (end_of o (walk_from page o).chunks)
ends_at page =
    walk-rule page (λ o w. EndsAt w.ending (end_of o w.chunks)) (λ o e. refl) (λ o e. tt)
    (λ o len crc next e l.
    subst (λ (n : ℕ). EndsAt (walk_from page next).ending (end_of n (walk_from page next).chunks)) (chunk-found page o len crc next e).after l)

pub walk-ends-at : (page : List ℕ) (o e : ℕ) → (walk_from page o).ending ≡ Ok e → end_of o (walk_from page o).chunks ≡ e
walk-ends-at page o e h = sym (rw h at (ends_at page o))

-- the end of a walk: no chunk stands there, it is not below the start, and the start's limits hold
pub record Ended (page : List ℕ) (o e : ℕ) : Type 0 where
  pub none : chunk_at page e ≡ Ok None
  pub up : o ≤ e
  pub within : o ≤ page_size → e ≤ page_size
  pub group : o % align ≡ 0 → e % align ≡ 0

abbrev NoneAt : List ℕ → Result ℕ Corrupted → Type 0
NoneAt page (Ok e) = chunk_at page e ≡ Ok None
NoneAt page (Err w) = Unit

none-at : (page : List ℕ) (o : ℕ) → NoneAt page (walk_from page o).ending
none-at page = walk-rule page (λ o w. NoneAt page w.ending) (λ o e. e) (λ o e. tt) (λ o len crc next e l. l)

pub walk-ended : (page : List ℕ) (o e : ℕ) → (walk_from page o).ending ≡ Ok e → Ended page o e
walk-ended page o e h =
    let cs = (walk_from page o).chunks in
    let at : end_of o cs ≡ e = walk-ends-at page o e h in
    record {
      none = rw h at (none-at page o);
      up = omega (arith, end-up o cs);
      within = λ k. rw at at (end-within o cs k (walk-laid page o));
      group = λ k. rw at at (end-group o cs k);
    }

-- every chunk of a walk that starts at a multiple of 4 within the page
pub walk-placed : (page : List ℕ) (o : ℕ) → o % align ≡ 0 → o ≤ page_size → All (Placed o page_size) (walk_from page o).chunks
walk-placed page o g h =
    let cs = (walk_from page o).chunks in
    all-imp (Placed o (end_of o cs)) (Placed o page_size)
    (λ c p. record { group = p.group; start = p.start; small = p.small; whole = omega (arith, p.whole, end-within o cs h (walk-laid page o)) })
    cs (laid-placed o cs g (walk-laid page o))

-- a page has no more chunks than chunk headers fit, and never more than 510
pub walk-count : (page : List ℕ) (o : ℕ) → o ≤ page_size → o + chunk_header_size * length (walk_from page o).chunks ≤ page_size
walk-count page o h =
    let cs = (walk_from page o).chunks in
    omega (arith, end-up o cs, end-within o cs h (walk-laid page o))

pub at-most-510 : (page : List ℕ) (h : ℕ) → h ≤ max_header_size → length (walk_from page (page_header_size + h)).chunks ≤ 510
at-most-510 page h small = omega (arith, walk-count page (12 + h) (omega arith))
