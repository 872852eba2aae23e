-- One chunk: what its header's tests come to, and which bytes they look at. Assumes nothing.
use Rattle.std.specs.Prelude.{Ok, Err, Some, None}
use Rattle.types.specs.Checks.{corruption}
use mathlib.Core.Path.{◌≡◌, refl, sym, ap, ◌∙◌}
use mathlib.Core.Bool.{Bool, true, false, cond}
use mathlib.Core.List.{List}
use mathlib.Core.Logic.{⊎_elim}
use Prim.Native.Nat.{ℕ, ◌+◌, ◌≤◌, ◌<◌}
use native.Mathlib.Omega.{arith}
use lib.Dec.{eqb, ltb}
use lib.ListN.{length, take, drop, length-take, length-drop}
use lib.Seq.{take_all, drop-drop}
use borrow.Author.Tests.{eqb-true, ltb-false, eq-eqb, ne_eqb, lt-ltb, le-ltb}
use Rattle.types.specs.Build.{page_size, chunk_header_size, max_chunk_size}
use Rattle.types.proofs.TestLaws.{both_true, le-or-lt}
use Rattle.crc.specs.Published.{published}
use Rattle.slices.specs.Fields.{field}
use Rattle.page.specs.declared.chunk.ChunkAt.{ChunkAt}
use Rattle.page.specs.Chunks.{chunk_magic, next_offset, chunk_of, chunk_at, payload_at, payload_fine, sum_checked, checked_at, Step, found_chunk}
use Rattle.page.proofs.BelowLaws.{field_below, field-above, long-below, short-below, shorter-above}

-- ---- from the tests to what stands at o

module _ (page : List ℕ) (o : ℕ) where
  pub chunk-past : page_size < o + chunk_header_size → chunk_at page o ≡ Ok None
  unfolding chunk_at
  chunk-past h = rw (lt-ltb page_size (o + 8) h)

  -- a header that is not all there
  pub chunk-short : length page < o + chunk_header_size → chunk_at page o ≡ Ok None
  unfolding chunk_at
  chunk-short h =
      ⊎_elim (λ room. rw (le-ltb page_size (o + 8) room, lt-ltb (length page) (o + 8) h)) chunk-past (le-or-lt (o + 8) page_size)

  pub chunk-unmarked : (field 2 page o ≡ chunk_magic → ⊥) → chunk_at page o ≡ Ok None
  unfolding chunk_at
  chunk-unmarked n =
      ⊎_elim
      (λ room.
      ⊎_elim (λ there. rw (le-ltb page_size (o + 8) room, le-ltb (length page) (o + 8) there, ne_eqb (field 2 page o) chunk_magic n)) chunk-short
      (le-or-lt (o + 8) (length page)))
      chunk-past (le-or-lt (o + 8) page_size)

  module _ (room : o + chunk_header_size ≤ page_size) (there : o + chunk_header_size ≤ length page) (mark : field 2 page o ≡ chunk_magic) where
    pub chunk-marked : chunk_at page o ≡ chunk_of page o (field 2 page (o + 2)) (field 4 page (o + 4))
    unfolding chunk_at
    chunk-marked = rw (le-ltb page_size (o + 8) room, le-ltb (length page) (o + 8) there, eq-eqb (field 2 page o) chunk_magic mark)

    pub chunk-long : max_chunk_size < field 2 page (o + 2) → chunk_at page o ≡ Err corruption
    chunk-long h = chunk-marked ∙ rw (lt-ltb max_chunk_size (field 2 page (o + 2)) h)

    pub chunk-over : field 2 page (o + 2) ≤ max_chunk_size → page_size < o + chunk_header_size + field 2 page (o + 2) → chunk_at page o ≡ Err corruption
    chunk-over small h = chunk-marked ∙ rw (le-ltb max_chunk_size (field 2 page (o + 2)) small, lt-ltb page_size (o + 8 + field 2 page (o + 2)) h)

    -- a payload that is not all there
    pub chunk_missing : field 2 page (o + 2) ≤ max_chunk_size → o + chunk_header_size + field 2 page (o + 2) ≤ page_size
        → length page < o + chunk_header_size + field 2 page (o + 2) → chunk_at page o ≡ Err corruption
    chunk_missing small fits missing =
        let l = field 2 page (o + 2) in
        chunk-marked ∙ rw (le-ltb max_chunk_size l small, le-ltb page_size (o + 8 + l) fits, lt-ltb (length page) (o + 8 + l) missing)

    pub chunk_whole : field 2 page (o + 2) ≤ max_chunk_size → o + chunk_header_size + field 2 page (o + 2) ≤ page_size
        → o + chunk_header_size + field 2 page (o + 2) ≤ length page
        → chunk_at page o ≡ found_chunk (field 2 page (o + 2)) (field 4 page (o + 4)) (next_offset o (field 2 page (o + 2)))
    chunk_whole small fits whole =
        let l = field 2 page (o + 2) in
        chunk-marked ∙ rw (le-ltb max_chunk_size l small, le-ltb page_size (o + 8 + l) fits, le-ltb (length page) (o + 8 + l) whole)

-- ---- and back

-- what a chunk at o says of the page
pub record Found (page : List ℕ) (o len crc next : ℕ) : Type 0 where
  pub whole : o + chunk_header_size + len ≤ length page
  pub mark : field 2 page o ≡ chunk_magic
  pub long : field 2 page (o + 2) ≡ len
  pub sum : field 4 page (o + 4) ≡ crc
  pub small : len ≤ max_chunk_size
  pub fits : o + chunk_header_size + len ≤ page_size
  pub after : next ≡ next_offset o len

-- two chunks that are found are one chunk
chunk-same : (a b c len crc next : ℕ)
    → found_chunk a b c ≡ found_chunk len crc next
    → ◌≡◌ {A = ChunkAt} (record { len = a; crc = b; next = c }) (record { len = len; crc = crc; next = next })
chunk-same a b c len crc next e = cc

passed : (past short marked long over missing : Bool) (a b c len crc next : ℕ)
    → cond past (Ok None) (cond short (Ok None) (cond marked (cond long (Err corruption) (cond over (Err corruption) (cond missing (Err corruption) (found_chunk a b c)))) (Ok None)))
    ≡ found_chunk len crc next
    → ((missing ≡ false) × ((marked ≡ true) × ((long ≡ false) × (over ≡ false)))) × ((a ≡ len) × ((b ≡ crc) × (c ≡ next)))
passed true short marked long over missing a b c len crc next e = let z : ◌≡◌ {A = ℕ} 0 1 = cc in absurd (omega arith)
passed false true marked long over missing a b c len crc next e = let z : ◌≡◌ {A = ℕ} 0 1 = cc in absurd (omega arith)
passed false false false long over missing a b c len crc next e = let z : ◌≡◌ {A = ℕ} 0 1 = cc in absurd (omega arith)
passed false false true true over missing a b c len crc next e = let z : ◌≡◌ {A = ℕ} 0 1 = cc in absurd (omega arith)
passed false false true false true missing a b c len crc next e = let z : ◌≡◌ {A = ℕ} 0 1 = cc in absurd (omega arith)
passed false false true false false true a b c len crc next e = let z : ◌≡◌ {A = ℕ} 0 1 = cc in absurd (omega arith)
passed false false true false false false a b c len crc next e =
    let same = chunk-same a b c len crc next e in
    ((refl, (refl, (refl, refl))), (ap (λ (x : ChunkAt). x.len) same, (ap (λ (x : ChunkAt). x.crc) same, ap (λ (x : ChunkAt). x.next) same)))

pub chunk-found : (page : List ℕ) (o len crc next : ℕ) → chunk_at page o ≡ found_chunk len crc next → Found page o len crc next
unfolding chunk_at
chunk-found page o len crc next e =
    let l = field 2 page (o + 2) in
    let end = o + 8 + l in
    let p =
    passed (ltb page_size (o + 8)) (ltb (length page) (o + 8)) (eqb (field 2 page o) chunk_magic) (ltb max_chunk_size l) (ltb page_size end) (ltb (length page) end)
    l (field 4 page (o + 4)) (next_offset o l) len crc next e in
    let f : l ≡ len = p.1.0 in
    record {
      whole = rw f at (ltb-false (length page) end p.0.0);
      mark = eqb-true (field 2 page o) chunk_magic p.0.1.0;
      long = f;
      sum = p.1.1.0;
      small = rw f at (ltb-false max_chunk_size l p.0.1.1.0);
      fits = rw f at (ltb-false page_size end p.0.1.1.1);
      after = sym p.1.1.1 ∙ ap (next_offset o) f;
    }

-- the next offset is at or past the chunk's end, and within the page
pub next_up : (page : List ℕ) (o len crc next : ℕ) → chunk_at page o ≡ found_chunk len crc next → (o + chunk_header_size + len ≤ next) × (next ≤ page_size)
next_up page o len crc next e =
    let f = chunk-found page o len crc next e in
    let fits : o + 8 + len ≤ page_size = f.fits in
    let after : next ≡ next_offset o len = f.after in
    (omega arith, omega arith)

-- ---- which bytes count

-- a chunk's own bytes alone
pub chunk-below : (o len crc next e : ℕ) (p q : List ℕ) → chunk_at p o ≡ found_chunk len crc next → o + chunk_header_size + len ≤ e → take e q ≡ take e p
    → chunk_at q o ≡ found_chunk len crc next
chunk-below o len crc next e p q c h a =
    let f = chunk-found p o len crc next c in
    let mark : field 2 q o ≡ chunk_magic = field_below 2 o e p q (omega arith) a ∙ f.mark in
    let long : field 2 q (o + 2) ≡ len = field_below 2 (o + 2) e p q (omega arith) a ∙ f.long in
    let sum : field 4 q (o + 4) ≡ crc = field_below 4 (o + 4) e p q (omega arith) a ∙ f.sum in
    let whole : o + 8 + len ≤ length q = long-below (o + 8 + len) e p q h a f.whole in
    let fits : o + 8 + len ≤ page_size = f.fits in
    chunk_whole q o (omega arith) (omega arith) mark (rw long f.small) (rw long f.fits) (rw long whole) ∙ rw (long, sum, f.after)

-- of an end the header's eight
pub end_below : (o e : ℕ) (p q : List ℕ) → chunk_at p o ≡ Ok None → o + chunk_header_size ≤ e → take e q ≡ take e p → chunk_at q o ≡ Ok None
end_below o e p q c h a =
    ⊎_elim
    (λ (room : o + 8 ≤ page_size).
    ⊎_elim
    (λ (there : o + 8 ≤ length p).
    chunk-unmarked q o
    (λ m. marked-no-end (field_below 2 o e p q (omega arith) a) room there m))
    (λ (short : length p < o + 8). chunk-short q o (short-below (o + 8) e p q h a short))
    (le-or-lt (o + 8) (length p)))
    (chunk-past q o)
    (le-or-lt (o + 8) page_size)
  where
    -- where a header is there and marked, what it says is no end
    no_end : (long over missing : Bool) (a b c : ℕ) → cond long (Err corruption) (cond over (Err corruption) (cond missing (Err corruption) (found_chunk a b c))) ≡ Ok None → ⊥
    no_end true over missing a b c e = let z : ◌≡◌ {A = ℕ} 0 1 = cc in omega arith
    no_end false true missing a b c e = let z : ◌≡◌ {A = ℕ} 0 1 = cc in omega arith
    no_end false false true a b c e = let z : ◌≡◌ {A = ℕ} 0 1 = cc in omega arith
    no_end false false false a b c e = let z : ◌≡◌ {A = ℕ} 0 1 = cc in omega arith

    marked-no-end : field 2 q o ≡ field 2 p o → o + chunk_header_size ≤ page_size → o + chunk_header_size ≤ length p → field 2 q o ≡ chunk_magic → ⊥
    marked-no-end same room there m =
        let l = field 2 p (o + 2) in
        no_end (ltb max_chunk_size l) (ltb page_size (o + 8 + l)) (ltb (length p) (o + 8 + l)) l (field 4 p (o + 4)) (next_offset o l)
        (sym (chunk-marked p o room there (sym same ∙ m)) ∙ c)

pub chunk-above : (s o : ℕ) (p q : List ℕ) → s ≤ o → drop s q ≡ drop s p → chunk_at q o ≡ chunk_at p o
unfolding chunk_at
chunk-above s o p q h a =
    let f = field-above 2 s o p q h a in
    let g = field-above 2 s (o + 2) p q (omega arith) a in
    let k = field-above 4 s (o + 4) p q (omega arith) a in
    rw (shorter-above s (o + 8) p q (omega arith) a, f, g, shorter-above s (o + 8 + field 2 p (o + 2)) p q (omega arith) a, k)

-- ---- the sum

pub checked-end : (page : List ℕ) (o : ℕ) → chunk_at page o ≡ Ok None → checked_at page o ≡ Ok None
unfolding checked_at
checked-end page o e = rw e

pub checked-bad : (page : List ℕ) (o : ℕ) → chunk_at page o ≡ Err corruption → checked_at page o ≡ Err corruption
unfolding checked_at
checked-bad page o e = rw e

pub checked-right : (page : List ℕ) (o len crc next : ℕ) → chunk_at page o ≡ found_chunk len crc next → payload_fine page o len crc ≡ true → checked_at page o ≡ found_chunk len crc next
unfolding checked_at
checked-right page o len crc next e s = rw e (rw s)

pub checked-wrong : (page : List ℕ) (o len crc next : ℕ) → chunk_at page o ≡ found_chunk len crc next → payload_fine page o len crc ≡ false → checked_at page o ≡ Err corruption
unfolding checked_at
checked-wrong page o len crc next e s = rw e (rw s)

-- a payload that is fine has the right sum
pub fine-sum : (page : List ℕ) (o len crc : ℕ) → payload_fine page o len crc ≡ true → published (payload_at page o len) ≡ crc
fine-sum page o len crc f = eqb-true (published (payload_at page o len)) crc
    (both_true (eqb (length (payload_at page o len)) len) (eqb (published (payload_at page o len)) crc) f).1

-- a payload that is all there and has the right sum is fine
pub sum-fine : (page : List ℕ) (o len crc : ℕ) → o + chunk_header_size + len ≤ length page → published (payload_at page o len) ≡ crc → payload_fine page o len crc ≡ true
sum-fine page o len crc there s =
    let whole : length (payload_at page o len) ≡ len = simp (length-take, length-drop) (omega arith) in
    rw (eq-eqb (length (payload_at page o len)) len whole, eq-eqb (published (payload_at page o len)) crc s)

-- a payload that stands there whole is fine, under its own sum
pub payload-fine : (page : List ℕ) (o : ℕ) (l : List ℕ) → payload_at page o (length l) ≡ l → payload_fine page o (length l) (published l) ≡ true
payload-fine page o l is =
    let there = payload_at page o (length l) in
    rw (eq-eqb (length there) (length l) (ap length is), eq-eqb (published there) (published l) (ap published is))

-- a chunk that passes has a good header and a payload that is fine
pub checked-fine : (page : List ℕ) (o len crc next : ℕ) → checked_at page o ≡ found_chunk len crc next
    → (chunk_at page o ≡ found_chunk len crc next) × (payload_fine page o len crc ≡ true)
unfolding checked_at
checked-fine page o len crc next e = by (chunk_at page o) e
  where
    right : (a b c : ℕ) (t : Bool) → payload_fine page o a b ≡ t → cond t (found_chunk a b c) (Err corruption) ≡ found_chunk len crc next
        → (found_chunk a b c ≡ found_chunk len crc next) × (payload_fine page o len crc ≡ true)
    right a b c true t e =
        let same = chunk-same a b c len crc next e in
        let f : a ≡ len = ap (λ (x : ChunkAt). x.len) same in
        let g : b ≡ crc = ap (λ (x : ChunkAt). x.crc) same in
        (e, rw (f, g) at t)
    right a b c false t e = let z : ◌≡◌ {A = ℕ} 0 1 = cc in absurd (omega arith)

    by : (s : Step) → sum_checked page o s ≡ found_chunk len crc next → (s ≡ found_chunk len crc next) × (payload_fine page o len crc ≡ true)
    by (Ok None) e = let z : ◌≡◌ {A = ℕ} 0 1 = cc in absurd (omega arith)
    by (Err w) e = let z : ◌≡◌ {A = ℕ} 0 1 = cc in absurd (omega arith)
    by (Ok (Some chunk)) e = right chunk.len chunk.crc chunk.next (payload_fine page o chunk.len chunk.crc) refl e

pub checked-found : (page : List ℕ) (o len crc next : ℕ) → checked_at page o ≡ found_chunk len crc next
    → (chunk_at page o ≡ found_chunk len crc next) × (published (payload_at page o len) ≡ crc)
checked-found page o len crc next e =
    let f = checked-fine page o len crc next e in
    (f.0, fine-sum page o len crc f.1)

-- a part of a part, which the payload is
pub payload-part : (page : List ℕ) (o len : ℕ) → take len (drop chunk_header_size (take (length page) (drop o page))) ≡ payload_at page o len
payload-part page o len =
    let l : length (drop o page) ≤ length page = simp length-drop (omega arith) in
    ap (λ (x : List ℕ). take len (drop 8 x)) (take_all (length page) (drop o page) l) ∙ ap (take len) (drop-drop 8 o page)
