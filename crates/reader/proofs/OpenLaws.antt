-- Opening: each way through read_header, open and rehydrate_from, with the answer and the header buffer. Assumes nothing.
use Rattle.std.specs.Prelude.{Ok, Err, ⊤}
use Rattle.types.specs.Checks.{corruption, refused_or, Verdict}
use Rattle.std.specs.declared.result.Result.{Result}
use mathlib.Core.Path.{◌≡◌, refl, sym, ap, ◌∙◌}
use mathlib.Core.Bool.{Bool, true, false, cond, and-false}
use mathlib.Core.List.{List}
use Prim.Native.Nat.{ℕ, ◌+◌, ◌≤◌}
use native.Mathlib.Omega.{arith}
use lib.Dec.{eqb}
use lib.ListN.{length, length-take, length-drop}
use borrow.Author.Tests.{ne_eqb}
use Rattle.types.specs.Build.{page_size, page_header_size, chunk_header_size}
use Rattle.types.specs.declared.page_id.PageID.{PageID}
use Rattle.types.specs.declared.refusal.Refusal.{Refusal}
use Rattle.types.specs.declared.refusal.Refusal.TheVariants as row
use Rattle.crc.specs.Published.{published}
use Rattle.flash.specs.Geometry.{page_start, page_of}
use Rattle.slices.specs.Patch.{over}
use Rattle.slices.proofs.OverLaws.{over-all}
use Rattle.flash.proofs.GeometryLaws.{length-page}
use Rattle.page.specs.Checks.{open_check}
use Rattle.page.specs.Chunks.{payload_at, checked_at}
use Rattle.page.specs.Headers.{header_of, page_header_fine}
use Rattle.page.proofs.CheckLaws.{open-checked}
use Rattle.page.proofs.ChunkLaws.{sum-fine}
use Rattle.reader.specs.Calls.{read_header, filled, read_header_bytes, refused_opening, open_page, open_bytes, rehydrate_from}
use Rattle.reader.specs.Checks.{reader_check}
use Rattle.reader.specs.Moves.{arriving}
use Rattle.reader.specs.States.{unread, restored}
use Rattle.reader.specs.declared.answers.Passage.{Passage}
use Rattle.reader.specs.declared.dehydrated.DehydratedPageReader.{DehydratedPageReader}
use Rattle.reader.specs.declared.page_reader.PageReader.{PageReader}
use Rattle.reader.proofs.CheckLaws.{reader-checked}

-- ---- the higher header fills its buffer

module _ (flash : List ℕ) (magic : ℕ) (page : PageID) (header : List ℕ) where
  header-put : open_check (length flash) (length header) page ≡ Ok tt
      → over (header_of (page_of page.0 flash) (length header)) header ≡ header_of (page_of page.0 flash) (length header)
  header-put v =
      let k = open-checked (length flash) (length header) page v in
      let l : length (page_of page.0 flash) ≡ page_size = length-page (page_start page.0) flash k.flash.whole in
      let small : length header ≤ 64 = k.small in
      over-all (header_of (page_of page.0 flash) (length header)) header (rw (length-take, length-drop) (omega arith))

  -- a header that is read has passed its checks, and is fine
  pub header-passed : read_header flash magic page (length header) ≡ Ok tt
      → (open_check (length flash) (length header) page ≡ Ok tt) × (page_header_fine (page_of page.0 flash) magic page.0 (length header) ≡ true)
  unfolding read_header
  header-passed e = by (open_check (length flash) (length header) page) (page_header_fine (page_of page.0 flash) magic page.0 (length header)) e
    where
      by : (v : Verdict) (t : Bool) → refused_or {A = Verdict} v Err (cond t (Ok tt) (Err row.Corrupted)) ≡ Ok tt → (v ≡ Ok tt) × (t ≡ true)
      by (Err why) t e = let z : ◌≡◌ {A = ℕ} 0 1 = cc in absurd (omega arith)
      by (Ok tt) true e = (refl, refl)
      by (Ok tt) false e = let z : ◌≡◌ {A = ℕ} 0 1 = cc in absurd (omega arith)

  -- ---- the buffer goes by the answer

  module _ (w : Refusal) where
    pub read-header-kept : read_header flash magic page (length header) ≡ Err w → header ≡ read_header_bytes flash magic page header
    unfolding read_header_bytes
    read-header-kept e = rw e

    pub open_kept : (r : PageReader) → (open_page r flash magic page (length header)).answer ≡ Err w → header ≡ open_bytes r flash magic page header
    unfolding open_bytes
    open_kept r e = sym (ap (λ (o : Result ⊤ Refusal). filled o (header_of (page_of page.0 flash) (length header)) header) e)

  pub read-header-filled : read_header flash magic page (length header) ≡ Ok tt
      → header_of (page_of page.0 flash) (length header) ≡ read_header_bytes flash magic page header
  unfolding read_header_bytes
  read-header-filled e = rw e

  pub open-filled : (r : PageReader) → (open_page r flash magic page (length header)).answer ≡ Ok tt
      → header_of (page_of page.0 flash) (length header) ≡ open_bytes r flash magic page header
  unfolding open_bytes
  open-filled r e = sym (ap (λ (o : Result ⊤ Refusal). filled o (header_of (page_of page.0 flash) (length header)) header) e)

  -- ---- each way: the answer with the reader, and the buffer

  header-no : (w : Refusal) → Err w ≡ read_header flash magic page (length header)
      → (Err w ≡ read_header flash magic page (length header)) × (header ≡ read_header_bytes flash magic page header)
  header-no w e = (e, read-header-kept w (sym e))

  open_no : (w : Refusal) (r : PageReader) → refused_opening r w ≡ open_page r flash magic page (length header)
      → (refused_opening r w ≡ open_page r flash magic page (length header))
      × (header ≡ open_bytes r flash magic page header)
  open_no w r e = (e, open_kept w r (sym (ap (λ (o : Passage ⊤). o.answer) e)))

  module _ (w : Refusal) (v : open_check (length flash) (length header) page ≡ Err w) where
    pub header_refused : (Err w ≡ read_header flash magic page (length header)) × (header ≡ read_header_bytes flash magic page header)
    unfolding read_header
    header_refused = header-no w (rw v)

    pub open-refused : (r : PageReader)
        → (refused_opening r w ≡ open_page r flash magic page (length header))
        × (header ≡ open_bytes r flash magic page header)
    unfolding open_page
    open-refused r = open_no w r (rw v)

  module _ (v : open_check (length flash) (length header) page ≡ Ok tt) where
    module _ (f : page_header_fine (page_of page.0 flash) magic page.0 (length header) ≡ false) where
      pub header-wrong : (Err row.Corrupted ≡ read_header flash magic page (length header)) × (header ≡ read_header_bytes flash magic page header)
      unfolding read_header
      header-wrong = header-no row.Corrupted (rw (v, f))

      pub open-wrong : (r : PageReader)
          → (refused_opening r row.Corrupted ≡ open_page r flash magic page (length header))
          × (header ≡ open_bytes r flash magic page header)
      unfolding open_page
      open-wrong r = open_no row.Corrupted r (rw (v, f))

    module _ (f : page_header_fine (page_of page.0 flash) magic page.0 (length header) ≡ true) where
      pub header-right : ((Ok tt) ≡ read_header flash magic page (length header))
          × (over (header_of (page_of page.0 flash) (length header)) header ≡ read_header_bytes flash magic page header)
      unfolding read_header
      header-right = let e : (Ok tt) ≡ read_header flash magic page (length header) = rw (v, f) in (e, header-put v ∙ read-header-filled (sym e))

      pub open-bad : (r : PageReader)
          → arriving (unread page) (page_header_size + length header) (checked_at (page_of page.0 flash) (page_header_size + length header)) ≡ Err corruption
          → (refused_opening r row.Corrupted ≡ open_page r flash magic page (length header))
          × (header ≡ open_bytes r flash magic page header)
      unfolding open_page
      open-bad r a = open_no row.Corrupted r (rw (v, f, a))

      pub open_at : (r s : PageReader)
          → arriving (unread page) (page_header_size + length header) (checked_at (page_of page.0 flash) (page_header_size + length header)) ≡ Ok s
          → (◌≡◌ {A = (Passage ⊤)} (record { answer = Ok tt; reader = s }) (open_page r flash magic page (length header)))
          × (over (header_of (page_of page.0 flash) (length header)) header ≡ open_bytes r flash magic page header)
      unfolding open_page
      open_at r s a =
          let e : ◌≡◌ {A = (Passage ⊤)} (record { answer = Ok tt; reader = s }) (open_page r flash magic page (length header)) = rw (v, f, a) in
          (e, header-put v ∙ open-filled r (sym (ap (λ (o : Passage ⊤). o.answer) e)))

-- ---- rehydrate_from

module _ (r : PageReader) (flash : List ℕ) (d : DehydratedPageReader) where
  pub rehydrate-refused : (w : Refusal) → reader_check (length flash) (restored d) ≡ Err w
      → refused_opening r w ≡ rehydrate_from r flash d
  unfolding rehydrate_from
  rehydrate-refused w v = rw v

  module _ (v : reader_check (length flash) (restored d) ≡ Ok tt) where
    pub rehydrate-ended : d.ended ≡ true → ◌≡◌ {A = (Passage ⊤)} (record { answer = Ok tt; reader = restored d }) (rehydrate_from r flash d)
    unfolding rehydrate_from
    rehydrate-ended e = rw v (rw e)

    -- a chunk that the checks let through lies in its page
    kept-inside : d.ended ≡ false → d.offset + chunk_header_size + d.len ≤ length (page_of d.page.0 flash)
    kept-inside e =
        let k = reader-checked (length flash) (restored d) v in
        rw (length-page (page_start d.page.0) flash k.flash.whole) (k.range.chunk e).fits

    pub rehydrate-right : d.ended ≡ false → published (payload_at (page_of d.page.0 flash) d.offset d.len) ≡ d.crc
        → ◌≡◌ {A = (Passage ⊤)} (record { answer = Ok tt; reader = restored d }) (rehydrate_from r flash d)
    unfolding rehydrate_from
    rehydrate-right e s = rw v (rw (sum-fine (page_of d.page.0 flash) d.offset d.len d.crc (kept-inside e) s, e))

    pub rehydrate-wrong : d.ended ≡ false → (published (payload_at (page_of d.page.0 flash) d.offset d.len) ≡ d.crc → ⊥)
        → refused_opening r row.Corrupted ≡ rehydrate_from r flash d
    unfolding rehydrate_from
    rehydrate-wrong e s =
        let payload = payload_at (page_of d.page.0 flash) d.offset d.len in
        rw v (rw (ne_eqb (published payload) d.crc s, and-false (eqb (length payload) d.len), e))
