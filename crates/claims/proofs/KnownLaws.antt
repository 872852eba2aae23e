-- What is known of a reader through any history of calls: one that was never opened is out of range, and one that was opened has a
-- good page header and stands in a chunk of the walk behind it whose sum is right. Assumes nothing.
use Rattle.reader.specs.declared.answers.EndTest.{EndTest}
use Rattle.std.specs.Prelude.{Ok, Err, ⊤}
use Rattle.std.specs.declared.result.Result.{Result}
use mathlib.Core.Path.{◌≡◌, refl, sym, ap, subst}
use mathlib.Core.Bool.{Bool, true, false, cond}
use mathlib.Core.List.{List, [], ◌∷◌, ◌++◌}
use mathlib.Core.Logic.{inl, inr}
use Prim.Native.Nat.{ℕ, zero, suc, ◌+◌, ◌≤◌}
use lib.Dec.{eqb}
use lib.ListN.{length, take, drop}
use Rattle.types.specs.Histories.{left_after}
use Rattle.types.proofs.HistoryLaws.{left_after-keeps}
use Rattle.types.specs.Build.{page_header_size}
use Rattle.types.specs.Refusals.{number_of}
use Rattle.types.specs.declared.page_id.PageID.{PageID}
use Rattle.types.specs.declared.refusal.Refusal.{Refusal}
use Rattle.types.specs.declared.refusal.Refusal.TheVariants as row
use Rattle.flash.specs.Geometry.{page_of}
use Rattle.page.specs.Chunks.{next_offset}
use Rattle.page.specs.Headers.{page_header_fine}
use Rattle.page.specs.Walks.{Chunk, walk_from}
use Rattle.types.specs.Answers.{number_told}
use Rattle.reader.specs.Calls.{read_header, read_header_bytes, open_page, open_bytes, read, read_bytes, skip, is_at_eof, dehydrate, rehydrate_from, page_id}
use Rattle.reader.specs.Checks.{in_range}
use Rattle.reader.specs.Finds.{payload_of}
use Rattle.reader.specs.States.{restored}
use Rattle.reader.specs.declared.dehydrated.DehydratedPageReader.{DehydratedPageReader}
use Rattle.reader.specs.declared.answers.Passage.{Passage}
use Rattle.reader.specs.declared.page_reader.PageReader.{PageReader}
use Rattle.reader.proofs.AgainLaws.{open-reader-kept, rehydrate-kept}
use Rattle.reader.proofs.CallLaws.{reader_check-out, read_header-done, dehydrate-state}
use Rattle.reader.proofs.OpenLaws.{read-header-kept, open_kept, read-header-filled, open-filled}
use Rattle.reader.proofs.RangeLaws.{new-out}
use Rattle.reader.proofs.ReadLaws.{read-refused, skip-refused, eof-refused}
use Rattle.reader.proofs.StandingLaws.{Stands, HandedBy, read-stands, read-hands, eof-stands, skip-stands, open-stands, rehydrate-restores}
use Rattle.claims.specs.Again.{ReaderCall, reads_header, opens, reads, skips, asks_for_its_end, dehydrates, rehydrates, asks_its_page, reader_left}
use Rattle.claims.specs.ReaderHistories.{Origin, never, opened_at, Kept, Held, at_first, Asked, slot_filled, slots_by, after_call, Among, ReadPuts, HeaderPuts, Puts}

abbrev pub Known : List ℕ → Origin → PageReader → Type 0
Known flash never r = in_range r ≡ false
Known flash (opened_at magic page h) r =
    (page_header_fine (page_of page.0 flash) magic page.0 h ≡ true) × Stands page (page_of page.0 flash) (page_header_size + h) r

-- of the reader at hand and of each slot's
pub record HeldKnown (flash : List ℕ) (k : Held) : Type 0 where
  pub reader : Known flash k.origin k.reader
  pub slots : (slot : ℕ) → Known flash (k.slots slot).origin (restored (k.slots slot).state)

-- ---- one call on the reader at hand

module _ (flash : List ℕ) (r : PageReader) where
  read_known : (from : Origin) → Known flash from r → (buffer : List ℕ) → Known flash from (read r flash (length buffer)).reader
  read_known never k buffer =
      let w = reader_check-out (length flash) r k in
      subst (λ (p : Passage ℕ). in_range p.reader ≡ false) (read-refused r flash w.0 w.1 buffer).0 k
  read_known (opened_at magic page h) k buffer = (k.0, read-stands flash page (12 + h) r k.1 (length buffer))

  skip-known : (from : Origin) → Known flash from r → (n : ℕ) → Known flash from (skip r flash n).reader
  skip-known never k n =
      let w = reader_check-out (length flash) r k in
      subst (λ (p : Passage ℕ). in_range p.reader ≡ false) (skip-refused r flash w.0 w.1 n) k
  skip-known (opened_at magic page h) k n = (k.0, skip-stands flash page (12 + h) r k.1 n)

  eof-known : (from : Origin) → Known flash from r → Known flash from (is_at_eof r flash).reader
  eof-known never k =
      let w = reader_check-out (length flash) r k in
      subst (λ (p : Passage EndTest). in_range p.reader ≡ false) (eof-refused r flash w.0 w.1) k
  eof-known (opened_at magic page h) k = (k.0, eof-stands flash page (12 + h) r k.1)

-- ---- where the reader comes from afterwards

row-not-0 : (w : Refusal) → eqb (number_of w) 0 ≡ false
row-not-0 row.Corrupted = refl
row-not-0 row.KeyBufferTooSmall = refl
row-not-0 row.ValueBufferTooSmall = refl
row-not-0 row.OutOfRange = refl
row-not-0 row.BadFlash = refl
row-not-0 row.BadHeader = refl
row-not-0 row.BadCount = refl
row-not-0 row.LaterEdition = refl
row-not-0 row.Cut = refl
row-not-0 row.BadRuns = refl
row-not-0 row.BadState = refl

-- from where it came, whatever the answer
either_way : (flash : List ℕ) (r : PageReader) (from : Origin) (t : Bool) → Known flash from r → Known flash (cond t from from) r
either_way flash r from true k = k
either_way flash r from false k = k

-- as it was, after a refusal
as_it_was : (flash : List ℕ) (r s : PageReader) (from other : Origin) (w : Refusal) → s ≡ r → Known flash from r
    → Known flash (cond (eqb (number_of w) 0) other from) s
as_it_was flash r s from other w e k =
    subst (λ (t : Bool). Known flash (cond t other from) s) (sym (row-not-0 w)) (subst (λ (q : PageReader). Known flash from q) (sym e) k)

module _ (flash : List ℕ) (k : Held) (known : HeldKnown flash k) where
  abbrev After : ReaderCall → List ℕ → Held
  After call lent = after_call flash k (record { call = call; lent = lent })

  opens-known : (magic : ℕ) (page : PageID) (lent : List ℕ) → Known flash (After (opens magic page) lent).origin (After (opens magic page) lent).reader
  unfolding after_call reader_left
  opens-known magic page lent = by (open_page r flash magic page (length lent)).answer refl
    where
      r : PageReader
      r = k.reader

      by : (a : Result ⊤ Refusal) → (open_page r flash magic page (length lent)).answer ≡ a
          → Known flash (cond (eqb (number_told a) 0) (opened_at magic page (length lent)) k.origin) (open_page r flash magic page (length lent)).reader
      by (Ok tt) e = open-stands r flash magic page (length lent) e
      by (Err w) e =
          as_it_was flash r (open_page r flash magic page (length lent)).reader k.origin (opened_at magic page (length lent)) w
          (open-reader-kept r flash w magic page (length lent) e) known.reader

  rehydrates-known : (slot : ℕ) (lent : List ℕ) → Known flash (After (rehydrates slot) lent).origin (After (rehydrates slot) lent).reader
  unfolding after_call reader_left
  rehydrates-known slot lent = by (rehydrate_from r flash (k.slots slot).state).answer refl
    where
      r : PageReader
      r = k.reader

      by : (a : Result ⊤ Refusal) → (rehydrate_from r flash (k.slots slot).state).answer ≡ a
          → Known flash (cond (eqb (number_told a) 0) (k.slots slot).origin k.origin) (rehydrate_from r flash (k.slots slot).state).reader
      by (Ok tt) e =
          subst (λ (s : PageReader). Known flash (k.slots slot).origin s) (sym (rehydrate-restores r flash (k.slots slot).state e)) (known.slots slot)
      by (Err w) e =
          as_it_was flash r (rehydrate_from r flash (k.slots slot).state).reader k.origin (k.slots slot).origin w
          (rehydrate-kept r flash w (k.slots slot).state e) known.reader

  reader-after : (call : ReaderCall) (lent : List ℕ) → Known flash (After call lent).origin (After call lent).reader
  unfolding after_call reader_left
  reader-after (reads_header magic page) lent =
      either_way flash k.reader k.origin (eqb (number_told (read_header flash magic page (length lent))) 0) known.reader
  reader-after (opens magic page) lent = opens-known magic page lent
  reader-after reads lent =
      let a = read k.reader flash (length lent) in
      either_way flash a.reader k.origin (eqb (number_told a.answer) 0) (read_known flash k.reader k.origin known.reader lent)
  reader-after (skips n) lent =
      let a = skip k.reader flash n in
      either_way flash a.reader k.origin (eqb (number_told a.answer) 0) (skip-known flash k.reader k.origin known.reader n)
  reader-after asks_for_its_end lent =
      let a = is_at_eof k.reader flash in
      either_way flash a.reader k.origin (eqb (number_told a.answer) 0) (eof-known flash k.reader k.origin known.reader)
  reader-after (dehydrates slot) lent = either_way flash k.reader k.origin (eqb (number_told (dehydrate k.reader)) 0) known.reader
  reader-after (rehydrates slot) lent = rehydrates-known slot lent
  reader-after asks_its_page lent = either_way flash k.reader k.origin (eqb (number_told (page_id k.reader)) 0) known.reader

  -- ---- and the slots

  abbrev InSlot : Kept → Type 0
  InSlot x = Known flash x.origin (restored x.state)

  slot-filled : (slot other : ℕ) → InSlot (slot_filled k slot (dehydrate k.reader) other)
  slot-filled slot other = by (dehydrate k.reader) refl
    where
      in-it : (d : DehydratedPageReader) → InSlot (record { state = d; origin = k.origin }) → (t : Bool) → InSlot (cond t (record { state = d; origin = k.origin }) (k.slots other))
      in-it d own true = own
      in-it d own false = known.slots other

      by : (a : Result DehydratedPageReader Refusal) → dehydrate k.reader ≡ a → InSlot (slot_filled k slot a other)
      by (Ok d) e =
          in-it d (subst (λ (x : DehydratedPageReader). InSlot (record { state = x; origin = k.origin })) (dehydrate-state k.reader d e) known.reader) (eqb slot other)
      by (Err w) e = known.slots other

  slots-after : (call : ReaderCall) (other : ℕ) → InSlot (slots_by k call other)
  slots-after (reads_header magic page) other = known.slots other
  slots-after (opens magic page) other = known.slots other
  slots-after reads other = known.slots other
  slots-after (skips n) other = known.slots other
  slots-after asks_for_its_end other = known.slots other
  slots-after (dehydrates slot) other = slot-filled slot other
  slots-after (rehydrates slot) other = known.slots other
  slots-after asks_its_page other = known.slots other

  pub call_known : (a : Asked) → HeldKnown flash (after_call flash k a)
  unfolding after_call
  call_known a = record { reader = reader-after a.call a.lent; slots = slots-after a.call }

-- ---- the whole history

pub calls-known : (flash : List ℕ) (before : List Asked) (k : Held) → HeldKnown flash k → HeldKnown flash (left_after (after_call flash) k before)
calls-known flash before k known = left_after-keeps (after_call flash) (HeldKnown flash) (λ j a held. call_known flash j held a) k before known

pub first-known : (flash : List ℕ) → HeldKnown flash at_first
first-known flash = record { reader = new-out; slots = λ slot. new-out }

-- ---- what a read puts

among-split : (earlier : List Chunk) (c : Chunk) (later : List Chunk) → Among c (earlier ++ c ∷ later)
among-split [] c later = inl refl
among-split (d ∷ earlier) c later = inr (among-split earlier c later)

-- a reader that was opened hands out bytes of the good chunk in which it stands
handed-puts : (flash : List ℕ) (magic : ℕ) (page : PageID) (h : ℕ) → page_header_fine (page_of page.0 flash) magic page.0 h ≡ true → (lent after : List ℕ)
    → (a : Result ℕ Refusal) → HandedBy (page_of page.0 flash) (page_header_size + h) lent after a → ReadPuts flash (opened_at magic page h) lent after a
handed-puts flash magic page h fine lent after (Err why) k = k
handed-puts flash magic page h fine lent after (Ok zero) k = k
handed-puts flash magic page h fine lent after (Ok (suc n)) k =
    let bytes = page_of page.0 flash in
    let c = k.chunk in
    let left = drop k.position (payload_of bytes c) in
    let all = k.good.walked in
    record {
      bytes = take (suc n) left;
      many = k.many;
      covered = record {
        chunk = c;
        position = k.position;
        header = fine;
        walked = subst (Among c) (sym all) (among-split k.good.earlier c (walk_from bytes (next_offset c.offset c.len)).chunks);
        sum = k.good.sum;
        within = subst (λ (m : ℕ). k.position + m ≤ c.len) (sym k.many) k.within;
        are = ap (λ (m : ℕ). take m left) (sym k.many);
      };
      put = k.put;
    }

read-puts : (flash : List ℕ) (from : Origin) (r : PageReader) (buffer : List ℕ) → Known flash from r
    → ReadPuts flash from buffer (read_bytes r flash buffer) (read r flash (length buffer)).answer
read-puts flash never r buffer k =
    let w = reader_check-out (length flash) r k in
    let so = read-refused r flash w.0 w.1 buffer in
    subst (λ (p : Passage ℕ). ReadPuts flash never buffer (read_bytes r flash buffer) p.answer) so.0 (sym so.1)
read-puts flash (opened_at magic page h) r buffer k =
    handed-puts flash magic page h k.0 buffer (read_bytes r flash buffer) (read r flash (length buffer)).answer (read-hands flash page (12 + h) r k.1 buffer)

-- ---- and the calls that put a header

header-puts : (flash : List ℕ) (magic : ℕ) (page : PageID) (lent : List ℕ)
    → HeaderPuts flash magic page lent (read_header_bytes flash magic page lent) (read_header flash magic page (length lent))
header-puts flash magic page lent = by (read_header flash magic page (length lent)) refl
  where
    by : (a : Result ⊤ Refusal) → read_header flash magic page (length lent) ≡ a → HeaderPuts flash magic page lent (read_header_bytes flash magic page lent) a
    by (Ok tt) e = (sym (read-header-filled flash magic page lent e), read_header-done flash magic page (length lent) e)
    by (Err w) e = sym (read-header-kept flash magic page lent w e)

open-puts : (flash : List ℕ) (r : PageReader) (magic : ℕ) (page : PageID) (lent : List ℕ)
    → HeaderPuts flash magic page lent (open_bytes r flash magic page lent) (open_page r flash magic page (length lent)).answer
open-puts flash r magic page lent = by (open_page r flash magic page (length lent)).answer refl
  where
    by : (a : Result ⊤ Refusal) → (open_page r flash magic page (length lent)).answer ≡ a → HeaderPuts flash magic page lent (open_bytes r flash magic page lent) a
    by (Ok tt) e = (sym (open-filled flash magic page lent r e), (open-stands r flash magic page (length lent) e).0)
    by (Err w) e = sym (open_kept flash magic page lent w r e)

pub call-puts : (flash : List ℕ) (k : Held) → HeldKnown flash k → (call : ReaderCall) (lent : List ℕ) → Puts flash k call lent
call-puts flash k known (reads_header magic page) lent = header-puts flash magic page lent
call-puts flash k known (opens magic page) lent = open-puts flash k.reader magic page lent
call-puts flash k known reads lent = read-puts flash k.origin k.reader lent known.reader
call-puts flash k known (skips n) lent = tt
call-puts flash k known asks_for_its_end lent = tt
call-puts flash k known (dehydrates slot) lent = tt
call-puts flash k known (rehydrates slot) lent = tt
call-puts flash k known asks_its_page lent = tt
