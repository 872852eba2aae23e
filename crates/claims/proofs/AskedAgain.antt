-- ASKED AGAIN: a refused call of a reader or of a cursor, made again with what it handed back, is refused with the same number and
-- hands over no byte. Assumes nothing.
use Rattle.cursor.specs.declared.answers.Entry.{Entry}
use Rattle.std.specs.declared.option.Option.{Option}
use Rattle.std.specs.Prelude.{Ok, Err}
use Rattle.std.specs.declared.result.Result.{Result}
use mathlib.Core.Path.{◌≡◌, refl, sym, ◌∙◌, ap, ap₂}
use mathlib.Core.List.{List}
use Prim.Native.Nat.{ℕ}
use lib.ListN.{length}
use Rattle.types.specs.Refusals.{number_of}
use Rattle.types.specs.declared.page_id.PageID.{PageID}
use Rattle.types.specs.declared.refusal.Refusal.{Refusal}
use Rattle.run.specs.Kinds.{Bound}
use Rattle.types.specs.Answers.{number_told}
use Rattle.reader.specs.Calls.{read_header, open_page, read, skip, is_at_eof, dehydrate, rehydrate_from, page_id}
use Rattle.reader.specs.declared.answers.Passage.{Passage}
use Rattle.reader.specs.declared.page_reader.PageReader.{PageReader}
use Rattle.reader.proofs.AgainLaws.{read-refused-so, skip-kept, eof-kept, open-reader-kept, rehydrate-kept}
use Rattle.reader.proofs.OpenLaws.{read-header-kept, open_kept as open-bytes-kept}
use Rattle.cursor.specs.Answers.{NextAnswer}
use Rattle.cursor.specs.New.{new_of}
use Rattle.cursor.specs.Next.{next_of}
use Rattle.cursor.specs.declared.answers.Moved.{Moved}
use Rattle.cursor.specs.declared.place.Cursor.{Cursor}
use Rattle.cursor.proofs.AgainLaws.{next-again, key-kept, value-kept}
use Rattle.cursor.proofs.NoCursorLaws.{new-refused-empty, none-handed}
use Rattle.claims.specs.Again.{Left, IsRefused, AskedAgain, Buffers, Rooms, rooms_of, next_left}
use Rattle.claims.specs.Again.{Slots, ReaderCall, reads_header, opens, reads, skips, asks_for_its_end, dehydrates, rehydrates, asks_its_page, same_room, reader_left}

-- a number other than 0 is a refusal's
pub refused-by : {A : Type 0} (a : Result A Refusal) → (number_told a ≡ 0 → ⊥) → (w : Refusal) × (a ≡ Err w)
refused-by (Ok x) e = absurd (e refl)
refused-by (Err w) e = (w, refl)

-- ---- a call that leaves all is the same call when it is made again

module _ {State Lent Room : Type 0} (room : Lent → Room) (call : State → Lent → Left State Lent) (s : State) (lent : Lent) where
  -- n is refused with these lent bytes or any of the same room, and the state t comes back and stays
  settles : (n : ℕ) (t : State) → call s lent ≡ record { number = n; state = t; lent = lent }
      → ((other : Lent) → room other ≡ room lent → call t other ≡ record { number = n; state = t; lent = other }) → AskedAgain room call s lent
  settles n t first more = record {
    nothing = ap (λ (x : Left State Lent). x.lent) first;
    again = λ other q.
        ap (λ (x : Left State Lent). call x.state other) first ∙ more other q
        ∙ ap (λ (x : Left State Lent). record { number = x.number; state = x.state; lent = other }) (sym first);
  }

left_is : {State : Type 0} (m n : ℕ) (s t : State) (a b : List ℕ) → m ≡ n → s ≡ t → a ≡ b
    → ◌≡◌ {A = Left State (List ℕ)} (record { number = m; state = s; lent = a }) (record { number = n; state = t; lent = b })
left_is m n s t a b p q r = rw (p, q, r)

-- ---- the reader

module _ (flash : List ℕ) (slots : Slots) (r : PageReader) where
  -- a refused call, with any buffer of the same room where it counts
  abbrev Kept : ReaderCall → List ℕ → Type 0
  Kept call buffer = (n : ℕ) × ((other : List ℕ) → same_room call other ≡ same_room call buffer → reader_left flash slots call r other ≡ record { number = n; state = r; lent = other })

  header-kept : (magic : ℕ) (page : PageID) (buffer : List ℕ) → IsRefused (reader_left flash slots (reads_header magic page) r buffer) → Kept (reads_header magic page) buffer
  unfolding reader_left
  header-kept magic page buffer e =
      let w = refused-by (read_header flash magic page (length buffer)) e in (
        number_of w.0,
        λ other q.
            let a : read_header flash magic page (length other) ≡ Err w.0 = rw q w.1 in
            left_is _ _ _ _ _ _ (ap number_told a) refl (sym (read-header-kept flash magic page other w.0 a)),
      )

  open_kept : (magic : ℕ) (page : PageID) (buffer : List ℕ) → IsRefused (reader_left flash slots (opens magic page) r buffer) → Kept (opens magic page) buffer
  unfolding reader_left
  open_kept magic page buffer e =
      let w = refused-by (open_page r flash magic page (length buffer)).answer e in (
        number_of w.0,
        λ other q.
            let a : (open_page r flash magic page (length other)).answer ≡ Err w.0 = rw q w.1 in
            left_is _ _ _ _ _ _ (ap number_told a) (open-reader-kept r flash w.0 magic page (length other) a)
            (sym (open-bytes-kept flash magic page other w.0 r a)),
      )

  read_kept : (buffer : List ℕ) → IsRefused (reader_left flash slots reads r buffer) → Kept reads buffer
  unfolding reader_left
  read_kept buffer e =
      let w = refused-by (read r flash (length buffer)).answer e in (
        number_of w.0,
        λ other q.
            let k = read-refused-so r flash w.0 (length buffer) w.1 (length other) other in
            left_is _ _ _ _ _ _ (ap (λ (x : Passage ℕ). number_told x.answer) k.0) (ap (λ (x : Passage ℕ). x.reader) k.0) k.1.0,
      )

  skip-left : (n : ℕ) (buffer : List ℕ) → IsRefused (reader_left flash slots (skips n) r buffer) → Kept (skips n) buffer
  unfolding reader_left
  skip-left n buffer e =
      let w = refused-by (skip r flash n).answer e in
      (number_of w.0, λ other q. left_is _ _ _ _ _ _ (ap number_told w.1) (skip-kept r flash w.0 n w.1) refl)

  eof-left : (buffer : List ℕ) → IsRefused (reader_left flash slots asks_for_its_end r buffer) → Kept asks_for_its_end buffer
  unfolding reader_left
  eof-left buffer e =
      let w = refused-by (is_at_eof r flash).answer e in
      (number_of w.0, λ other q. left_is _ _ _ _ _ _ (ap number_told w.1) (eof-kept r flash w.0 w.1) refl)

  rehydrate-left : (slot : ℕ) (buffer : List ℕ) → IsRefused (reader_left flash slots (rehydrates slot) r buffer) → Kept (rehydrates slot) buffer
  unfolding reader_left
  rehydrate-left slot buffer e =
      let d = slots slot in
      let w = refused-by (rehydrate_from r flash d).answer e in
      (number_of w.0, λ other q. left_is _ _ _ _ _ _ (ap number_told w.1) (rehydrate-kept r flash w.0 d w.1) refl)

  dehydrate-left : (slot : ℕ) (buffer : List ℕ) → Kept (dehydrates slot) buffer
  unfolding reader_left
  dehydrate-left slot buffer = (number_told (dehydrate r), λ other q. refl)

  page-left : (buffer : List ℕ) → Kept asks_its_page buffer
  unfolding reader_left
  page-left buffer = (number_told (page_id r), λ other q. refl)

  pub kept : (call : ReaderCall) (buffer : List ℕ) → IsRefused (reader_left flash slots call r buffer) → Kept call buffer
  kept (reads_header magic page) buffer e = header-kept magic page buffer e
  kept (opens magic page) buffer e = open_kept magic page buffer e
  kept reads buffer e = read_kept buffer e
  kept (skips n) buffer e = skip-left n buffer e
  kept asks_for_its_end buffer e = eof-left buffer e
  kept (dehydrates slot) buffer e = dehydrate-left slot buffer
  kept (rehydrates slot) buffer e = rehydrate-left slot buffer e
  kept asks_its_page buffer e = page-left buffer

-- ASKED AGAIN, of a reader
pub asked-again : (flash : List ℕ) (slots : Slots) (call : ReaderCall) (r : PageReader) (buffer : List ℕ) → IsRefused (reader_left flash slots call r buffer)
    → AskedAgain (same_room call) (reader_left flash slots call) r buffer
asked-again flash slots call r buffer e =
    let k = kept flash slots r call buffer e in settles (same_room call) (reader_left flash slots call) r buffer k.0 r (k.1 buffer refl) k.1

-- so a refused read is refused again into any other buffer, longer or shorter, and puts nothing there
pub read-asked-again : (flash : List ℕ) (slots : Slots) (r : PageReader) (buffer other : List ℕ)
    → let first = reader_left flash slots reads r buffer in
    IsRefused first → reader_left flash slots reads first.state other ≡ record { number = first.number; state = first.state; lent = other }
read-asked-again flash slots r buffer other e = (asked-again flash slots reads r buffer e).again other refl

-- ---- the cursor

module _ (bytes ends : List ℕ) (bound : Bound) (upper : List ℕ) where
  -- where next is refused, and hands back this cursor
  next-left : (c t : Cursor) (b : Buffers) (w : Refusal)
      → next_of bytes ends bound upper c (length b.key) (length b.value) ≡ record { cursor = t; answer = Err w }
      → next_left bytes ends bound upper c b ≡ record { number = number_of w; state = t; lent = b }
  unfolding next_left
  next-left c t b w e =
      let a : (next_of bytes ends bound upper c (length b.key) (length b.value)).answer ≡ Err w = ap (λ (m : Moved (Option Entry)). m.answer) e in
      ap₂ (λ (m : Moved (Option Entry)) (x : Buffers). record { number = number_told m.answer; state = m.cursor; lent = x }) e
      (ap₂ (λ (k v : List ℕ). record { key = k; value = v }) (key-kept bytes ends bound upper c b.key b.value w a) (value-kept bytes ends bound upper c b.key b.value w a))

  -- ASKED AGAIN, of a cursor: what passes that ended stepped over, and runs found gone, stay so; the refusal is the same
  pub next-asked-again : (c : Cursor) (b : Buffers) → IsRefused (next_left bytes ends bound upper c b)
      → AskedAgain rooms_of (next_left bytes ends bound upper) c b
  unfolding next_left
  next-asked-again c b e =
      let m : (Moved (Option Entry)) = next_of bytes ends bound upper c (length b.key) (length b.value) in
      let w = refused-by m.answer e in
      let is : m ≡ record { cursor = m.cursor; answer = Err w.0 } = ap (λ (a : NextAnswer). record { cursor = m.cursor; answer = a }) w.1 in
      settles rooms_of (next_left bytes ends bound upper) c b (number_of w.0) m.cursor (next-left c m.cursor b w.0 is)
      (λ (other : Buffers) (q : rooms_of other ≡ rooms_of b).
      next-left m.cursor m.cursor other w.0
      (ap (λ (x : Rooms). next_of bytes ends bound upper m.cursor x.key x.value) q
      ∙ next-again bytes ends bound upper (length b.key) (length b.value) w.0 c w.1 ∙ is))

-- a refused new hands back a cursor from which next hands over no byte, whatever runs it is given
pub no-cursor : (bytes ends : List ℕ) (bound : Bound) (lower : List ℕ) → (number_told (new_of bytes ends bound lower).answer ≡ 0 → ⊥)
    → (bytes' ends' : List ℕ) (bound' : Bound) (upper : List ℕ) (b : Buffers) → (next_left bytes' ends' bound' upper (new_of bytes ends bound lower).cursor b).lent ≡ b
unfolding next_left
no-cursor bytes ends bound lower e bytes' ends' bound' upper b =
    let w = refused-by (new_of bytes ends bound lower).answer e in
    let k = none-handed bytes' ends' bound' upper b.key b.value in
    rw (new-refused-empty bytes ends bound lower w.0 w.1) (ap₂ (λ (x y : List ℕ). record { key = x; value = y }) k.0 k.1)
