-- A refused call, asked again (docs/RULES.md, Reading, Merge). This is the fault that the port is there to end: in the
-- original a reader that has refused a damaged chunk steps on, and asked again serves bytes that no sum covers. Assumes nothing.
use Rattle.std.specs.Prelude.{◌≡◌, List, ℕ, length}
use Rattle.types.specs.declared.page_id.PageID.{PageID}
use Rattle.run.specs.Kinds.{Bound}
use Rattle.types.specs.Answers.{number_told}
use Rattle.reader.specs.Calls.{read_header, read_header_bytes, open_page, open_bytes, read, read_bytes, skip, is_at_eof, dehydrate, rehydrate_from, page_id}
use Rattle.reader.specs.declared.dehydrated.DehydratedPageReader.{DehydratedPageReader}
use Rattle.reader.specs.declared.page_reader.PageReader.{PageReader}
use Rattle.cursor.specs.Next.{next_of, next_key, next_value}
use Rattle.cursor.specs.declared.place.Cursor.{Cursor}

-- ---- the claim

-- what a call leaves: the number it answers, 0 where it is not refused, the state it hands back, and the lent bytes
pub record Left (State Lent : Type 0) : Type 0 where
  pub number : ℕ
  pub state : State
  pub lent : Lent

abbrev pub IsRefused : {State Lent : Type 0} → Left State Lent → Type 0
IsRefused x = x.number ≡ 0 → ⊥

-- a call with a state and lent bytes hands over no byte; with the state that it handed back, and bytes that have the same room, it
-- answers the same number, hands over no byte and hands back that state
pub record AskedAgain {State Lent Room : Type 0} (room : Lent → Room) (call : State → Lent → Left State Lent) (s : State) (lent : Lent) : Type 0 where
  pub nothing : (call s lent).lent ≡ lent
  pub again : (other : Lent) → room other ≡ room lent
      → call (call s lent).state other ≡ record { number = (call s lent).number; state = (call s lent).state; lent = other }

-- ---- the calls of a reader, with the flash; a call that is lent no buffer leaves it, and read_header, dehydrate and page_id leave
-- the reader

-- what is kept of readers, in numbered slots
abbrev pub Slots : Type 0
Slots = ℕ → DehydratedPageReader

-- dehydrate is to fill a slot, and rehydrate_from takes what a slot holds
pub data ReaderCall : Type 0 where
  reads_header : ℕ → PageID → ReaderCall
  opens : ℕ → PageID → ReaderCall
  reads : ReaderCall
  skips : ℕ → ReaderCall
  asks_for_its_end : ReaderCall
  dehydrates : ℕ → ReaderCall
  rehydrates : ℕ → ReaderCall
  asks_its_page : ReaderCall

-- the room that has to be the same: a header's, whose length is asked for; to a read any buffer may be lent the next time
abbrev pub same_room : ReaderCall → List ℕ → ℕ
same_room (reads_header magic page) header = length header
same_room (opens magic page) header = length header
same_room reads buffer = 0
same_room (skips count) buffer = 0
same_room asks_for_its_end buffer = 0
same_room (dehydrates slot) buffer = 0
same_room (rehydrates slot) buffer = 0
same_room asks_its_page buffer = 0

unfoldable pub reader_left : List ℕ → Slots → ReaderCall → PageReader → List ℕ → Left PageReader (List ℕ)
reader_left flash slots (reads_header magic page) r header = record {
  number = number_told (read_header flash magic page (length header));
  state = r;
  lent = read_header_bytes flash magic page header;
}
reader_left flash slots (opens magic page) r header = record {
  number = number_told (open_page r flash magic page (length header)).answer;
  state = (open_page r flash magic page (length header)).reader;
  lent = open_bytes r flash magic page header;
}
reader_left flash slots reads r buffer = record {
  number = number_told (read r flash (length buffer)).answer;
  state = (read r flash (length buffer)).reader;
  lent = read_bytes r flash buffer;
}
reader_left flash slots (skips count) r buffer =
    record { number = number_told (skip r flash count).answer; state = (skip r flash count).reader; lent = buffer }
reader_left flash slots asks_for_its_end r buffer =
    record { number = number_told (is_at_eof r flash).answer; state = (is_at_eof r flash).reader; lent = buffer }
reader_left flash slots (dehydrates slot) r buffer = record { number = number_told (dehydrate r); state = r; lent = buffer }
reader_left flash slots (rehydrates slot) r buffer = record {
  number = number_told (rehydrate_from r flash (slots slot)).answer;
  state = (rehydrate_from r flash (slots slot)).reader;
  lent = buffer;
}
reader_left flash slots asks_its_page r buffer = record { number = number_told (page_id r); state = r; lent = buffer }

-- ---- next, with the runs, their ends and the upper bound

pub record Buffers : Type 0 where
  pub key : List ℕ
  pub value : List ℕ

pub record Rooms : Type 0 where
  pub key : ℕ
  pub value : ℕ

abbrev pub rooms_of : Buffers → Rooms
rooms_of b = record { key = length b.key; value = length b.value }

unfoldable pub next_left : List ℕ → List ℕ → Bound → List ℕ → Cursor → Buffers → Left Cursor Buffers
next_left bytes ends bound upper c b = record {
  number = number_told (next_of bytes ends bound upper c (length b.key) (length b.value)).answer;
  state = (next_of bytes ends bound upper c (length b.key) (length b.value)).cursor;
  lent = record { key = next_key bytes ends bound upper c b.key b.value; value = next_value bytes ends bound upper c b.key b.value };
}
