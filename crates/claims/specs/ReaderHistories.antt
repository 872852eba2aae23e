-- Any history of a reader on a flash that stays as it is: calls one after the other, refused ones among them, each on the reader
-- that the one before handed back. Readers are kept in slots and brought back from them. Beside each stands the opening that it
-- comes from. And what a sum covers (docs/RULES.md, Reading). Assumes nothing.
use Rattle.std.specs.declared.result.Result.{Result}
use Rattle.types.specs.declared.refusal.Refusal.{Refusal}
use Rattle.std.specs.Prelude.{◌≡◌, true, cond, List, [], ◌∷◌, ◌++◌, ◌⊎◌, ℕ, zero, suc, ◌+◌, ◌≤◌, eqb, length, take, drop, Ok, Err, ⊤}
use Rattle.types.specs.Build.{page_header_size}
use Rattle.types.specs.declared.page_id.PageID.{PageID}
use Rattle.flash.specs.Geometry.{page_of}
use Rattle.page.specs.Headers.{header_of, page_header_fine}
use Rattle.page.specs.Walks.{Chunk, walk_from}
use Rattle.reader.specs.Calls.{read_header, read_header_bytes, open_page, open_bytes, read, read_bytes, dehydrate}
use Rattle.reader.specs.Finds.{payload_of, sum_right}
use Rattle.reader.specs.States.{new_reader, stored}
use Rattle.reader.specs.declared.dehydrated.DehydratedPageReader.{DehydratedPageReader}
use Rattle.reader.specs.declared.page_reader.PageReader.{PageReader}
use Rattle.claims.specs.Again.{Left, IsRefused, Slots, ReaderCall, reads_header, opens, reads, skips, asks_for_its_end, dehydrates, rehydrates, asks_its_page, reader_left}

-- ---- a history

-- where a reader comes from: it was never opened, or opened with this magic, on this page, with a higher header of this length
pub data Origin : Type 0 where
  never : Origin
  opened_at : ℕ → PageID → ℕ → Origin

-- what a slot holds: a reader's kept state, and where that reader came from
pub record Kept : Type 0 where
  pub state : DehydratedPageReader
  pub origin : Origin

-- the reader at hand, where it comes from, and the slots
pub record Held : Type 0 where
  pub reader : PageReader
  pub origin : Origin
  pub slots : ℕ → Kept

abbrev pub states_of : Held → Slots
states_of k slot = (k.slots slot).state

-- at first there is a new reader, and one in each slot
abbrev pub at_first : Held
at_first = record { reader = new_reader; origin = never; slots = λ slot. record { state = stored new_reader; origin = never } }

-- a call, and the bytes that it is lent
pub record Asked : Type 0 where
  pub call : ReaderCall
  pub lent : List ℕ

-- what a call on the reader at hand leaves
abbrev pub call_leaves : List ℕ → Held → Asked → Left PageReader (List ℕ)
call_leaves flash k a = reader_left flash (states_of k) a.call k.reader a.lent

-- where the reader comes from that a call hands back, if the call is not refused
abbrev pub origin_by : Held → ReaderCall → List ℕ → Origin
origin_by k (reads_header magic page) header = k.origin
origin_by k (opens magic page) header = opened_at magic page (length header)
origin_by k reads buffer = k.origin
origin_by k (skips count) buffer = k.origin
origin_by k asks_for_its_end buffer = k.origin
origin_by k (dehydrates slot) buffer = k.origin
origin_by k (rehydrates slot) buffer = (k.slots slot).origin
origin_by k asks_its_page buffer = k.origin

-- the slots once dehydrate has answered: a state goes into its slot
abbrev pub slot_filled : Held → ℕ → Result DehydratedPageReader Refusal → ℕ → Kept
slot_filled k slot (Ok d) other = cond (eqb slot other) (record { state = d; origin = k.origin }) (k.slots other)
slot_filled k slot (Err why) other = k.slots other

abbrev pub slots_by : Held → ReaderCall → ℕ → Kept
slots_by k (reads_header magic page) = k.slots
slots_by k (opens magic page) = k.slots
slots_by k reads = k.slots
slots_by k (skips count) = k.slots
slots_by k asks_for_its_end = k.slots
slots_by k (dehydrates slot) = slot_filled k slot (dehydrate k.reader)
slots_by k (rehydrates slot) = k.slots
slots_by k asks_its_page = k.slots

-- what is at hand after a call, refused or not; after any calls it is `left_after` of that
unfoldable pub after_call : List ℕ → Held → Asked → Held
after_call flash k a = record {
  reader = (call_leaves flash k a).state;
  origin = cond (eqb (call_leaves flash k a).number 0) (origin_by k a.call a.lent) k.origin;
  slots = slots_by k a.call;
}

-- ---- what a sum covers

-- one of these chunks
abbrev pub Among : Chunk → List Chunk → Type 0
Among c [] = ⊥
Among c (d ∷ ds) = (c ≡ d) ⊎ Among c ds

-- bytes that a sum covers: the page's header is good, and they lie in the payload of a chunk of the walk behind it whose sum is right
pub record Covered (flash : List ℕ) (magic : ℕ) (page : PageID) (h : ℕ) (bytes : List ℕ) : Type 0 where
  pub chunk : Chunk
  pub position : ℕ
  pub header : page_header_fine (page_of page.0 flash) magic page.0 h ≡ true
  pub walked : Among chunk (walk_from (page_of page.0 flash) (page_header_size + h)).chunks
  pub sum : sum_right (page_of page.0 flash) chunk ≡ true
  pub within : position + length bytes ≤ chunk.len
  pub are : bytes ≡ take (length bytes) (drop position (payload_of (page_of page.0 flash) chunk))

-- bytes that a sum covers, by the opening that their reader comes from; a reader that was never opened has no such bytes
abbrev pub CoveredFrom : List ℕ → Origin → List ℕ → Type 0
CoveredFrom flash never bytes = ⊥
CoveredFrom flash (opened_at magic page h) bytes = Covered flash magic page h bytes

-- ---- what a call puts into what it is lent

-- a call put n covered bytes over the start of what it was lent, and left the rest as it was
pub record PutCovered (flash : List ℕ) (from : Origin) (lent after : List ℕ) (n : ℕ) : Type 0 where
  pub bytes : List ℕ
  pub many : length bytes ≡ n
  pub covered : CoveredFrom flash from bytes
  pub put : after ≡ bytes ++ drop n lent

-- what a read puts, by its answer
abbrev pub ReadPuts : List ℕ → Origin → List ℕ → List ℕ → Result ℕ Refusal → Type 0
ReadPuts flash from lent after (Ok zero) = after ≡ lent
ReadPuts flash from lent after (Ok (suc n)) = PutCovered flash from lent after (suc n)
ReadPuts flash from lent after (Err why) = after ≡ lent

-- what open and read_header put, by their answer: the bytes of a good header
abbrev pub HeaderPuts : List ℕ → ℕ → PageID → List ℕ → List ℕ → Result ⊤ Refusal → Type 0
HeaderPuts flash magic page lent after (Ok tt) =
    (after ≡ header_of (page_of page.0 flash) (length lent)) × (page_header_fine (page_of page.0 flash) magic page.0 (length lent) ≡ true)
HeaderPuts flash magic page lent after (Err why) = after ≡ lent

-- what each call puts; only read_header, open and read are lent bytes
abbrev pub Puts : List ℕ → Held → ReaderCall → List ℕ → Type 0
Puts flash k (reads_header magic page) lent =
    HeaderPuts flash magic page lent (read_header_bytes flash magic page lent) (read_header flash magic page (length lent))
Puts flash k (opens magic page) lent =
    HeaderPuts flash magic page lent (open_bytes k.reader flash magic page lent) (open_page k.reader flash magic page (length lent)).answer
Puts flash k reads lent = ReadPuts flash k.origin lent (read_bytes k.reader flash lent) (read k.reader flash (length lent)).answer
Puts flash k (skips count) lent = Unit
Puts flash k asks_for_its_end lent = Unit
Puts flash k (dehydrates slot) lent = Unit
Puts flash k (rehydrates slot) lent = Unit
Puts flash k asks_its_page lent = Unit

-- no byte that is unchecked: what is put is covered, and a refused call puts none and changes neither reader nor slots
pub record NoneUnchecked (flash : List ℕ) (k : Held) (a : Asked) : Type 0 where
  pub puts : Puts flash k a.call a.lent
  pub refused : IsRefused (call_leaves flash k a) → ((call_leaves flash k a).lent ≡ a.lent) × (after_call flash k a ≡ k)
