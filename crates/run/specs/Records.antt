-- What stands at a position of a run (docs/FORMAT.md, Runs): mark 48 56, kind, key length, value length, key,
-- value. Assumes nothing.
use Rattle.std.specs.declared.option.Option.{Option}
use Rattle.std.specs.declared.result.Result.{Result}
use Rattle.types.specs.declared.refusal.Refusal.{Refusal}
use Rattle.std.specs.Prelude.{Bool, true, false, cond, ◌&&◌, List, [], ◌∷◌, ℕ, ◌+◌, ltb, leb, eqb, length, get_or, Ok, Err, Some, None}
use Rattle.types.specs.Build.{max_key_size, max_value_size}
use Rattle.types.specs.Bytes.{word}
use Rattle.types.specs.declared.refusal.Refusal.TheVariants.{Corrupted, LaterEdition}
use Rattle.slices.specs.Parts.{part_to}
use Rattle.run.specs.declared.record.Record.{Record}

-- a record, nothing at the run's end, or a refusal
abbrev pub Head : Type 0
Head = Result (Option Record) Refusal

-- the bytes of a record before its key
abbrev pub record_header_size : ℕ
record_header_size = 6

-- the first two bytes are the mark
abbrev pub has_mark : List ℕ → ℕ → Bool
has_mark run at = eqb (get_or run at 0) 0x48 && eqb (get_or run (at + 1) 0) 0x56

-- kind 0 is live, 1 deleted, 2 to 127 a later edition, the rest corrupted
abbrev pub verdict_of : ℕ → Result Bool Refusal
verdict_of kind =
    cond (eqb kind 0) (Ok false)
    (cond (eqb kind 1) (Ok true) (cond (leb kind 127) (Err LaterEdition) (Err Corrupted)))

abbrev pub key_len : List ℕ → ℕ → ℕ
key_len run at = get_or run (at + 3) 0

abbrev pub value_len : List ℕ → ℕ → ℕ
value_len run at = word (get_or run (at + 4) 0 ∷ get_or run (at + 5) 0 ∷ [])

-- a record whose key starts at one position and whose lengths are these
abbrev pub record_with : Bool → ℕ → ℕ → ℕ → Record
record_with deleted at k v =
    record { deleted = deleted; key = at; value = at + k; next = at + k + v }

-- key length, value length, end of run, of a record whose header has `size` bytes
unfoldable pub body_at : ℕ → List ℕ → ℕ → Bool → Head
body_at size run at deleted =
    cond (ltb max_key_size (key_len run at)) (Err Corrupted)
    (cond (ltb max_value_size (value_len run at)) (Err Corrupted)
    (cond (ltb (length run) (at + size + key_len run at + value_len run at)) (Err Corrupted)
    (Ok (Some (record_with deleted (at + size) (key_len run at) (value_len run at))))))

-- a good kind has a body
unfoldable pub head_by : Result Bool Refusal → List ℕ → ℕ → Head
head_by (Ok deleted) run at = body_at record_header_size run at deleted
head_by (Err why) run at = Err why

-- nothing at the run's end; else six bytes present, mark, kind, and the body
unfoldable pub head_at : List ℕ → ℕ → Head
head_at run at =
    cond (eqb at (length run)) (Ok None)
    (cond (ltb (length run) (at + record_header_size)) (Err Corrupted)
    (cond (has_mark run at) (head_by (verdict_of (get_or run (at + 2) 0)) run at) (Err Corrupted)))

-- a record's key and value
abbrev pub key_in : List ℕ → Record → List ℕ
key_in run r = part_to run r.key r.value

abbrev pub value_in : List ℕ → Record → List ℕ
value_in run r = part_to run r.value r.next
