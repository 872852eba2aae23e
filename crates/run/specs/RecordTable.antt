-- The reference cases of records (docs/RULES.md, Reference cases), as a table: a run that is one record, and what the record
-- says; and the kinds and the limits, each with the number that it answers. Assumes nothing.
use Rattle.std.specs.Prelude.{cond, true, false, List, [], ◌∷◌, ◌++◌, ℕ, ◌+◌, eqb, length, replicate, Ok, Err, Some, None}
use Rattle.types.specs.Bytes.{bytes_of}
use Rattle.run.specs.Answers.{head_told}
use Rattle.run.specs.Items.{Item, item_in}
use Rattle.run.specs.Records.{head_at, Head}

pub record RecordCase : Type 0 where
  pub bytes : List ℕ
  pub says : Item

-- first record 48 56 00 01 01 00 61 31
abbrev pub live_a : RecordCase
live_a =
    record {
      bytes = 0x48 ∷ 0x56 ∷ 0x00 ∷ 0x01 ∷ 0x01 ∷ 0x00 ∷ 0x61 ∷ 0x31 ∷ [];
      says = record { deleted = false; key = 0x61 ∷ []; value = 0x31 ∷ [] };
    }

-- deleted a 48 56 01 01 00 00 61
abbrev pub deleted_a : RecordCase
deleted_a =
    record {
      bytes = 0x48 ∷ 0x56 ∷ 0x01 ∷ 0x01 ∷ 0x00 ∷ 0x00 ∷ 0x61 ∷ [];
      says = record { deleted = true; key = 0x61 ∷ []; value = [] };
    }

abbrev pub record_cases : List RecordCase
record_cases = live_a ∷ deleted_a ∷ []

-- the item of a record that is the whole run
unfoldable pub whole_item : List ℕ → Head → List Item
whole_item run (Ok None) = []
whole_item run (Ok (Some r)) = cond (eqb r.next (length run)) (item_in run r ∷ []) []
whole_item run (Err why) = []

-- what the record does say
unfoldable pub record_outcome : RecordCase → List Item
record_outcome c = whole_item c.bytes (head_at c.bytes 0)

-- ---- kinds and limits

pub record HeadCase : Type 0 where
  pub kind : ℕ
  pub key_len : ℕ
  pub value_len : ℕ
  pub number : ℕ

abbrev pub head_case : ℕ → ℕ → ℕ → ℕ → HeadCase
head_case kind key_len value_len number = record { kind = kind; key_len = key_len; value_len = value_len; number = number }

-- kind 0 is live, 1 deleted, 2 to 127 a later edition (8), 128 to 255 Corrupted (1)
unfoldable pub kind_cases : List HeadCase
kind_cases = head_case 0 1 1 0 ∷ head_case 1 1 1 0 ∷ head_case 2 1 1 8 ∷ head_case 127 1 1 8 ∷ head_case 128 1 1 1 ∷ head_case 255 1 1 1 ∷ []

-- a key has at most 64 bytes and a value at most 1,024; a length over its limit is Corrupted (1)
unfoldable pub limit_cases : List HeadCase
limit_cases = head_case 0 64 1024 0 ∷ head_case 0 65 1024 1 ∷ head_case 0 64 1025 1 ∷ []

-- where both are wrong, the kind is told and not the length
unfoldable pub order_cases : List HeadCase
order_cases = head_case 2 65 1 8 ∷ []

unfoldable pub head_cases : List HeadCase
head_cases = kind_cases ++ (limit_cases ++ order_cases)

-- a whole record of that kind and of those lengths
unfoldable pub record_of : HeadCase → List ℕ
record_of c = 0x48 ∷ 0x56 ∷ c.kind ∷ c.key_len ∷ (bytes_of 2 c.value_len ++ replicate (c.key_len + c.value_len) 0x61)

-- what the record does answer
unfoldable pub head_outcome : HeadCase → ℕ
head_outcome c = (head_told (head_at (record_of c) 0)).number
