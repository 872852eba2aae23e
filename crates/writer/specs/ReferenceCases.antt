-- The reference cases on adding to a page (docs/RULES.md, Reference cases), as data: each case has calls on a flash of one page,
-- what each call is to give, and bytes of the flash after all of them. What they do give is computed from the definitions.
-- Assumes nothing.
use Rattle.std.specs.Prelude.{List, [], ◌∷◌, map, ℕ, ◌+◌, length, take, drop, replicate}
use Rattle.types.specs.Answers.{Told, answered}
use Rattle.types.specs.Build.{page_size}
use Rattle.types.specs.Histories.{left_after, told_by_each}
use Rattle.flash.specs.Operations.{Op, erase, store}
use Rattle.slices.specs.Patch.{blank}
use Rattle.writer.specs.Calls.{World, AddCall, writes, commits, heads, Call, opens_anew, opens_to_add, adds, answer_to, made_by, left_by}
use Rattle.writer.specs.States.{new_writer}

-- where a store or an erase lies in the page
pub record Extent : Type 0 where
  pub from : ℕ
  pub size : ℕ

unfoldable pub extent_of : Op → Extent
extent_of (erase e) = record { from = 0; size = page_size }
extent_of (store at bytes) = record { from = at; size = length bytes }

-- the answer, the stores made, and the writer's offset and pending bytes afterwards
pub record Effect : Type 0 where
  pub told : Told
  pub stores : List Extent
  pub offset : ℕ
  pub pending : ℕ

pub record StepCase : Type 0 where
  pub call : Call
  pub gives : Effect

pub record Case : Type 0 where
  pub steps : List StepCase
  pub from : ℕ
  pub bytes : List ℕ

-- ---- what a case comes to

pub record Result : Type 0 where
  pub effects : List Effect
  pub bytes : List ℕ

-- a page of zeros, which a case has to open anew
abbrev pub start : World
start = record { flash = blank 0 page_size; writer = new_writer; left = 0 }

unfoldable pub effect_of : World → Call → Effect
effect_of x c =
    record {
      told = answer_to x c;
      stores = map extent_of (made_by x c);
      offset = (left_by x c).writer.offset;
      pending = (left_by x c).writer.pending;
    }

abbrev pub calls_of : Case → List Call
calls_of c = map (λ (s : StepCase). s.call) c.steps

unfoldable pub result_of : Case → Result
result_of c =
    record {
      effects = told_by_each left_by effect_of start (calls_of c);
      bytes = take (length c.bytes) (drop c.from (left_after left_by start (calls_of c)).flash);
    }

unfoldable pub expected : Case → Result
expected c = record { effects = map (λ (s : StepCase). s.gives) c.steps; bytes = c.bytes }

-- ---- the table

abbrev pub extent : ℕ → ℕ → Extent
extent from size = record { from = from; size = size }

-- an opening is done: it stores nothing, and the writer is at this offset
abbrev pub opens : Call → ℕ → StepCase
opens call offset = record { call = call; gives = record { told = answered []; stores = []; offset = offset; pending = 0 } }

-- a call is answered, with these values, stores, offset and pending bytes
abbrev pub gives : AddCall → List ℕ → List Extent → ℕ → ℕ → StepCase
gives call values stores offset pending =
    record { call = adds call; gives = record { told = answered values; stores = stores; offset = offset; pending = pending } }

-- a call is cut
abbrev pub cut : AddCall → List Extent → ℕ → ℕ → StepCase
cut call stores offset pending =
    record {
      call = adds call;
      gives = record { told = record { number = 9; values = [] }; stores = stores; offset = offset; pending = pending };
    }

-- a page with its header, and further calls
abbrev pub with_header : List StepCase → List StepCase
with_header steps =
    opens (opens_anew 0 2) 12 ∷ gives (heads 0xA1 []) [] (extent 0 4096 ∷ extent 0 12 ∷ []) 12 0 ∷ steps

-- magic 0xA1, page 0, h 0: A1 00 00 00, then eight 00
abbrev pub header : Case
header = record { steps = with_header []; from = 0; bytes = 0xA1 ∷ 0x00 ∷ 0x00 ∷ 0x00 ∷ replicate 8 0x00 }

abbrev pub four : List ℕ
four = replicate 4 0xFF

-- FF FF FF FF added there: a store of 4 bytes at 20, then one of 8 at 12; from 12 on C5 59 04 00 and eight FF; the next offset is 24
abbrev pub one_added : Case
one_added =
    record {
      steps = with_header
          (opens (opens_to_add 0 2) 12
          ∷ gives (writes four) (4 ∷ []) (extent 20 4 ∷ []) 12 4
          ∷ gives commits [] (extent 12 8 ∷ []) 24 0
          ∷ opens (opens_to_add 0 0) 24
          ∷ []);
      from = 12;
      bytes = 0xC5 ∷ 0x59 ∷ 0x04 ∷ 0x00 ∷ replicate 8 0xFF;
    }

-- the same with one store left: the commit is cut, and the page goes on at 12
abbrev pub one_cut : Case
one_cut =
    record {
      steps = with_header
          (opens (opens_to_add 0 1) 12
          ∷ gives (writes four) (4 ∷ []) (extent 20 4 ∷ []) 12 4
          ∷ cut commits [] 12 4
          ∷ opens (opens_to_add 0 0) 12
          ∷ []);
      from = 12;
      bytes = replicate 12 0xFF;
    }

-- a byte 00 added instead, with one store left: a writer that reopens the page is at 4096, and a write takes 0
abbrev pub zero_cut : Case
zero_cut =
    record {
      steps = with_header
          (opens (opens_to_add 0 1) 12
          ∷ gives (writes (0x00 ∷ [])) (1 ∷ []) [] 12 1
          ∷ cut commits (extent 20 4 ∷ []) 12 1
          ∷ opens (opens_to_add 0 1) 4096
          ∷ gives (writes (0x00 ∷ [])) (0 ∷ []) [] 4096 0
          ∷ []);
      from = 12;
      bytes = replicate 8 0xFF;
    }

-- a page opened with h, and further calls
abbrev pub on_empty : ℕ → List StepCase → Case
on_empty h steps = record { steps = opens (opens_anew h 9) (12 + h) ∷ steps; from = 0; bytes = [] }

-- with h 0 a write of 4077 takes 4076 and commits
abbrev pub full : Case
full = on_empty 0 (gives (writes (replicate 4077 0x00)) (4076 ∷ []) (extent 0 4096 ∷ extent 20 4076 ∷ extent 12 8 ∷ []) 4096 0 ∷ [])

-- with h 0 a write of 4075 stays pending
abbrev pub not_full : Case
not_full = on_empty 0 (gives (writes (replicate 4075 0x00)) (4075 ∷ []) (extent 0 4096 ∷ extent 20 4072 ∷ []) 12 4075 ∷ [])

-- with h 4 a write of 4073 takes 4072 and does not commit
abbrev pub higher_header : Case
higher_header = on_empty 4 (gives (writes (replicate 4073 0x00)) (4072 ∷ []) (extent 0 4096 ∷ extent 24 4072 ∷ []) 16 4072 ∷ [])

-- a write at offset 4088 takes 0
abbrev pub at4088 : Case
at4088 =
    on_empty 0
    (gives (writes (replicate 4068 0x00)) (4068 ∷ []) (extent 0 4096 ∷ extent 20 4068 ∷ []) 12 4068
    ∷ gives commits [] (extent 12 8 ∷ []) 4088 0
    ∷ gives (writes (0x00 ∷ [])) (0 ∷ []) [] 4088 0
    ∷ [])

-- a write at offset 4084 takes up to 4
abbrev pub at4084 : Case
at4084 =
    on_empty 0
    (gives (writes (replicate 4064 0x00)) (4064 ∷ []) (extent 0 4096 ∷ extent 20 4064 ∷ []) 12 4064
    ∷ gives commits [] (extent 12 8 ∷ []) 4084 0
    ∷ gives (writes (replicate 5 0x00)) (4 ∷ []) (extent 4092 4 ∷ []) 4084 4
    ∷ gives (writes (0x00 ∷ [])) (0 ∷ []) [] 4084 4
    ∷ [])

unfoldable pub reference_cases : List Case
reference_cases = header ∷ one_added ∷ one_cut ∷ zero_cut ∷ full ∷ not_full ∷ higher_header ∷ at4088 ∷ at4084 ∷ []
