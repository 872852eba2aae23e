-- Reads of a page with a damaged second chunk, asked three times, and skips over the border of two chunks, by computation. Assumes
-- nothing.
use Rattle.std.specs.Prelude.{Ok}
use mathlib.Core.Bool.{xor}
use mathlib.Core.Path.{◌≡◌, refl, sym, subst}
use mathlib.Core.List.{List, [], ◌∷◌, flatten}
use mathlib.Core.Logic.{inl, ⊎_elim}
use Prim.Native.Nat.{ℕ}
use native.Mathlib.Nat.{le_refl}
use native.Mathlib.Omega.{arith}
use lib.ListN.{length}
use Rattle.types.specs.Histories.{left_after}
use Rattle.types.specs.Bytes.{word, bytes_of}
use Rattle.crc.specs.Published as crc
use Rattle.flash.specs.Geometry.{page_of}
use Rattle.slices.specs.Patch.{over, blank}
use Rattle.page.specs.Checks.{open_check}
use Rattle.page.specs.Chunks.{chunk_header, next_offset, chunk_at, checked_at}
use Rattle.page.specs.Headers.{page_header, page_header_fine}
use Rattle.page.specs.Walks.{Chunk, walk, walk_from}
use Rattle.page.proofs.LaidLaws.{All}
use Rattle.reader.specs.Calls.{open_page, open_bytes, read, read_bytes, skip, dehydrate, rehydrate_from}
use Rattle.reader.specs.Checks.{reader_check}
use Rattle.reader.specs.Finds.{NotEmpty, reads}
use Rattle.reader.specs.Moves.{moved, ready, rest_of, skip_by, skipped}
use Rattle.reader.specs.States.{new_reader}
use Rattle.reader.specs.declared.page_reader.PageReader.{PageReader}
use Rattle.claims.specs.Again.{reader_left}
use Rattle.claims.specs.ReaderHistories.{at_first, Asked, call_leaves, after_call, Among, Covered, NoneUnchecked}
use Rattle.claims.specs.Skips.{found_from, SkipIsRead}
use Rattle.claims.specs.Worked.{worked_magic, worked_page, chunk_of_one}
use Rattle.claims.specs.WorkedReads.{two_chunk_flash, empty_between_flash, damaged_flash, open_it, read_two, keep_it, bring_it_back}
use Rattle.claims.proofs.SkipIsRead.{skip-is-read}

-- ---- asked three times

-- after these calls a read answers with this number and leaves its buffer so
abbrev Leaves : List Asked → ℕ → List ℕ → Type 0
Leaves before number lent =
    let left = call_leaves damaged_flash (left_after (after_call damaged_flash) at_first before) read_two in
    (left.number ≡ number) × (left.lent ≡ lent)

-- the first read puts the byte of the good chunk; the next three ask for the damaged one, are refused with 1, and put nothing
pub worked-asked : Leaves (open_it ∷ []) 0 (5 ∷ 9 ∷ [])
    × (Leaves (open_it ∷ read_two ∷ []) 1 (8 ∷ 9 ∷ [])
    × (Leaves (open_it ∷ read_two ∷ read_two ∷ []) 1 (8 ∷ 9 ∷ []) × Leaves (open_it ∷ read_two ∷ read_two ∷ read_two ∷ []) 1 (8 ∷ 9 ∷ [])))
unfolding word bytes_of crc.bits crc.number crc.message crc.among crc.terms crc.generator xor crc.plus crc.divided crc.dividend crc.remainder crc.published over blank chunk_header
    page_header chunk_of_one damaged_flash page_header_fine chunk_at checked_at moved ready rest_of open_check reader_check open_page open_bytes read read_bytes reader_left after_call left_after
worked-asked = ((refl, refl), ((refl, refl), ((refl, refl), (refl, refl))))

-- that byte is covered: it is the payload of the walk's first chunk, whose sum is right
worked-covered : Covered damaged_flash worked_magic worked_page 0 (5 ∷ [])
unfolding word bytes_of crc.bits crc.number crc.message crc.among crc.terms crc.generator xor crc.plus crc.divided crc.dividend crc.remainder crc.published blank chunk_header
    page_header chunk_of_one damaged_flash page_header_fine chunk_at walk walk_from
worked-covered = record {
  chunk = record { offset = 12; len = 1; crc = crc.published (5 ∷ []) };
  position = 0;
  header = refl;
  walked = inl refl;
  sum = refl;
  within = le_refl 1;
  are = refl;
}

-- a reader that was kept, read on, opened anew and brought back puts that byte again, and it is known where it was opened
pub worked_kept : NoneUnchecked damaged_flash (left_after (after_call damaged_flash) at_first (open_it ∷ keep_it ∷ read_two ∷ open_it ∷ bring_it_back ∷ [])) read_two
unfolding word bytes_of crc.bits crc.number crc.message crc.among crc.terms crc.generator xor crc.plus crc.divided crc.dividend crc.remainder crc.published over blank chunk_header
    page_header chunk_of_one damaged_flash page_header_fine chunk_at checked_at moved ready rest_of open_check reader_check open_page open_bytes read read_bytes reader_left after_call left_after
    dehydrate rehydrate_from
worked_kept = record {
  puts = record { bytes = 5 ∷ []; many = refl; covered = worked-covered; put = refl };
  refused = λ e. absurd (e refl);
}

-- a read of the damaged chunk is refused, and changes nothing
pub worked-refusal : NoneUnchecked damaged_flash (left_after (after_call damaged_flash) at_first (open_it ∷ read_two ∷ [])) read_two
unfolding word bytes_of crc.bits crc.number crc.message crc.among crc.terms crc.generator xor crc.plus crc.divided crc.dividend crc.remainder crc.published over blank chunk_header
    page_header chunk_of_one damaged_flash page_header_fine chunk_at checked_at moved ready rest_of open_check reader_check open_page open_bytes read read_bytes reader_left after_call left_after
worked-refusal = record { puts = refl; refused = λ e. (refl, refl) }

-- ---- a skip over a border

abbrev opened_on : List ℕ → PageReader
opened_on flash = (open_page new_reader flash worked_magic worked_page 0).reader

-- a buffer of one byte, again and again
abbrev ones : ℕ → List ℕ
ones i = 9 ∷ []

-- what is found, how a skip of two answers, and what is found behind it
abbrev Skips : List ℕ → List ℕ → ℕ → List ℕ → Type 0
Skips flash before passed behind =
    let r = opened_on flash in
    (found_from ones flash r ≡ record { bytes = before; ends = Ok tt })
    × (((skip r flash 2).answer ≡ Ok passed) × (found_from ones flash (skip r flash 2).reader ≡ record { bytes = behind; ends = Ok tt }))

-- three bytes are found; a skip of two answers 2, and the last one is found behind it
pub worked-skip : Skips two_chunk_flash (5 ∷ 6 ∷ 7 ∷ []) 2 (7 ∷ [])
unfolding word bytes_of crc.bits crc.number crc.message crc.among crc.terms crc.generator xor crc.plus crc.divided crc.dividend crc.remainder crc.published over blank chunk_header
    page_header chunk_of_one two_chunk_flash page_header_fine chunk_at checked_at moved ready rest_of skip_by skipped open_check reader_check open_page read read_bytes skip reads flatten
worked-skip = (refl, (refl, refl))

among-all : (P : Chunk → Type 0) (cs : List Chunk) → All P cs → (c : Chunk) → Among c cs → P c
among-all P [] all c a = absurd a
among-all P (d ∷ ds) all c a = ⊎_elim (λ (q : c ≡ d). subst P (sym q) all.0) (λ b. among-all P ds all.1 c b) a

abbrev behind_first : List Chunk
behind_first = (walk_from (page_of 0 two_chunk_flash) (next_offset (opened_on two_chunk_flash).offset (opened_on two_chunk_flash).len)).chunks

premises : ((opened_on two_chunk_flash).page.0 ≡ 0) × ((reader_check (length two_chunk_flash) (opened_on two_chunk_flash) ≡ Ok tt) × All NotEmpty behind_first)
unfolding word bytes_of crc.bits crc.number crc.message crc.among crc.terms crc.generator xor crc.plus crc.divided crc.dividend crc.remainder crc.published blank chunk_header
    page_header chunk_of_one two_chunk_flash page_header_fine chunk_at checked_at open_check reader_check open_page walk walk_from
premises = (refl, (refl, (omega arith, tt)))

-- the statement holds of that page, which meets the premises
pub worked-skip-is-read : SkipIsRead two_chunk_flash (opened_on two_chunk_flash) 2 ones ones
worked-skip-is-read =
    skip-is-read two_chunk_flash (opened_on two_chunk_flash) 2 ones ones premises.1.0
    (λ e. rw premises.0 (among-all NotEmpty behind_first premises.1.1)) (λ i. omega arith) (λ i. omega arith)

-- with an empty chunk in between, where a read answers 0, one byte is found in front of a skip that passes two
pub worked-empty : Skips empty_between_flash (5 ∷ []) 2 []
unfolding word bytes_of crc.bits crc.number crc.message crc.among crc.terms crc.generator xor crc.plus crc.divided crc.dividend crc.remainder crc.published over blank chunk_header
    page_header chunk_of_one empty_between_flash page_header_fine chunk_at checked_at moved ready rest_of skip_by skipped open_check reader_check open_page read read_bytes skip reads flatten
worked-empty = (refl, (refl, refl))
