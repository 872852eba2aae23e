-- Calls of a writer, one after the other: two chunks and a page header between them, each store of a chunk on erased bytes. And a commit
-- that is cut and made again. Assumes nothing.
use Rattle.std.specs.Prelude.{Ok, Err, ⊤}
use mathlib.Core.Bool.{false}
use mathlib.Core.Path.{◌≡◌, refl, sym, ap, subst, ◌∙◌}
use mathlib.Core.List.{List, [], ◌∷◌, map}
use mathlib.Core.Logic.{inr}
use Prim.Native.Nat.{ℕ, ◌+◌, ◌≤◌}
use native.Mathlib.Nat.{le_refl}
use native.Mathlib.Omega.{arith}
use lib.ListN.{length, get_or}
use Rattle.types.specs.Build.{erase_value}
use Rattle.types.specs.Bytes.{word, bytes_of}
use Rattle.types.specs.Histories.{left_after, told_by_each}
use Rattle.types.specs.declared.refusal.Refusal.TheVariants.{Cut, BadHeader}
use Rattle.slices.specs.Patch.{over, patch, blank}
use Rattle.page.specs.Checks.{open_check}
use Rattle.page.specs.Chunks.{chunk_header, chunk_at}
use Rattle.page.specs.Headers.{page_header}
use Rattle.page.specs.Walks.{walk, walk_from, all_erased}
use Rattle.writer.specs.Calls.{World, AddCall, commits, heads, hands_back_in, leaves_in, opened_on}
use Rattle.writer.specs.Commits.{chunk_ops}
use Rattle.writer.specs.Duties.{commit_duty, makes}
use Rattle.writer.specs.Headings.{header_ops}
use Rattle.writer.specs.Openings.{appended}
use Rattle.writer.specs.ReferenceCases.{extent, extent_of}
use Rattle.writer.specs.States.{fresh, in_range, new_writer}
use Rattle.writer.specs.Checks.{writer_check, heading_check}
use Rattle.writer.specs.Writes.{group_of, buffer_of, payload_ops, taking_ops, written}
use Rattle.writer.specs.declared.answers.Ended.{Ended}
use Rattle.writer.specs.declared.page_writer.PageWriter.{PageWriter}
use Rattle.claims.specs.Sequences.{again_in, Making, makings, all_ops, AllLand}
use Rattle.claims.specs.Untouched.{Uncovered}
use Rattle.claims.specs.Worked.{worked_magic, worked_page, headed_flash, two_chunks}
use Rattle.claims.proofs.CallLaws.{in_world}
use Rattle.claims.proofs.CountMade.{counts-made}
use Rattle.claims.proofs.Elsewhere.{elsewhere}
use Rattle.claims.proofs.ErasedLaws.{writes-on-erased}
use Rattle.claims.proofs.Retried.{retried, refused-again}

abbrev reopened : Ended ⊤
reopened = appended erase_value headed_flash worked_page 0 new_writer 9

-- behind the page header
abbrev writer : PageWriter
writer = fresh false worked_page 0 12

reopens : reopened ≡ record { answer = Ok tt; writer = writer; left = 9 }
unfolding word bytes_of blank page_header headed_flash chunk_at walk walk_from all_erased appended open_check
reopens = refl

-- ---- two chunks

abbrev start : World
start = in_world headed_flash writer 9

abbrev calls : List Making
calls = makings erase_value start two_chunks

-- call by call: the payload and then the header, of the chunk at 12 and of the one at 24, and the page header at 0 between them
pub worked-stores : map (λ (m : Making). map extent_of m.ops) calls
    ≡ [] ∷ (extent 20 4 ∷ extent 12 8 ∷ []) ∷ (extent 0 12 ∷ []) ∷ [] ∷ (extent 32 4 ∷ extent 24 8 ∷ []) ∷ []
unfolding bytes_of over patch blank page_header headed_flash in_range writer_check heading_check chunk_header chunk_ops header_ops group_of buffer_of payload_ops taking_ops extent_of told_by_each
worked-stores = refl

pub worked-on-erased : AllLand erase_value calls
worked-on-erased =
    subst (λ (o : Ended ⊤). AllLand erase_value (makings erase_value (opened_on headed_flash o) two_chunks)) reopens
    (writes-on-erased erase_value headed_flash worked_page 0 new_writer 9 two_chunks (ap (λ (o : Ended ⊤). o.answer) reopens))

-- nine stores were allowed and five were made, so four are left
pub worked-count : (length (all_ops calls) ≡ 5) × ((left_after (leaves_in erase_value) start two_chunks).left ≡ 4)
unfolding bytes_of over patch blank page_header headed_flash in_range writer_check heading_check chunk_header chunk_ops header_ops group_of buffer_of payload_ops taking_ops told_by_each left_after
worked-count = (refl, refl)

pub worked-counted : 4 + length (all_ops calls) ≡ 9
worked-counted = ap (λ (n : ℕ). n + length (all_ops calls)) (sym worked-count.1) ∙ counts-made erase_value two_chunks start

-- ---- a commit of one byte that is cut after its first store

abbrev pending : PageWriter
pending = written writer (6 ∷ [])

-- where so many stores may be made
abbrev with : ℕ → World
with stores = in_world headed_flash pending stores

cut-or-done : ((hands_back_in erase_value (with 1) commits).answer ≡ Err Cut) × ((hands_back_in erase_value (with 2) commits).answer ≡ Ok tt)
unfolding bytes_of over patch blank page_header headed_flash in_range writer_check chunk_header chunk_ops group_of buffer_of
cut-or-done = (refl, refl)

abbrev again : World
again = again_in erase_value (with 1) commits 2

-- made again with two stores it is done, and the flash is that of a commit with two stores from the start
pub worked-retried : ((hands_back_in erase_value again commits).answer ≡ Ok tt) × ((leaves_in erase_value again commits).flash ≡ (leaves_in erase_value (with 2) commits).flash)
worked-retried =
    let same = retried erase_value commits (with 1) 2 (omega arith) cut-or-done.0 in
    (ap (λ (end : Ended ⊤). end.answer) same.0 ∙ cut-or-done.1, ap (λ (x : World). x.flash) same.1)

-- byte 24 lies behind both stores, and is as it was
both-before : Uncovered 0 (makes (commit_duty erase_value headed_flash pending) 2) 24
unfolding bytes_of over patch blank page_header headed_flash in_range writer_check chunk_header chunk_ops group_of buffer_of
both-before =
    let at_once : 24 ≤ 24 = le_refl 24 in
    let later : 20 ≤ 24 = omega arith in
    (inr at_once, (inr later, tt))

pub worked-uncovered : get_or (leaves_in erase_value (with 2) commits).flash 24 0 ≡ get_or headed_flash 24 0
worked-uncovered = (elsewhere (commit_duty erase_value headed_flash pending) pending 2 headed_flash).uncovered 24 0 both-before

-- a page header of four bytes, where the page was opened for none, is refused by 6, and again
abbrev too_long : AddCall
too_long = heads worked_magic (1 ∷ 2 ∷ 3 ∷ 4 ∷ [])

refused-there : (hands_back_in erase_value (with 1) too_long).answer ≡ Err BadHeader
unfolding bytes_of blank page_header headed_flash heading_check
refused-there = refl

pub worked-refused : (hands_back_in erase_value (again_in erase_value (with 1) too_long 0) too_long).answer ≡ Err BadHeader
worked-refused =
    ap (λ (end : Ended ⊤). end.answer)
    (refused-again erase_value too_long (with 1) BadHeader 0 refused-there (λ (e : BadHeader ≡ Cut). let z : ◌≡◌ {A = ℕ} 0 1 = cc in omega arith)).0
