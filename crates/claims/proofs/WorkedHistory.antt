-- A history of two episodes: the byte 6 is added whole, then added once more and the power fails before the header's store. A new reader
-- finds it once. And what the history leaves of a higher header and of a second page. Assumes nothing.
use mathlib.Core.Path.{◌≡◌, refl, ap, subst, ◌∙◌}
use mathlib.Core.List.{List, [], ◌∷◌, ◌++◌, flatten}
use Prim.Native.Nat.{ℕ}
use native.Mathlib.Omega.{arith}
use Rattle.types.specs.Build.{erase_value, page_size}
use Rattle.types.specs.Bytes.{word, bytes_of}
use Rattle.types.specs.Histories.{told_by_each}
use Rattle.flash.specs.Geometry.{page_of}
use Rattle.slices.specs.Patch.{over, patch, blank}
use Rattle.page.specs.Checks.{open_check}
use Rattle.page.specs.Chunks.{chunk_header, chunk_at}
use Rattle.page.specs.Headers.{page_header}
use Rattle.page.specs.Walks.{walk, walk_from, all_erased}
use Rattle.reader.specs.Finds.{found, found_with, joined}
use Rattle.writer.specs.Commits.{chunk_ops}
use Rattle.writer.specs.Openings.{appended}
use Rattle.writer.specs.States.{in_range, new_writer}
use Rattle.writer.specs.Checks.{writer_check}
use Rattle.writer.specs.Writes.{group_of, buffer_of, payload_ops, taking_ops}
use Rattle.claims.specs.Additions.{after_writes, added, addition, addition_ops}
use Rattle.claims.specs.Histories.{Episode, AllPieces, history, kept_payloads}
use Rattle.claims.specs.Pages.{payloads, finds, hands_out, Opens}
use Rattle.claims.specs.Worked.{worked_magic, worked_page, chunk_of_one, worked_flash, higher_flash, two_pages}
use Rattle.claims.proofs.CutSafe.{cut-history, cut-history-rooms, cut-history-header}
use Rattle.claims.proofs.Elsewhere.{history-elsewhere}
use Rattle.claims.proofs.WorkedLaws.{six, six-bytes, worked-shape, worked-good, small, higher-shape, higher-good, higher-header, second-page}

-- two stores make the chunk
abbrev episodes : List Episode
episodes = record { writer = new_writer; pieces = six; stores = 2 } ∷ record { writer = new_writer; pieces = six; stores = 1 } ∷ []

all-pieces : AllPieces episodes
all-pieces = (six-bytes, (six-bytes, tt))

kept_there : payloads (page_of 0 worked_flash) 0 ++ kept_payloads erase_value worked_flash worked_page 0 episodes ≡ (5 ∷ []) ∷ (6 ∷ []) ∷ []
unfolding word bytes_of over patch blank chunk_header page_header chunk_of_one worked_flash chunk_at walk walk_from all_erased chunk_ops appended
    open_check in_range writer_check group_of buffer_of payload_ops taking_ops addition addition_ops after_writes added told_by_each flatten
kept_there = refl

pub worked-history : found (history erase_value worked_flash worked_page 0 episodes) worked_magic worked_page 0 ≡ finds ((5 ∷ []) ∷ (6 ∷ []) ∷ [])
worked-history = cut-history worked_page worked_magic 0 episodes worked_flash 24 worked-shape.0 worked-shape.1 worked-good all-pieces ∙ ap finds kept_there

pub worked-history-rooms : joined (found_with small (history erase_value worked_flash worked_page 0 episodes) worked_magic worked_page 0) ≡ hands_out (5 ∷ 6 ∷ [])
unfolding flatten
worked-history-rooms =
    cut-history-rooms worked_page worked_magic 0 episodes worked_flash 24 worked-shape.0 worked-shape.1 worked-good all-pieces small (λ i. omega arith)
    ∙ ap (λ (l : List (List ℕ)). hands_out (flatten l)) kept_there

pub worked-history-header : Opens (history erase_value higher_flash worked_page 4 episodes) worked_magic worked_page 4 (1 ∷ 2 ∷ 3 ∷ 4 ∷ [])
worked-history-header =
    subst (λ (l : List ℕ). Opens (history erase_value higher_flash worked_page 4 episodes) worked_magic worked_page 4 l) higher-header
    (cut-history-header worked_page worked_magic 4 episodes higher_flash 16 higher-shape.0 higher-shape.1 higher-good all-pieces)

pub worked-history-elsewhere : page_of 1 (history erase_value two_pages worked_page 0 episodes) ≡ blank 9 page_size
worked-history-elsewhere = (history-elsewhere erase_value worked_page 0 episodes two_pages).other-pages 1 (λ (e : 0 ≡ 1). omega arith) ∙ second-page
