-- A history of a page: episodes in which it is reopened, one chunk is added and the power fails after some number of stores, or
-- does not. Assumes nothing.
use mathlib.Core.List.{List, [], ◌∷◌, flatten}
use Rattle.std.specs.Prelude.{ℕ}
use Rattle.types.specs.Histories.{left_after, told_by_each}
use Rattle.types.specs.declared.page_id.PageID.{PageID}
use Rattle.writer.specs.declared.page_writer.PageWriter.{PageWriter}
use Rattle.claims.specs.Additions.{added, added_payload}
use Rattle.claims.specs.Pages.{AllBytes}

-- an episode: the writer that the page is reopened with, as the cut before left it or any other, the pieces that are written, and
-- how many stores are made before the cut
pub record Episode : Type 0 where
  pub writer : PageWriter
  pub pieces : List (List ℕ)
  pub stores : ℕ

-- the pieces of each episode are bytes
abbrev pub AllPieces : List Episode → Type 0
AllPieces [] = Unit
AllPieces (t ∷ ts) = AllBytes t.pieces × AllPieces ts

-- the flash after an episode on a page, and the payload of its chunk, if that was added whole
abbrev pub episode_leaves : ℕ → PageID → ℕ → List ℕ → Episode → List ℕ
episode_leaves e page h xs t = added e xs page h t.writer t.stores t.pieces

abbrev pub episode_keeps : ℕ → PageID → ℕ → List ℕ → Episode → List (List ℕ)
episode_keeps e page h xs t = added_payload e xs page h t.writer t.stores t.pieces

-- the flash after episodes on one page
abbrev pub history : ℕ → List ℕ → PageID → ℕ → List Episode → List ℕ
history e xs page h ts = left_after (episode_leaves e page h) xs ts

-- the payloads of the chunks that were added whole, in the order in which they were added
abbrev pub kept_payloads : ℕ → List ℕ → PageID → ℕ → List Episode → List (List ℕ)
kept_payloads e xs page h ts = flatten (told_by_each (episode_leaves e page h) (episode_keeps e page h) xs ts)
