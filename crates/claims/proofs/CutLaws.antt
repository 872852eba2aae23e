-- What a cut leaves for a walk over the page, for any flash, page, higher header, pieces and number of stores. Assumes nothing.
use Rattle.std.specs.Prelude.{Ok, ⊤}
use mathlib.Core.Path.{◌≡◌, refl, sym, ap, subst, ◌∙◌}
use mathlib.Core.Bool.{Bool, true, false, cond}
use mathlib.Core.List.{List, []}
use mathlib.Core.Logic.{⊎_elim}
use Prim.Native.Nat.{ℕ, ◌+◌, ◌%◌, ◌≤◌, ◌<◌}
use native.Mathlib.Omega.{arith}
use lib.ListN.{length, take, drop}
use borrow.Author.Tests.{eqb-true, ltb-true}
use Rattle.types.specs.Build.{page_size}
use Rattle.types.specs.declared.page_id.PageID.{PageID}
use Rattle.types.proofs.TestLaws.{both_true, decided, le-or-lt}
use Rattle.flash.specs.Geometry.{flash_fine, has_page, page_start, page_of}
use Rattle.flash.specs.Operations.{Op, applied, allowed}
use Rattle.flash.proofs.GeometryLaws.{page-inside, length-page}
use Rattle.flash.proofs.PageLaws.{page-applied}
use Rattle.page.specs.Headers.{header_fine}
use Rattle.page.specs.Walks.{walk_from, all_erased}
use Rattle.page.proofs.CheckLaws.{open_check-fine}
use Rattle.page.proofs.LaidLaws.{walk-ended}
use Rattle.writer.specs.Calls.{opened_on}
use Rattle.writer.specs.Openings.{appended, resume_at}
use Rattle.writer.specs.States.{first_chunk, fresh, in_range}
use Rattle.writer.specs.declared.answers.Ended.{Ended}
use Rattle.writer.specs.declared.page_writer.PageWriter.{PageWriter}
use Rattle.writer.proofs.OpeningLaws.{append-fine}
use Rattle.writer.proofs.RangeLaws.{append-range}
use Rattle.claims.specs.Additions.{added, go_on, after_writes, addition_ops, addition}
use Rattle.writer.proofs.AddingLaws.{Adding, adding-none}
use Rattle.claims.proofs.AdditionLaws.{addition-stored, addition-none}
use Rattle.claims.proofs.CallLaws.{in_world, Going, calls-made}
use Rattle.writer.proofs.ClosingLaws.{Stored}
use Rattle.claims.proofs.PageCutLaws.{Room}

-- what an opening that is not refused for 5, 6 or 4 has shown
pub record Shape (n p h : ℕ) : Type 0 where
  pub flash : flash_fine n ≡ true
  pub header : header_fine h ≡ true
  pub there : has_page n p ≡ true

-- the writer that open_append hands back, where the page's chunks end at o
module _ (e : ℕ) (xs : List ℕ) (page : PageID) (h : ℕ) (w : PageWriter) (k o : ℕ) (shape : Shape (length xs) page.0 h)
    (ends : (walk_from (page_of page.0 xs) (first_chunk h)).ending ≡ Ok o) where
  abbrev bytes : List ℕ
  bytes = page_of page.0 xs

  abbrev writer : PageWriter
  writer = fresh false page h (resume_at e bytes o)

  pub append-as : appended e xs page h w k ≡ record { answer = Ok tt; writer = writer; left = k }
  append-as =
      sym (append-fine xs page h w k e bytes o (resume_at e bytes o) writer (open_check-fine (length xs) h page shape.flash shape.header shape.there) refl ends refl refl)

  going : Going (length xs) writer
  going = record {
    shape = shape.flash;
    range = ap (λ (r : Ended ⊤). in_range r.writer) (sym append-as) ∙ append-range e xs page h w k (ap (λ (r : Ended ⊤). r.answer) append-as);
    there = shape.there;
  }

  pub even : o % 4 ≡ 0
  even =
      let f = both_true _ _ shape.header in
      let a : h % 4 ≡ 0 = eqb-true _ _ f.0 in
      (walk-ended bytes (first_chunk h) o ends).group (omega arith)

  module _ (pieces : List (List ℕ)) where
    abbrev payload : List ℕ
    payload = addition writer pieces

    abbrev ops : List Op
    ops = addition_ops e writer pieces

    -- the calls make the first k operations
    pub added-flash : added e xs page h w k pieces ≡ allowed (page_start page.0) k ops xs
    unfolding added
    added-flash = ap (λ (r : Ended ⊤). go_on r.answer (after_writes e pieces (opened_on xs r)) xs) append-as ∙ calls-made e pieces (in_world xs writer k) going

    -- on the page alone
    pub added-page : page_of page.0 (added e xs page h w k pieces) ≡ applied 0 (take k ops) bytes
    added-page = ap (page_of page.0) added-flash ∙ page-applied (page_start page.0) (take k ops) xs

    module _ (some : 0 < length payload) where
      -- where bytes were taken there was room for them, and the page read as erased
      fits-there : writer.offset + 8 < page_size
      fits-there =
          ⊎_elim
          (λ (none : page_size ≤ writer.offset + 8). absurd (let z : length payload ≡ 0 = ap length (addition-none writer pieces none refl) in omega arith))
          (λ h. h) (le-or-lt page_size (writer.offset + 8))

      clean : all_erased e (drop o bytes) ≡ true
      clean =
          ⊎_elim (λ t. t)
          (λ (f : all_erased e (drop o bytes) ≡ false).
          absurd (let n : resume_at e bytes o ≡ page_size = ap (λ (t : Bool). cond t o page_size) f in let m : resume_at e bytes o + 8 < page_size = fits-there in omega arith))
          (decided (all_erased e (drop o bytes)))

      at-end : resume_at e bytes o ≡ o
      at-end = ap (λ (t : Bool). cond t o page_size) clean

      whole : length bytes ≡ page_size
      whole = length-page (page_start page.0) xs (page-inside (length xs) page.0 (ltb-true _ _ shape.there))

      pub room : Room e bytes (first_chunk h) o
      room = record { whole = whole; ends = ends; clean = clean }

      adding : Adding bytes o writer [] bytes
      adding = subst (λ (v : PageWriter). Adding bytes o v [] bytes) (ap (fresh false page h) (sym at-end)) (adding-none bytes o page h)

      pub stored : Stored bytes o payload bytes ops
      stored =
          addition-stored bytes o e even pieces writer [] bytes adding (let m : resume_at e bytes o + 8 < page_size = fits-there in let n : resume_at e bytes o ≡ o = at-end in omega arith)
          (omega arith) some
