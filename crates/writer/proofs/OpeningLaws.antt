-- Opening, by the way that it ends. Assumes nothing.
use Rattle.std.specs.Prelude.{Ok, Err}
use Rattle.std.specs.declared.result.Result.{Result}
use Rattle.types.specs.Checks.{Verdict, refused_or}
use Rattle.types.specs.declared.refusal.Corrupted.{Corrupted}
use mathlib.Core.Path.{◌≡◌, refl, ap, ◌∙◌}
use mathlib.Core.Bool.{true, false}
use mathlib.Core.List.{List}
use Prim.Native.Nat.{ℕ, ◌≤◌}
use lib.ListN.{length}
use Rattle.types.specs.Build.{max_header_size}
use Rattle.types.specs.declared.page_id.PageID.{PageID}
use Rattle.types.specs.declared.refusal.Refusal.{Refusal}
use Rattle.flash.specs.Geometry.{page_of}
use Rattle.page.specs.Checks.{open_check}
use Rattle.page.proofs.CheckLaws.{open-checked}
use Rattle.page.specs.Walks.{walk_end}
use Rattle.writer.specs.Openings.{open_as, replaced_by, anew, opened, resume_at, behind_at, behind, appended_at, appended}
use Rattle.writer.specs.Outcomes.{refused_at}
use Rattle.writer.specs.States.{first_chunk, fresh}
use Rattle.writer.specs.declared.page_writer.PageWriter.{PageWriter}

-- what the checks say of the header
pub open_small : (n h : ℕ) (page : PageID) → open_check n h page ≡ Ok tt → h ≤ max_header_size
open_small n h page fine = (open-checked n h page fine).small

-- ---- the two calls

module _ (xs : List ℕ) (page : PageID) (h : ℕ) (w : PageWriter) (left : ℕ) where
  -- the writer that is made, or the refusal, and this writer with it
  replaced : (v : Verdict) (made : Result PageWriter Refusal) → replaced_by w left (refused_or v Err made) ≡ refused_or v (refused_at w left) (replaced_by w left made)
  replaced (Ok done) made = refl
  replaced (Err why) made = refl

  pub open_replaced : replaced_by w left (anew (length xs) page h) ≡ opened xs page h w left
  unfolding anew opened
  open_replaced = replaced (open_check (length xs) h page) (Ok (fresh true page h (first_chunk h)))

  pub append_replaced : (e : ℕ) → replaced_by w left (behind e xs page h) ≡ appended e xs page h w left
  unfolding behind appended
  append_replaced e =
      replaced (open_check (length xs) h page) (behind_at e (page_of page.0 xs) page h (walk_end (page_of page.0 xs) (first_chunk h)))
      ∙ ap (refused_or (open_check (length xs) h page) (refused_at w left)) (at (walk_end (page_of page.0 xs) (first_chunk h)))
    where
      at : (end : Result ℕ Corrupted) → replaced_by w left (behind_at e (page_of page.0 xs) page h end) ≡ appended_at e (page_of page.0 xs) page h w left end
      at (Ok o) = refl
      at (Err why) = refl

  pub append-fine : (e : ℕ) (bytes : List ℕ) (o at : ℕ) (next : PageWriter) → open_check (length xs) h page ≡ Ok tt → bytes ≡ page_of page.0 xs
      → walk_end bytes (first_chunk h) ≡ Ok o → at ≡ resume_at e bytes o → next ≡ fresh false page h at → open_as next left ≡ appended e xs page h w left
  unfolding appended
  append-fine e bytes o at next v b c r n = rw (n, r, v, ← b, c)
