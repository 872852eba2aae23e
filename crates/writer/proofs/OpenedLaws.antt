-- What open and open_append hand back, however they end. Assumes nothing.
use Rattle.std.specs.Prelude.{Ok, Err}
use Rattle.std.specs.declared.result.Result.{Result}
use Rattle.types.specs.declared.refusal.Corrupted.{Corrupted}
use mathlib.Core.Path.{◌≡◌, refl}
use mathlib.Core.Bool.{true}
use mathlib.Core.List.{List}
use Prim.Native.Nat.{ℕ}
use native.Mathlib.Omega.{arith}
use lib.ListN.{length}
use Rattle.types.specs.Checks.{refused_or, Verdict}
use Rattle.types.specs.declared.page_id.PageID.{PageID}
use Rattle.flash.specs.Geometry.{page_of}
use Rattle.page.specs.Checks.{open_check}
use Rattle.page.specs.Walks.{walk_end}
use Rattle.writer.specs.Openings.{open_as, opened, appended_at, appended}
use Rattle.writer.specs.Outcomes.{refused_at}
use Rattle.writer.specs.States.{first_chunk, fresh}
use Rattle.writer.specs.declared.page_writer.PageWriter.{PageWriter}

-- the count of stores goes through
pub opened-left : (xs : List ℕ) (page : PageID) (h : ℕ) (w : PageWriter) (left : ℕ) → (opened xs page h w left).left ≡ left
unfolding opened
opened-left xs page h w left = by (open_check (length xs) h page)
  where
    by : (v : Verdict) → (refused_or v (refused_at w left) (open_as (fresh true page h (first_chunk h)) left)).left ≡ left
    by (Err why) = refl
    by (Ok tt) = refl

module _ (e : ℕ) (xs : List ℕ) (page : PageID) (h : ℕ) (w : PageWriter) (left : ℕ) where
  pub appended_left : (appended e xs page h w left).left ≡ left
  unfolding appended
  appended_left = by (open_check (length xs) h page) (walk_end (page_of page.0 xs) (first_chunk h))
    where
      by : (v : Verdict) (end : Result ℕ Corrupted) → (refused_or v (refused_at w left) (appended_at e (page_of page.0 xs) page h w left end)).left ≡ left
      by (Err why) end = refl
      by (Ok tt) (Err w) = refl
      by (Ok tt) (Ok o) = refl

  -- the writer stands on the page that was asked for
  pub appended-page : (appended e xs page h w left).answer ≡ Ok tt → (appended e xs page h w left).writer.page ≡ page
  unfolding appended
  appended-page done = by (open_check (length xs) h page) (walk_end (page_of page.0 xs) (first_chunk h)) done
    where
      by : (v : Verdict) (end : Result ℕ Corrupted) → (refused_or v (refused_at w left) (appended_at e (page_of page.0 xs) page h w left end)).answer ≡ Ok tt
          → (refused_or v (refused_at w left) (appended_at e (page_of page.0 xs) page h w left end)).writer.page ≡ page
      by (Err why) end done = let z : ◌≡◌ {A = ℕ} 0 1 = cc in absurd (omega arith)
      by (Ok tt) (Err w) done = let z : ◌≡◌ {A = ℕ} 0 1 = cc in absurd (omega arith)
      by (Ok tt) (Ok o) done = refl
