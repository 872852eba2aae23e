-- Any history of reopenings, additions and cuts: what a page holds is the chunks whose last store was made. Assumes nothing.
use Rattle.std.specs.Prelude.{⊤}
use mathlib.Core.Path.{◌≡◌, refl, sym, ap, subst, ◌∙◌}
use mathlib.Core.Bool.{Bool, true, false, cond, not, ◌&&◌}
use mathlib.Core.List.{List, [], ◌∷◌, ◌++◌, flatten, append_assoc, append-nil}
use mathlib.Core.Logic.{⊎_elim}
use Prim.Native.Nat.{ℕ, ◌≤◌, ◌<◌}
use native.Mathlib.Omega.{arith}
use lib.Dec.{leb}
use lib.ListN.{length, take}
use lib.Seq.{take-nil}
use borrow.Author.Tests.{eq-eqb, ne_eqb, le-leb, lt-leb}
use Rattle.types.specs.Bytes.{word}
use Rattle.types.specs.declared.page_id.PageID.{PageID}
use Rattle.types.proofs.HistoryLaws.{left_after-none, left_after-more, told_by_each-none, told_by_each-more}
use Rattle.types.proofs.TestLaws.{eq-or-ne, le-or-lt}
use Rattle.flash.specs.Geometry.{flash_fine, has_page, page_of}
use Rattle.flash.specs.Operations.{Op, applied}
use Rattle.slices.specs.Patch.{blank}
use Rattle.page.specs.Chunks.{chunk_magic, next_offset}
use Rattle.page.specs.Headers.{header_of}
use Rattle.writer.specs.Openings.{appended, resume_at}
use Rattle.writer.specs.States.{fresh}
use Rattle.writer.specs.declared.answers.Ended.{Ended}
use Rattle.writer.specs.declared.page_writer.PageWriter.{PageWriter}
use Rattle.claims.specs.Additions.{addition, addition_ops, added, new_payload, store_count, added_whole, added_payload}
use Rattle.claims.specs.Histories.{Episode, AllPieces, episode_leaves, episode_keeps, history, kept_payloads}
use Rattle.claims.specs.Pages.{AllBytes, Good, payloads}
use Rattle.claims.proofs.AdditionLaws.{addition-empty}
use Rattle.claims.proofs.CutLaws.{Shape, append-as, added-page}
use Rattle.claims.proofs.CutPage.{page-before, page-after, header-kept}
use Rattle.claims.proofs.Elsewhere.{cut-elsewhere}

-- a good page with an older one's higher header, whose payloads are those of the older one and more
pub record Holds (magic p h : ℕ) (older page : List ℕ) (more : List (List ℕ)) : Type 0 where
  pub o : ℕ
  pub good : Good magic p h o page
  pub header : header_of page h ≡ header_of older h
  pub are : payloads page h ≡ payloads older h ++ more

nothing : (l : List ℕ) → length l ≡ 0 → l ≡ []
nothing [] z = refl
nothing (x ∷ l) z = absurd (omega arith)

module _ (e : ℕ) (unmarked : word (blank e 2) ≡ chunk_magic → ⊥) (page : PageID) (magic h : ℕ) (w : PageWriter) where
  -- one addition
  pub addition-holds : (xs : List ℕ) (k : ℕ) (ps : List (List ℕ)) (o : ℕ) → flash_fine (length xs) ≡ true → has_page (length xs) page.0 ≡ true
      → Good magic page.0 h o (page_of page.0 xs) → AllBytes ps
      → Holds magic page.0 h (page_of page.0 xs) (page_of page.0 (added e xs page h w k ps)) (added_payload e xs page h w k ps)
  addition-holds xs k ps o fine there good bytes =
      let new = new_payload e xs page h w k ps in
      let before = page_of page.0 xs in
      let after = page_of page.0 (added e xs page h w k ps) in
      let shape : Shape (length xs) page.0 h = record { flash = fine; header = good.length-fine; there = there } in
      let is-writer : (appended e xs page h w k).writer ≡ fresh false page h (resume_at e before o) = ap (λ (r : Ended ⊤). r.writer) (append-as e xs page h w k o shape good.ends) in
      ⊎_elim
      (λ (z : length new ≡ 0).
      let none : addition (fresh false page h (resume_at e before o)) ps ≡ [] = ap (λ (v : PageWriter). addition v ps) (sym is-writer) ∙ nothing new z in
      let ops : addition_ops e (fresh false page h (resume_at e before o)) ps ≡ [] = addition-empty e (fresh false page h (resume_at e before o)) ps refl none in
      let same : after ≡ before =
      added-page e xs page h w k o shape good.ends ps ∙ ap (λ (l : List Op). applied 0 (take k l) before) ops ∙ ap (λ (l : List Op). applied 0 l before) (take-nil k) in
      let f : added_whole e xs page h w k ps ≡ false = ap (λ (b : Bool). not b && leb (store_count e xs page h w k ps) k) (eq-eqb (length new) 0 z) in
      record {
        o = o;
        good = subst (λ (p : List ℕ). Good magic page.0 h o p) (sym same) good;
        header = ap (λ (p : List ℕ). header_of p h) same;
        are = ap (λ (p : List ℕ). payloads p h) same ∙ sym (append-nil (payloads before h)) ∙ ap (λ (b : Bool). payloads before h ++ cond b (new ∷ []) []) (sym f);
      })
      (λ (n : length new ≡ 0 → ⊥).
      let some : 0 < length new = omega arith in
      let b : added_whole e xs page h w k ps ≡ leb (store_count e xs page h w k ps) k = ap (λ (b : Bool). not b && leb (store_count e xs page h w k ps) k) (ne_eqb (length new) 0 n) in
      ⊎_elim
      (λ (all : store_count e xs page h w k ps ≤ k).
      let r = page-after e unmarked xs page magic h o w k ps fine there good bytes some all in
      record {
        o = next_offset o (length new);
        good = r.0;
        header = header-kept e unmarked xs page magic h o w k ps fine there good bytes some;
        are = r.1 ∙ ap (λ (b : Bool). payloads before h ++ cond b (new ∷ []) []) (sym (b ∙ le-leb (store_count e xs page h w k ps) k all));
      })
      (λ (cut : k < store_count e xs page h w k ps).
      let r = page-before e unmarked xs page magic h o w k ps fine there good bytes some cut in
      record {
        o = o;
        good = r.0;
        header = header-kept e unmarked xs page magic h o w k ps fine there good bytes some;
        are = r.1 ∙ sym (append-nil (payloads before h)) ∙ ap (λ (b : Bool). payloads before h ++ cond b (new ∷ []) []) (sym (b ∙ lt-leb (store_count e xs page h w k ps) k cut));
      })
      (le-or-lt (store_count e xs page h w k ps) k))
      (eq-or-ne (length new) 0)

module _ (e : ℕ) (unmarked : word (blank e 2) ≡ chunk_magic → ⊥) (page : PageID) (magic h : ℕ) where
  -- THE HISTORY: no episode loses an older chunk, and those added whole are there in their order
  pub history-holds : (ts : List Episode) (xs : List ℕ) (o : ℕ) → flash_fine (length xs) ≡ true → has_page (length xs) page.0 ≡ true → Good magic page.0 h o (page_of page.0 xs) → AllPieces ts
      → Holds magic page.0 h (page_of page.0 xs) (page_of page.0 (history e xs page h ts)) (kept_payloads e xs page h ts)
  unfolding flatten
  history-holds [] xs o fine there good bytes =
      rw (left_after-none (episode_leaves e page h) xs, told_by_each-none (episode_leaves e page h) (episode_keeps e page h) xs)
      (record { o = o; good = good; header = refl; are = sym (append-nil (payloads (page_of page.0 xs) h)) })
  history-holds (t ∷ ts) xs o fine there good bytes =
      let k = t.stores in
      let w = t.writer in
      let ps = t.pieces in
      let ys = added e xs page h w k ps in
      let one = addition-holds e unmarked page magic h t.writer xs t.stores t.pieces o fine there good bytes.0 in
      let l : length ys ≡ length xs = (cut-elsewhere e xs page h w k ps).long in
      let rest = history-holds ts ys one.o (ap flash_fine l ∙ fine) (ap (λ (n : ℕ). has_page n page.0) l ∙ there) one.good bytes.1 in
      rw (left_after-more (episode_leaves e page h) xs t ts, told_by_each-more (episode_leaves e page h) (episode_keeps e page h) xs t ts)
      (record {
        o = rest.o;
        good = rest.good;
        header = rest.header ∙ one.header;
        are =
            rest.are
            ∙ ap (λ (x : List (List ℕ)). x ++ kept_payloads e ys page h ts) one.are
            ∙ append_assoc (payloads (page_of page.0 xs) h) _ (kept_payloads e ys page h ts);
      })
