-- No call changes a byte of another page, nor any byte that none of its operations covers, nor the flash's length. The calls of a
-- writer that store are write, commit and write_header, each a duty that leaves the flash as `leaves` says; the flash's own store_if
-- and erase_if leave it as `allowed_on` says. No other call of the storage crates is lent the flash to change it. So a whole addition
-- and any history of a page leave every other page as it was. Assumes nothing.
use Rattle.std.specs.Prelude.{Ok, Err, ⊤}
use Rattle.std.specs.declared.result.Result.{Result}
use Rattle.types.specs.declared.refusal.Refusal.{Refusal}
use mathlib.Core.Path.{◌≡◌, refl, ap, subst, ◌∙◌}
use mathlib.Core.Bool.{Bool, true, false, cond}
use mathlib.Core.List.{List, [], ◌∷◌}
use mathlib.Core.Logic.{◌⊎◌, ⊎_elim}
use Prim.Native.Nat.{ℕ, ◌+◌, ◌≤◌, ◌<◌}
use lib.ListN.{length, take, get_or}
use Rattle.types.specs.declared.page_id.PageID.{PageID}
use Rattle.types.proofs.HistoryLaws.{left_after-keeps}
use Rattle.flash.specs.Geometry.{page_start}
use Rattle.flash.specs.Operations.{Op, made, applied, spent, allowed, all_lie_on, allowed_on}
use Rattle.flash.specs.Covers.{op_at, op_bytes}
use Rattle.flash.proofs.PageLaws.{made-patch, length-applied, other-page}
use Rattle.slices.proofs.PatchLaws.{patch-below, patch-above}
use Rattle.writer.specs.Calls.{World, AddCall, writes, commits, duty_in, hands_back_in, leaves_in, opened_on}
use Rattle.writer.specs.Duties.{Duty, hands_back, leaves, makes}
use Rattle.writer.specs.Openings.{appended}
use Rattle.writer.specs.Writes.{written}
use Rattle.writer.specs.declared.page_writer.PageWriter.{PageWriter}
use Rattle.writer.proofs.OutcomeLaws.{by-check}
use Rattle.claims.specs.Additions.{fills, go_on, after_writes, added}
use Rattle.claims.specs.Histories.{Episode, episode_leaves, history}
use Rattle.claims.specs.Untouched.{Uncovered, OthersKept, Elsewhere}
use Rattle.writer.proofs.OpenedLaws.{appended-page}
use Rattle.claims.proofs.CallLaws.{written-page}

made-uncovered : (base : ℕ) (op : Op) (xs : List ℕ) (i d : ℕ) → (i < base + op_at op) ⊎ (base + op_at op + length (op_bytes op) ≤ i) → get_or (made base op xs) i d ≡ get_or xs i d
made-uncovered base op xs i d o =
    ap (λ (l : List ℕ). get_or l i d) (made-patch base op xs)
    ∙ ⊎_elim (λ b. patch-below (base + op_at op) (op_bytes op) xs i d b) (λ a. patch-above (base + op_at op) (op_bytes op) xs i d a) o

applied-uncovered : (base : ℕ) (ops : List Op) (xs : List ℕ) (i d : ℕ) → Uncovered base ops i → get_or (applied base ops xs) i d ≡ get_or xs i d
applied-uncovered base [] xs i d u = refl
applied-uncovered base (op ∷ ops) xs i d u = applied-uncovered base ops (made base op xs) i d u.1 ∙ made-uncovered base op xs i d u.0

-- of any list of operations
pub operations-elsewhere : (p left : ℕ) (ops : List Op) (xs : List ℕ) → Elsewhere p (take left ops) xs (allowed (page_start p) left ops xs)
operations-elsewhere p left ops xs = record {
  others = record { other-pages = λ q other. other-page p q (take left ops) xs other; long = length-applied (page_start p) (take left ops) xs };
  uncovered = λ i d u. applied-uncovered (page_start p) (take left ops) xs i d u;
}

-- of store_if and erase_if
pub asked-elsewhere : (p left : ℕ) (ops : List Op) (xs : List ℕ) → Elsewhere p (take left ops) xs (allowed_on p left ops xs)
asked-elsewhere p left ops xs = by (all_lie_on (length xs) p ops)
  where
    by : (lie : Bool) → Elsewhere p (take left ops) xs (cond lie (allowed (page_start p) left ops xs) xs)
    by true = operations-elsewhere p left ops xs
    by false = record { others = record { other-pages = λ q other. refl; long = refl }; uncovered = λ i d u. refl }

-- ELSEWHERE: any call of a writer
pub elsewhere : (d : Duty) (w : PageWriter) (left : ℕ) (xs : List ℕ) → Elsewhere w.page.0 (makes d left) xs (leaves d w left xs)
elsewhere d w left xs =
    by-check (λ (c : Duty). Elsewhere w.page.0 (makes c left) xs (leaves c w left xs)) d
    (λ why. record { others = record { other-pages = λ q other. refl; long = refl }; uncovered = λ i d u. refl })
    (operations-elsewhere w.page.0 left d.ops xs)

-- ---- a whole addition, and a history of them

kept-none : (p : ℕ) (xs : List ℕ) → OthersKept p xs xs
kept-none p xs = record { other-pages = λ q other. refl; long = refl }

kept_then : (p : ℕ) (xs ys zs : List ℕ) → OthersKept p xs ys → OthersKept p ys zs → OthersKept p xs zs
kept_then p xs ys zs a b = record { other-pages = λ q other. b.other-pages q other ∙ a.other-pages q other; long = b.long ∙ a.long }

-- the writer that a write hands back stands on the page on which it stood
back-page : (e : ℕ) (x : World) (bytes : List ℕ) → (leaves_in e x (writes bytes)).writer.page ≡ x.writer.page
back-page e x bytes =
    let d = duty_in e x (writes bytes) in
    by-check (λ (c : Duty). (hands_back c x.writer x.left).writer.page ≡ x.writer.page) d (λ why. refl) (either (spent x.left d.ops).ok)
  where
    either : (t : Bool) → (cond t (written x.writer bytes) x.writer).page ≡ x.writer.page
    either true = written-page x.writer bytes
    either false = refl

-- a call keeps every other page
call_kept : (e : ℕ) (page : PageID) (call : AddCall) (x : World) → x.writer.page ≡ page → OthersKept page.0 x.flash (leaves_in e x call).flash
call_kept e page call x same =
    subst (λ (p : PageID). OthersKept p.0 x.flash (leaves_in e x call).flash) same (elsewhere (duty_in e x call) x.writer x.left x.flash).others

-- it ends with a write, or goes on
ends-kept : (p : ℕ) (a : Result ⊤ Refusal) (t : Bool) (xs ys zs : List ℕ) → OthersKept p xs ys → OthersKept p ys zs → OthersKept p xs (go_on a (cond t ys zs) ys)
ends-kept p (Err why) t xs ys zs k l = k
ends-kept p (Ok tt) true xs ys zs k l = k
ends-kept p (Ok tt) false xs ys zs k l = kept_then p xs ys zs k l

writes_kept : (e : ℕ) (page : PageID) (pieces : List (List ℕ)) (x : World) → x.writer.page ≡ page → OthersKept page.0 x.flash (after_writes e pieces x)
unfolding after_writes
writes_kept e page [] x same = call_kept e page commits x same
writes_kept e page (bytes ∷ pieces) x same =
    let y = leaves_in e x (writes bytes) in
    ends-kept page.0 (hands_back_in e x (writes bytes)).answer (fills x.writer bytes) x.flash y.flash (after_writes e pieces y)
    (call_kept e page (writes bytes) x same) (writes_kept e page pieces y (back-page e x bytes ∙ same))

-- CUT ELSEWHERE: on any flash, good or not, whatever the writer at entry, the pieces and the number of stores
pub cut-elsewhere : (e : ℕ) (xs : List ℕ) (page : PageID) (h : ℕ) (w : PageWriter) (k : ℕ) (pieces : List (List ℕ)) → OthersKept page.0 xs (added e xs page h w k pieces)
unfolding added
cut-elsewhere e xs page h w k pieces = by (appended e xs page h w k).answer refl
  where
    by : (a : Result ⊤ Refusal) → (appended e xs page h w k).answer ≡ a
        → OthersKept page.0 xs (go_on a (after_writes e pieces (opened_on xs (appended e xs page h w k))) xs)
    by (Err why) a = kept-none page.0 xs
    by (Ok tt) a = writes_kept e page pieces (opened_on xs (appended e xs page h w k)) (appended-page e xs page h w k a)

-- the same after any episodes
pub history-elsewhere : (e : ℕ) (page : PageID) (h : ℕ) (ts : List Episode) (xs : List ℕ) → OthersKept page.0 xs (history e xs page h ts)
history-elsewhere e page h ts xs =
    left_after-keeps (episode_leaves e page h) (OthersKept page.0 xs)
    (λ ys t kept. kept_then page.0 xs ys (episode_leaves e page h ys t) kept (cut-elsewhere e ys page h t.writer t.stores t.pieces))
    xs ts (kept-none page.0 xs)
