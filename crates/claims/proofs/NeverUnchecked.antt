-- NEVER UNCHECKED: whatever is asked of a reader, in whatever order, on a flash that stays as it is, no byte comes out that no sum
-- covers. In the original a reader steps on when it has refused a damaged chunk, and serves such bytes. Assumes nothing.
use Rattle.reader.specs.declared.dehydrated.DehydratedPageReader.{DehydratedPageReader}
use Rattle.std.specs.declared.result.Result.{Result}
use mathlib.Core.Path.{◌≡◌, refl, ap}
use mathlib.Core.Bool.{Bool, cond}
use mathlib.Core.List.{List}
use Prim.Native.Nat.{ℕ}
use lib.Dec.{eqb}
use borrow.Author.Tests.{ne_eqb}
use Rattle.types.specs.Histories.{left_after}
use Rattle.types.specs.declared.refusal.Refusal.{Refusal}
use Rattle.reader.specs.Calls.{dehydrate}
use Rattle.reader.specs.declared.page_reader.PageReader.{PageReader}
use Rattle.claims.specs.Again.{Left, IsRefused, ReaderCall, reads_header, opens, reads, skips, asks_for_its_end, dehydrates, rehydrates, asks_its_page, reader_left}
use Rattle.claims.specs.ReaderHistories.{Origin, Kept, Held, states_of, at_first, Asked, call_leaves, origin_by, slot_filled, slots_by, after_call, NoneUnchecked}
use Rattle.claims.proofs.AskedAgain.{kept, refused-by}
use Rattle.claims.proofs.KnownLaws.{calls-known, first-known, call-puts}

-- ---- a refused call changes nothing

held-is : (r s : PageReader) (a b : Origin) (x y : ℕ → Kept) → r ≡ s → a ≡ b → x ≡ y
    → ◌≡◌ {A = Held} (record { reader = r; origin = a; slots = x }) (record { reader = s; origin = b; slots = y })
held-is r s a b x y p q u = rw (p, q, u)

slots_kept : (flash : List ℕ) (k : Held) (call : ReaderCall) (lent : List ℕ) → IsRefused (call_leaves flash k (record { call = call; lent = lent })) → slots_by k call ≡ k.slots
unfolding reader_left
slots_kept flash k (reads_header magic page) lent e = refl
slots_kept flash k (opens magic page) lent e = refl
slots_kept flash k reads lent e = refl
slots_kept flash k (skips n) lent e = refl
slots_kept flash k asks_for_its_end lent e = refl
slots_kept flash k (dehydrates slot) lent e = ap (λ (a : Result DehydratedPageReader Refusal). slot_filled k slot a) (refused-by (dehydrate k.reader) e).1
slots_kept flash k (rehydrates slot) lent e = refl
slots_kept flash k asks_its_page lent e = refl

refused-keeps : (flash : List ℕ) (k : Held) (a : Asked) → IsRefused (call_leaves flash k a) → ((call_leaves flash k a).lent ≡ a.lent) × (after_call flash k a ≡ k)
unfolding after_call
refused-keeps flash k a e =
    let same = kept flash (states_of k) k.reader a.call a.lent e in
    let left : call_leaves flash k a ≡ record { number = same.0; state = k.reader; lent = a.lent } = same.1 a.lent refl in (
      ap (λ (x : Left PageReader (List ℕ)). x.lent) left,
      held-is (call_leaves flash k a).state k.reader (cond (eqb (call_leaves flash k a).number 0) (origin_by k a.call a.lent) k.origin) k.origin (slots_by k a.call) k.slots
          (ap (λ (x : Left PageReader (List ℕ)). x.state) left)
          (ap (λ (t : Bool). cond t (origin_by k a.call a.lent) k.origin) (ne_eqb (call_leaves flash k a).number 0 e))
          (slots_kept flash k a.call a.lent e),
    )

-- ---- the claim

-- from a new reader and slots that hold new readers, after any calls at all: what one more call puts is covered, and a refused call
-- puts nothing
pub never-unchecked : (flash : List ℕ) (before : List Asked) (a : Asked) → NoneUnchecked flash (left_after (after_call flash) at_first before) a
never-unchecked flash before a =
    let k = left_after (after_call flash) at_first before in
    let known = calls-known flash before at_first (first-known flash) in
    record { puts = call-puts flash k known a.call a.lent; refused = refused-keeps flash k a }
