-- The claim on a whole merge (docs/RULES.md, Merge). On runs that read to their ends with strictly rising keys, a new cursor is made, and
-- calls of next with room for any key and value hand out exactly the live keys of all runs together that lie within the
-- bounds, the newest run deciding each key, in rising order, each once. Assumes nothing.
use Rattle.std.specs.Prelude.{Ok}
use mathlib.Core.Path.{◌≡◌, refl, sym, ◌∙◌, subst}
use mathlib.Core.Bool.{Bool, true, false, cond}
use mathlib.Core.List.{List}
use Prim.Native.Nat.{ℕ, ◌≤◌, ◌<◌}
use native.Mathlib.Omega.{arith}
use lib.ListN.{length}
use Rattle.types.specs.Build.{max_key_size, max_value_size}
use Rattle.run.specs.Items.{Item, Reads, Rising, Said, nothing, live, said_in}
use Rattle.run.specs.Kinds.{Bound}
use Rattle.cursor.specs.Checks.{good_runs}
use Rattle.cursor.specs.Merged.{said, between, Pair, Hands, Merged}
use Rattle.cursor.specs.New.{new_of}
use Rattle.cursor.specs.Runs.{run_of}
use Rattle.cursor.specs.Union.{union, lives}
use Rattle.cursor.proofs.CheckLaws.{good-few}
use Rattle.cursor.proofs.HandLaws.{hands}
use Rattle.cursor.proofs.LiveLaws.{rising-lives, lives-sound, lives-complete}
use Rattle.cursor.proofs.OnceLaws.{hands-once}
use Rattle.cursor.proofs.OpenLaws.{taken, rising-taken, said-between, opened}
use Rattle.cursor.proofs.UnionLaws.{rising-union, said-union}

-- ---- what the live pairs of the runs together are

module _ (low : Bound) (lower : List ℕ) (high : Bound) (upper : List ℕ) (n : ℕ) (items : ℕ → List Item)
    (rising : (i : ℕ) → i < n → Rising (items i)) where
  rises : (i : ℕ) → i < n → Rising (taken low lower high upper (items i))
  rises i b = rising-taken low lower high upper (items i) (rising i b)

  said_all : (key : List ℕ) → said_in key (union n (λ i. taken low lower high upper (items i))) ≡ cond (between low lower high upper key) (said key n items) nothing
  said_all key = said-union key n (λ i. taken low lower high upper (items i)) rises ∙ said-between low lower high upper key n items

  live_cond : (b : Bool) (s : Said) (value : List ℕ) → cond b s nothing ≡ live value → (b ≡ true) × (s ≡ live value)
  live_cond true s value e = (refl, e)
  live_cond false s value e = let z : nothing ≡ live value = e in let y : ◌≡◌ {A = ℕ} 0 1 = cc in absurd (omega arith)

  pub lives-merged : Merged n items (between low lower high upper) (lives (union n (λ i. taken low lower high upper (items i))))
  lives-merged = record {
    rising = rising-lives _ (rising-union n (λ i. taken low lower high upper (items i)) rises);
    sound = λ x m. live_cond _ _ x.value (sym (said_all x.key) ∙ lives-sound _ (rising-union n (λ i. taken low lower high upper (items i)) rises) x m);
    complete = λ x t s. lives-complete _ x (said_all x.key ∙ rw t s);
  }

-- ---- the claim

module _ (bytes ends : List ℕ) (good : good_runs (length bytes) ends ≡ true) (items : ℕ → List Item)
    (reads : (i : ℕ) → i < length ends → Reads (run_of bytes ends i) 0 (items i)) (rising : (i : ℕ) → i < length ends → Rising (items i))
    (low : Bound) (lower : List ℕ) (high : Bound) (upper : List ℕ)
    (key value : List ℕ) (key_room : max_key_size ≤ length key) (value_room : max_value_size ≤ length value) where
  -- a cursor is made, and calls of next come to their end
  pub merge-hands : ((new_of bytes ends low lower).answer ≡ Ok tt)
      × ((pairs : List Pair) × Hands bytes ends high upper (new_of bytes ends low lower).cursor key value pairs
      × Merged (length ends) items (between low lower high upper) pairs)
  merge-hands =
      let o = opened low lower high upper bytes ends items reads rising (good-few (length bytes) ends good) good in
      let pairs = lives (union (length ends) (λ i. taken low lower high upper (items i))) in (
        o.0,
        (
          pairs,
          hands bytes ends high upper good pairs (new_of bytes ends low lower).cursor key value (λ i. taken low lower high upper (items i)) o.1 o.2
              key_room value_room refl,
          lives-merged low lower high upper (length ends) items rising,
        ),
      )

  -- whatever calls of next hand out up to their end is the merge
  pub merge-exact : (pairs : List Pair) → Hands bytes ends high upper (new_of bytes ends low lower).cursor key value pairs
      → Merged (length ends) items (between low lower high upper) pairs
  merge-exact pairs h =
      let m = merge-hands.1 in
      subst (λ (l : List Pair). Merged (length ends) items (between low lower high upper) l)
      (hands-once bytes ends high upper (new_of bytes ends low lower).cursor key value m.0 pairs m.1 h) m.2
