-- One turn of a pass: what each look does to what is left of it. Assumes nothing.
use Rattle.std.specs.Prelude.{Ok, Err, Some}
use Rattle.std.specs.declared.result.Result.{Result}
use mathlib.Core.Path.{◌≡◌, ◌∙◌}
use mathlib.Core.List.{List}
use Prim.Native.Nat.{ℕ, suc, ◌+◌, ◌-◌, ◌≤◌, ◌<◌}
use native.Mathlib.Numerals.{add-one}
use native.Mathlib.Omega.{arith}
use lib.ListN.{length, set}
use Rattle.types.specs.declared.refusal.Refusal.{Refusal}
use Rattle.run.specs.Records.{key_in}
use Rattle.run.specs.Kinds.{Bound}
use Rattle.run.specs.declared.record.Record.{Record}
use Rattle.cursor.specs.Pass.{look_at, lowest_key, shows, with_gone, with_refusal, change, pass_from}
use Rattle.cursor.specs.Places.{at_place, place_of}
use Rattle.cursor.specs.Runs.{run_of}
use Rattle.cursor.specs.declared.look.Look.{Look}
use Rattle.cursor.specs.declared.look.Look.TheVariants as look
use Rattle.cursor.specs.declared.pass.Pass.{Pass}
use Rattle.cursor.specs.declared.place.RunPlace.{RunPlace}

module _ (bytes ends : List ℕ) (bound : Bound) (upper : List ℕ) (answer : Pass) where
  -- what a pass carries from run to run, as its loop has it: the bytes of the lowest key, and that the looks from run i on
  -- come to the answer
  pub record Rest (i : ℕ) (low : List ℕ) (p : Pass) : Type 0 where
    pub key : low ≡ lowest_key bytes ends p.lowest
    pub comes : pass_from bytes ends bound upper (length ends - i) i p ≡ answer

  module _ (i : ℕ) (low : List ℕ) (p : Pass) (rest : Rest i low p) where
    pub all_seen : length ends ≤ i → p ≡ answer
    unfolding pass_from
    all_seen h = let z : length ends - i ≡ 0 = omega arith in rw z at rest.comes

    module _ (more : i < length ends) (run : List ℕ) (r : run ≡ run_of bytes ends i)
        (l : Result Look Refusal) (is : l ≡ look_at run (place_of p.places i) bound upper p.lowest low) where
      -- the look is what run i shows
      seen : l ≡ shows bytes ends bound upper i p
      unfolding shows
      seen = is ∙ rw (r, rest.key)

      turn : (w : Result Look Refusal) → l ≡ w
          → change w i p (λ q. pass_from bytes ends bound upper (length ends - (i + 1)) (i + 1) q) ≡ answer
      unfolding pass_from
      turn w q =
          let z : length ends - i ≡ suc (length ends - (i + 1)) = omega arith in
          rw (add-one i) (rw (← q, seen) (rw (z, add-one i) at rest.comes))

      -- the next run, with the pass so far changed
      next : (key : List ℕ) (q : Pass) → key ≡ lowest_key bytes ends q.lowest
          → pass_from bytes ends bound upper (length ends - (i + 1)) (i + 1) q ≡ answer → Rest (i + 1) key q
      next key q k e = record { key = k; comes = e }

      pub seen-gone : l ≡ Ok look.Gone
          → Rest (i + 1) low (with_gone i p)
      unfolding change
      seen-gone q = next low _ rest.key (turn (Ok look.Gone) q)

      pub seen-above : l ≡ Ok look.Above → Rest (i + 1) low p
      unfolding change
      seen-above q = next low p rest.key (turn (Ok look.Above) q)

      module _ (it : Record) (key : List ℕ) (k : key ≡ key_in run it) (after : RunPlace) (a : after ≡ at_place it.next) where
        own : key ≡ lowest_key bytes ends (Ok (Some (record { run = i; head = it })))
        unfolding lowest_key
        own = k ∙ rw r

        pub seen-level : l ≡ Ok (look.Level it)
            → Rest (i + 1) key (record { places = p.places; stepped = set p.stepped i after; lowest = Ok (Some (record { run = i; head = it })) })
        unfolding change
        seen-level q = next key _ own (rw a (turn (Ok (look.Level it)) q))

        pub seen_below : l ≡ Ok (look.Below it)
            → Rest (i + 1) key (record { places = p.places; stepped = set p.places i after; lowest = Ok (Some (record { run = i; head = it })) })
        unfolding change
        seen_below q = next key _ own (rw a (turn (Ok (look.Below it)) q))

      pub seen-refused : (why : Refusal) → l ≡ Err why
          → with_refusal why p ≡ answer
      unfolding change
      seen-refused why q = turn (Err why) q
