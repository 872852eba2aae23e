-- END: where next answers it, every run is gone in the cursor that it hands back. Assumes nothing.
use Rattle.std.specs.Prelude.{Ok, Err, Some, None}
use mathlib.Core.Path.{◌≡◌, refl, sym, subst}
use mathlib.Core.Bool.{Bool, true, false, cond}
use mathlib.Core.List.{List}
use Prim.Native.Nat.{ℕ, zero, suc, ◌<◌}
use native.Mathlib.Omega.{arith}
use lib.Dec.{ltb}
use lib.ListN.{length}
use Rattle.types.specs.Checks.{refused_or, Verdict}
use Rattle.types.specs.declared.refusal.Refusal.TheVariants.{KeyBufferTooSmall, ValueBufferTooSmall}
use Rattle.run.specs.Kinds.{Bound}
use Rattle.cursor.specs.Answers.{NextAnswer}
use Rattle.cursor.specs.Checks.{next_check}
use Rattle.cursor.specs.Next.{fitted, answer_by, places_by, moved_by, entry_by, refused_next, next_of}
use Rattle.cursor.specs.Pass.{pass_of, Lowest}
use Rattle.cursor.specs.Places.{place_of}
use Rattle.cursor.specs.Settle.{is_hidden, bytes_ahead, settle_from, settled}
use Rattle.cursor.specs.declared.pass.Pass.{Pass}
use Rattle.cursor.specs.declared.place.Cursor.{Cursor}
use Rattle.cursor.specs.declared.place.Place.TheVariants.{Gone}
use Rattle.cursor.specs.declared.place.RunPlace.{RunPlace}
use Rattle.cursor.proofs.PassClaims.{pass-ends}

-- ---- End is the answer only where no key was found

not_end : (s t : Bool) (k v : ℕ) → cond {A = NextAnswer} s (Err KeyBufferTooSmall) (cond t (Err ValueBufferTooSmall) (Ok (Some (record { key_len = k; value_len = v })))) ≡ Ok None → ⊥
not_end true t k v e = let z : ◌≡◌ {A = ℕ} 0 1 = cc in omega arith
not_end false true k v e = let z : ◌≡◌ {A = ℕ} 0 1 = cc in omega arith
not_end false false k v e = let z : ◌≡◌ {A = ℕ} 0 1 = cc in omega arith

end_none : (l : Lowest) (key_room value_room k v : ℕ) → answer_by l key_room value_room k v ≡ Ok None → l ≡ Ok None
unfolding answer_by fitted
end_none (Ok None) key_room value_room k v e = refl
end_none (Ok (Some held)) key_room value_room k v e = absurd (not_end (ltb key_room k) (ltb value_room v) k v e)
end_none (Err why) key_room value_room k v e = let z : ◌≡◌ {A = ℕ} 0 1 = cc in absurd (omega arith)

module _ (bytes ends : List ℕ) (bound : Bound) (upper : List ℕ) where
  abbrev AllGone : List RunPlace → Type 0
  AllGone row = (i : ℕ) → i < length ends → place_of row i ≡ Gone

  settled-gone : (more : ℕ) (places : List RunPlace) → (settle_from bytes ends bound upper more places).lowest ≡ Ok None
      → AllGone (settle_from bytes ends bound upper more places).places
  unfolding settle_from
  settled-gone zero places e i b = (pass-ends bytes ends bound upper places e i b).1
  settled-gone (suc more) places e i b = by (is_hidden (pass_of bytes ends bound upper places).lowest) (λ f. settled-gone more (pass_of bytes ends bound upper places).stepped f i b) e
    where
      by : (t : Bool)
          → ((settle_from bytes ends bound upper more (pass_of bytes ends bound upper places).stepped).lowest ≡ Ok None
          → place_of (settle_from bytes ends bound upper more (pass_of bytes ends bound upper places).stepped).places i ≡ Gone)
          → (cond t (settle_from bytes ends bound upper more (pass_of bytes ends bound upper places).stepped) (pass_of bytes ends bound upper places)).lowest ≡ Ok None
          → place_of (cond t (settle_from bytes ends bound upper more (pass_of bytes ends bound upper places).stepped) (pass_of bytes ends bound upper places)).places i ≡ Gone
      by true further e = further e
      by false further e = (pass-ends bytes ends bound upper places e i b).1

  module _ (c : Cursor) (key_room value_room : ℕ) where
    gone-by : (k : Verdict) (p : Pass) → (p.lowest ≡ Ok None → AllGone p.places) → (refused_or k (refused_next c) (entry_by bytes ends key_room value_room p)).answer ≡ Ok None
        → AllGone (refused_or k (refused_next c) (entry_by bytes ends key_room value_room p)).cursor.places
    unfolding moved_by places_by
    gone-by (Ok tt) p gone e i b =
        subst (λ a. place_of (places_by a p) i ≡ Gone) (sym e) (gone (end_none p.lowest key_room value_room _ _ e) i b)
    gone-by (Err why) p gone e i b = let z : ◌≡◌ {A = ℕ} 0 1 = cc in absurd (omega arith)

    pub end-gone : (next_of bytes ends bound upper c key_room value_room).answer ≡ Ok None → AllGone (next_of bytes ends bound upper c key_room value_room).cursor.places
    unfolding next_of settled
    end-gone e = gone-by (next_check (length bytes) ends c.places) _ (settled-gone (bytes_ahead ends c.places) c.places) e
