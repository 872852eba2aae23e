-- One chunk, added by any number of writes: its stores are in order, and its header is the last. Assumes nothing.
use mathlib.Core.Path.{◌≡◌, refl, sym, ap, ap₂, ◌∙◌}
use mathlib.Core.Bool.{Bool, true, false, cond}
use mathlib.Core.List.{List, [], ◌∷◌, ◌++◌, append_assoc, append-nil}
use mathlib.Core.Logic.{⊎_elim}
use Prim.Native.Nat.{ℕ, ◌+◌, ◌%◌, ◌≤◌, ◌<◌}
use native.Mathlib.Omega.{arith}
use lib.Dec.{eqb}
use lib.ListN.{length, take, length-append, length-take}
use borrow.Author.Tests.{eq-eqb, ne_eqb, eqb-false}
use Rattle.types.specs.Build.{page_size, max_chunk_size}
use Rattle.types.proofs.TestLaws.{eq-or-ne, decided}
use Rattle.flash.specs.Operations.{Op, applied}
use Rattle.writer.specs.Commits.{chunk_ops, next_chunk, commit_ops}
use Rattle.writer.specs.Writes.{takes, taken_of, payload_ops, grown, taking_ops, closed, write_ops, written}
use Rattle.writer.specs.declared.page_writer.PageWriter.{PageWriter}
use Rattle.claims.specs.Additions.{fills, addition_ops, addition}
use Rattle.writer.proofs.AddingLaws.{Adding, piece_added}
use Rattle.writer.proofs.ClosingLaws.{Stored, chunk-closed, stored-behind, piece-behind, taking_ops-unarmed}

not_full : (p q : ℕ) → p ≡ q → p ≤ max_chunk_size → (p ≡ max_chunk_size → ⊥) → q < max_chunk_size
not_full p q e h n = omega arith

positive : (n m : ℕ) → (n ≡ 0 → ⊥) → m ≡ n → 0 < m
positive n m h e = omega arith

module _ (page₀ : List ℕ) (o e : ℕ) (even : o % 4 ≡ 0) where
  -- nothing is left to write: the chunk is committed
  commit-stored : (w : PageWriter) (payload page : List ℕ) → Adding page₀ o w payload page → o + 8 + length payload ≤ page_size → length payload ≤ max_chunk_size → 0 < length payload
      → Stored page₀ o payload page (commit_ops e w)
  commit-stored w payload page a fits small some =
      let c : w.pending ≡ length payload = ap (λ (x : PageWriter). x.pending) a.held in
      rw (ne_eqb w.pending 0 (λ (z : w.pending ≡ 0). omega arith)) (chunk-closed page₀ o e w payload page a fits small even)

  stored_same : (payload payload' page : List ℕ) (ops ops' : List Op) → payload ≡ payload' → ops ≡ ops' → Stored page₀ o payload' page ops' → Stored page₀ o payload page ops
  stored_same payload payload' page ops ops' p q s = rw (p, q) s

  -- a write that takes nothing changes nothing
  none-taken : (w : PageWriter) (bytes : List ℕ) (pieces : List (List ℕ)) → takes (length bytes) w ≡ 0 → w.pending < max_chunk_size
      → (addition w (bytes ∷ pieces) ≡ addition w pieces) × (addition_ops e w (bytes ∷ pieces) ≡ addition_ops e w pieces)
  unfolding addition addition_ops
  none-taken w bytes pieces z less =
      let t : taken_of w bytes ≡ [] = ap (λ (n : ℕ). take n bytes) z in
      let l : length (taken_of w bytes) ≡ 0 = ap length t in
      let f : fills w bytes ≡ false = ne_eqb (w.pending + length (taken_of w bytes)) max_chunk_size (λ (h : w.pending + length (taken_of w bytes) ≡ max_chunk_size). omega arith) in
      let b : eqb (takes (length bytes) w) 0 ≡ true = eq-eqb (takes (length bytes) w) 0 z in
      let same : written w bytes ≡ w = ap (λ (x : Bool). cond x w (closed (grown w (taken_of w bytes)))) b in (
        ap (λ (x : Bool). taken_of w bytes ++ cond x [] (addition (written w bytes) pieces)) f ∙ ap₂ (λ (x : List ℕ) (v : PageWriter). x ++ addition v pieces) t same,
        ap (λ (x : Bool). write_ops e w bytes ++ cond x [] (addition_ops e (written w bytes) pieces)) f
            ∙ ap₂ (λ (x : Bool) (v : PageWriter). cond x [] (taking_ops e w (taken_of w bytes)) ++ addition_ops e v pieces) b same,
      )

  -- one that fills the chunk stores it whole
  filled : (w : PageWriter) (bytes : List ℕ) (pieces : List (List ℕ)) → w.armed ≡ false → (takes (length bytes) w ≡ 0 → ⊥) → fills w bytes ≡ true
      → (addition w (bytes ∷ pieces) ≡ taken_of w bytes) × (addition_ops e w (bytes ∷ pieces) ≡ payload_ops w (taken_of w bytes) ++ chunk_ops e (grown w (taken_of w bytes)))
  unfolding addition addition_ops
  filled w bytes pieces off some f =
      let t = taken_of w bytes in
      let b : eqb (takes (length bytes) w) 0 ≡ false = ne_eqb (takes (length bytes) w) 0 some in (
        ap (λ (x : Bool). t ++ cond x [] (addition (written w bytes) pieces)) f ∙ append-nil t,
        ap (λ (x : Bool). write_ops e w bytes ++ cond x [] (addition_ops e (written w bytes) pieces)) f
            ∙ append-nil (write_ops e w bytes)
            ∙ ap (λ (x : Bool). cond x [] (taking_ops e w t)) b
            ∙ taking_ops-unarmed e w t off
            ∙ ap (λ (x : Bool). payload_ops w t ++ cond x (chunk_ops e (grown w t)) []) f,
      )

  -- any other leaves the rest to the next
  unfilled : (w : PageWriter) (bytes : List ℕ) (pieces : List (List ℕ)) → w.armed ≡ false → (takes (length bytes) w ≡ 0 → ⊥) → fills w bytes ≡ false
      → (addition w (bytes ∷ pieces) ≡ taken_of w bytes ++ addition (grown w (taken_of w bytes)) pieces)
      × (addition_ops e w (bytes ∷ pieces) ≡ payload_ops w (taken_of w bytes) ++ addition_ops e (grown w (taken_of w bytes)) pieces)
  unfolding addition addition_ops
  unfilled w bytes pieces off some f =
      let t = taken_of w bytes in
      let b : eqb (takes (length bytes) w) 0 ≡ false = ne_eqb (takes (length bytes) w) 0 some in
      let same : written w bytes ≡ grown w t = ap (λ (x : Bool). cond x w (closed (grown w t))) b ∙ ap (λ (x : Bool). cond x (next_chunk (grown w t)) (grown w t)) f in
      let ops : write_ops e w bytes ≡ payload_ops w t =
      ap (λ (x : Bool). cond x [] (taking_ops e w t)) b
      ∙ taking_ops-unarmed e w t off
      ∙ ap (λ (x : Bool). payload_ops w t ++ cond x (chunk_ops e (grown w t)) []) f
      ∙ append-nil (payload_ops w t) in (
        ap (λ (x : Bool). t ++ cond x [] (addition (written w bytes) pieces)) f ∙ ap (λ (v : PageWriter). t ++ addition v pieces) same,
        ap (λ (x : Bool). write_ops e w bytes ++ cond x [] (addition_ops e (written w bytes) pieces)) f ∙ ap₂ (λ (l : List Op) (v : PageWriter). l ++ addition_ops e v pieces) ops same,
      )

  -- THE CHUNK: whatever the pieces
  pub addition-stored : (pieces : List (List ℕ)) (w : PageWriter) (payload page : List ℕ) → Adding page₀ o w payload page → o + 8 + length payload ≤ page_size → length payload < max_chunk_size
      → 0 < length (payload ++ addition w pieces) → Stored page₀ o (payload ++ addition w pieces) page (addition_ops e w pieces)
  unfolding addition addition_ops
  addition-stored [] w payload page a fits room some =
      let n : payload ++ [] ≡ payload = append-nil payload in
      stored_same (payload ++ []) payload page (commit_ops e w) (commit_ops e w) n refl (commit-stored w payload page a fits (omega arith) (rw n at some))
  addition-stored (bytes ∷ pieces) w payload page a fits room some =
      let off : w.armed ≡ false = ap (λ (x : PageWriter). x.armed) a.held in
      let at : w.offset ≡ o = ap (λ (x : PageWriter). x.offset) a.held in
      let c : w.pending ≡ length payload = ap (λ (x : PageWriter). x.pending) a.held in
      let t = taken_of w bytes in
      let l : length t ≡ takes (length bytes) w = simp length-take (omega arith) in
      ⊎_elim
      (λ (z : takes (length bytes) w ≡ 0).
      let n = none-taken w bytes pieces z (rw c room) in
      let p : payload ++ addition w (bytes ∷ pieces) ≡ payload ++ addition w pieces = ap (λ (x : List ℕ). payload ++ x) n.0 in
      stored_same _ _ page _ _ p n.1 (addition-stored pieces w payload page a fits room (rw p at some)))
      (λ (took : takes (length bytes) w ≡ 0 → ⊥).
      let next = piece_added page₀ o w payload page t a (omega arith) in
      let lp : length (payload ++ t) ≡ length payload + length t = length-append payload t in
      let more : o + 8 + length (payload ++ t) ≤ page_size = omega arith in
      ⊎_elim
      (λ (f : fills w bytes ≡ true).
      let n = filled w bytes pieces off took f in
      stored_same _ _ page _ _ (ap (λ (x : List ℕ). payload ++ x) n.0) n.1
      (stored-behind page₀ o (payload ++ t) page (payload_ops w t) (chunk_ops e (grown w t)) (piece-behind o w t at)
      (chunk-closed page₀ o e (grown w t) (payload ++ t) (applied 0 (payload_ops w t) page) next more (omega arith) even)))
      (λ (f : fills w bytes ≡ false).
      let n = unfilled w bytes pieces off took f in
      let rest = addition (grown w t) pieces in
      let short : length (payload ++ t) < max_chunk_size = not_full (w.pending + length t) (length (payload ++ t)) (omega arith) (omega arith) (eqb-false (w.pending + length t) max_chunk_size f) in
      let la : length ((payload ++ t) ++ rest) ≡ length (payload ++ t) + length rest = length-append (payload ++ t) rest in
      stored_same _ _ page _ _ (ap (λ (x : List ℕ). payload ++ x) n.0 ∙ sym (append_assoc payload t rest)) n.1
      (stored-behind page₀ o ((payload ++ t) ++ rest) page (payload_ops w t) (addition_ops e (grown w t) pieces) (piece-behind o w t at)
      (addition-stored pieces (grown w t) (payload ++ t) (applied 0 (payload_ops w t) page) next more short
      (let big : 0 < length t = positive (takes (length bytes) w) (length t) took l in omega arith))))
      (decided (fills w bytes)))
      (eq-or-ne (takes (length bytes) w) 0)

-- ---- where there is no room

none-fits : (w : PageWriter) (n : ℕ) → page_size ≤ w.offset + 8 + w.pending → takes n w ≡ 0
none-fits w n h = omega arith

-- a writer at a place where no byte fits takes none
pub addition-none : (w : PageWriter) (pieces : List (List ℕ)) → page_size ≤ w.offset + 8 → w.pending ≡ 0 → addition w pieces ≡ []
unfolding addition
addition-none w [] h z = refl
addition-none w (bytes ∷ pieces) h z =
    (none-taken [] 0 0 refl w bytes pieces (none-fits w (length bytes) (omega arith)) (omega arith)).0 ∙ addition-none w pieces h z

-- ---- where nothing is taken

nothing-joined : (a b : List ℕ) → a ++ b ≡ [] → length a ≡ 0
nothing-joined a b e = let l : length a + length b ≡ 0 = sym (length-append a b) ∙ ap length e in omega arith

-- nothing is stored
pub addition-empty : (e : ℕ) (w : PageWriter) (pieces : List (List ℕ)) → w.pending ≡ 0 → addition w pieces ≡ [] → addition_ops e w pieces ≡ []
unfolding addition addition_ops
addition-empty e w [] z none = commits-none
  where
    commits-none : addition_ops e w [] ≡ []
    commits-none = rw (eq-eqb w.pending 0 z)
addition-empty e w (bytes ∷ pieces) z none =
    let l : length (taken_of w bytes) ≡ takes (length bytes) w = simp length-take (omega arith) in
    let t : takes (length bytes) w ≡ 0 = sym l ∙ nothing-joined (taken_of w bytes) _ none in
    let n = none-taken [] 0 e refl w bytes pieces t (omega arith) in
    n.1 ∙ addition-empty e w pieces z (sym n.0 ∙ none)
