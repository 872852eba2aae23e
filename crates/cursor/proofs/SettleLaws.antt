-- The loop of passes: one that finds no deletion ends it, and any other leaves one pass less to make. Assumes nothing.
use mathlib.Core.Path.{◌≡◌, refl, sym, ◌∙◌}
use mathlib.Core.Bool.{true, false}
use mathlib.Core.List.{List}
use Prim.Native.Nat.{ℕ, zero, suc, ◌≤◌, ◌<◌}
use native.Mathlib.Omega.{arith}
use lib.ListN.{length}
use Rattle.types.specs.Build.{file_count}
use Rattle.run.specs.Kinds.{Bound}
use Rattle.cursor.specs.Pass.{pass_of}
use Rattle.cursor.specs.Settle.{is_hidden, bytes_ahead, settle_from}
use Rattle.cursor.specs.declared.pass.Pass.{Pass}
use Rattle.cursor.specs.declared.place.RunPlace.{RunPlace}
use Rattle.cursor.proofs.FallLaws.{falls}

-- the passes from these places on come to this answer, with passes enough
abbrev pub Rest : List ℕ → List ℕ → Bound → List ℕ → List RunPlace → Pass → Type 0
Rest bytes ends bound upper places answer =
    (more : ℕ) × (bytes_ahead ends places ≤ more) × (settle_from bytes ends bound upper more places ≡ answer)

module _ (bytes ends : List ℕ) (bound : Bound) (upper : List ℕ) (places : List RunPlace) (answer p : Pass)
    (is : p ≡ pass_of bytes ends bound upper places) (rest : Rest bytes ends bound upper places answer) where
  live-by : (more : ℕ) → is_hidden (pass_of bytes ends bound upper places).lowest ≡ false
      → settle_from bytes ends bound upper more places ≡ pass_of bytes ends bound upper places
  unfolding settle_from
  live-by zero h = refl
  live-by (suc more) h = rw h

  pub settle-ends : is_hidden p.lowest ≡ false → p ≡ answer
  settle-ends h = is ∙ sym (live-by rest.0 (rw is at h)) ∙ rest.2

  module _ (few : length ends ≤ file_count) (h : is_hidden p.lowest ≡ true) where
    pub settle-less : bytes_ahead ends p.stepped < bytes_ahead ends places
    settle-less = rw is (falls bytes ends bound upper places few (rw is at h))

    again_by : (more : ℕ) → bytes_ahead ends places ≤ more → settle_from bytes ends bound upper more places ≡ answer
        → is_hidden (pass_of bytes ends bound upper places).lowest ≡ true
        → bytes_ahead ends (pass_of bytes ends bound upper places).stepped < bytes_ahead ends places
        → Rest bytes ends bound upper (pass_of bytes ends bound upper places).stepped answer
    unfolding settle_from
    again_by zero m e t l = absurd (omega arith)
    again_by (suc more) m e t l = (more, omega arith, rw t at e)

    pub settle-again : Rest bytes ends bound upper p.stepped answer
    settle-again = rw is (again_by rest.0 rest.1 rest.2 (rw is at h) (rw is at settle-less))
