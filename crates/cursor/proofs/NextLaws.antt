-- What a settled pass answers: the room that an entry has, and what any other answer leaves. Assumes nothing.
use Rattle.std.specs.Prelude.{Ok, Err, Some}
use Rattle.cursor.specs.Answers.{NextAnswer}
use mathlib.Core.Path.{◌≡◌, refl, ap, ap₂, ◌∙◌}
use mathlib.Core.List.{List}
use Prim.Native.Nat.{ℕ, ◌≤◌, ◌<◌}
use lib.ListN.{length}
use borrow.Author.Tests.{lt-ltb, le-ltb}
use Rattle.types.specs.declared.refusal.Refusal.TheVariants.{KeyBufferTooSmall, ValueBufferTooSmall}
use Rattle.slices.specs.Patch.{over}
use Rattle.cursor.specs.Next.{fitted, put_by}

-- ---- the rooms

module _ (key_room value_room key_len value_len : ℕ) where
  pub fitted-short-key : key_room < key_len → Err KeyBufferTooSmall ≡ fitted key_room value_room key_len value_len
  unfolding fitted
  fitted-short-key h = rw (lt-ltb key_room key_len h)

  module _ (key : key_len ≤ key_room) where
    pub fitted-short-value : value_room < value_len → Err ValueBufferTooSmall ≡ fitted key_room value_room key_len value_len
    unfolding fitted
    fitted-short-value h = rw (le-ltb key_room key_len key, lt-ltb value_room value_len h)

    pub fitted-whole : value_len ≤ value_room → Ok (Some (record { key_len = key_len; value_len = value_len })) ≡ fitted key_room value_room key_len value_len
    unfolding fitted
    fitted-whole h = rw (le-ltb key_room key_len key, le-ltb value_room value_len h)

-- ---- a record handed out

module _ (key value : List ℕ) where
  -- the answer to a record with such a key and value, and what the two buffers then are
  abbrev Handed : List ℕ → List ℕ → NextAnswer → List ℕ → List ℕ → Type 0
  Handed k v a x y =
      (a ≡ fitted (length key) (length value) (length k) (length v)) × ((x ≡ put_by a k key) × (y ≡ put_by a v value))

  module _ (k v k' v' : List ℕ) (is_key : k' ≡ k) (is-value : v' ≡ v) where
    pub handed-short-key : length key < length k' → Handed k v (Err KeyBufferTooSmall) key value
    unfolding put_by
    handed-short-key h = (fitted-short-key (length key) (length value) (length k) (length v) (rw (← is_key) h), (refl, refl))

    module _ (room : length k' ≤ length key) where
      pub handed-short-value : length value < length v' → Handed k v (Err ValueBufferTooSmall) key value
      unfolding put_by
      handed-short-value h =
          (fitted-short-value (length key) (length value) (length k) (length v) (rw (← is_key) room) (rw (← is-value) h), (refl, refl))

      pub handed-whole : length v' ≤ length value → (x y : List ℕ) → x ≡ over k' key → y ≡ over v' value
          → Handed k v (Ok (Some (record { key_len = length k'; value_len = length v' }))) x y
      unfolding put_by
      handed-whole h x y p q =
          let fit = fitted-whole (length key) (length value) (length k) (length v) (rw (← is_key) room) (rw (← is-value) h) in
          let lens : Ok (Some (record { key_len = length k'; value_len = length v' })) ≡ Ok (Some (record { key_len = length k; value_len = length v })) =
          ap₂ (λ (a b : List ℕ). Ok (Some (record { key_len = length a; value_len = length b }))) is_key is-value in
          (lens ∙ fit, (p ∙ ap (λ (l : List ℕ). over l key) is_key, q ∙ ap (λ (l : List ℕ). over l value) is-value))
