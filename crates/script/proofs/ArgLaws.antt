-- What a word stands for: a law for each way that the code goes. Assumes nothing.
use Rattle.std.specs.Prelude.{Some, None}
use Rattle.digits.specs.declared.hex.DecodeError.{DecodeError}
use Rattle.std.specs.declared.option.Option.{Option}
use Rattle.std.specs.declared.result.Result.{Result}
use mathlib.Core.Path.{◌≡◌, refl}
use mathlib.Core.Bool.{true, false, ◌||◌}
use mathlib.Core.List.{List}
use Prim.Native.Nat.{ℕ, ◌≤◌, ◌<◌}
use lib.Dec.{eqb}
use lib.ListN.{length, get_or}
use borrow.Author.Tests.{le-leb, lt-leb, eq-eqb, ne_eqb}
use Rattle.digits.specs.Hex.{decoded_of, buffer_after}
use Rattle.script.specs.Args.{up_to, page_arg, seed_of, magic_of, flag_of, flag_in, is_dash, decoded_count, count_in, buffer_with}

-- ---- numbers up to a limit

module _ {x : (Option ℕ)} where
  pub up_none : (limit : ℕ) → x ≡ None → None ≡ up_to limit x
  up_none limit e = rw e

  pub up-within : (limit n : ℕ) → x ≡ Some n → n ≤ limit → Some n ≡ up_to limit x
  up-within limit n e h = rw e (rw (le-leb n limit h))

  pub up-past : (limit n : ℕ) → x ≡ Some n → limit < n → None ≡ up_to limit x
  up-past limit n e h = rw e (rw (lt-leb n limit h))

  pub page-none : x ≡ None → None ≡ page_arg x
  page-none e = rw e

  pub page-within : (n : ℕ) → x ≡ Some n → n ≤ 65535 → Some (record { 0 = n }) ≡ page_arg x
  page-within n e h = rw e (rw (le-leb n 65535 h))

  pub page-past : (n : ℕ) → x ≡ Some n → 65535 < n → None ≡ page_arg x
  page-past n e h = rw e (rw (lt-leb n 65535 h))

  pub seed-none : x ≡ None → None ≡ seed_of x
  seed-none e = rw e

  pub seed-within : (n : ℕ) → x ≡ Some n → n ≤ 4294967295 → Some n ≡ seed_of x
  seed-within n e h = rw e (rw (le-leb n 4294967295 h))

  pub seed-past : (n : ℕ) → x ≡ Some n → 4294967295 < n → None ≡ seed_of x
  seed-past n e h = rw e (rw (lt-leb n 4294967295 h))

-- ---- one of two magics

module _ {x : (Option ℕ)} where
  pub magic-none : x ≡ None → None ≡ magic_of x
  magic-none e = rw e

  pub magic-known : (n : ℕ) → x ≡ Some n → (eqb n 161 || eqb n 4294967295) ≡ true → Some n ≡ magic_of x
  magic-known n e h = rw e (rw h)

  pub magic-other : (n : ℕ) → x ≡ Some n → (eqb n 161 || eqb n 4294967295) ≡ false → None ≡ magic_of x
  magic-other n e h = rw e (rw h)

-- ---- flags, and the dash

module _ (byte : ℕ) where
  pub flag-set : byte ≡ 49 → Some true ≡ flag_of byte
  flag-set e = rw (eq-eqb byte 49 e)

  pub flag-clear : (byte ≡ 49 → ⊥) → byte ≡ 48 → Some false ≡ flag_of byte
  flag-clear n e = rw (ne_eqb byte 49 n, eq-eqb byte 48 e)

  pub flag-other : (byte ≡ 49 → ⊥) → (byte ≡ 48 → ⊥) → None ≡ flag_of byte
  flag-other n m = rw (ne_eqb byte 49 n, ne_eqb byte 48 m)

module _ (word : List ℕ) where
  pub flag-longer : (length word ≡ 1 → ⊥) → None ≡ flag_in word
  flag-longer n = rw (ne_eqb (length word) 1 n)

  pub flag_one : length word ≡ 1 → flag_of (get_or word 0 0) ≡ flag_in word
  flag_one h = rw (eq-eqb (length word) 1 h)

  pub dash-longer : (length word ≡ 1 → ⊥) → false ≡ is_dash word
  dash-longer n = rw (ne_eqb (length word) 1 n)

  pub dash-one : length word ≡ 1 → eqb (get_or word 0 0) 45 ≡ is_dash word
  dash-one h = rw (eq-eqb (length word) 1 h)

-- ---- bytes

module _ (word out : List ℕ) where
  pub bytes-dash : is_dash word ≡ true → (Some 0 ≡ count_in word (length out)) × (out ≡ buffer_with word out)
  bytes-dash h = rw h (refl, refl)

  pub bytes-none : is_dash word ≡ false → length word ≡ 0 → (None ≡ count_in word (length out)) × (out ≡ buffer_with word out)
  bytes-none h e = rw (h, eq-eqb (length word) 0 e) (refl, refl)

  pub bytes-pairs : {d : (Result ℕ DecodeError)} {r : (Option ℕ)} {out' : List ℕ} → is_dash word ≡ false → (length word ≡ 0 → ⊥) → d ≡ decoded_of word (length out)
      → out' ≡ buffer_after d word out → r ≡ decoded_count d → (r ≡ count_in word (length out)) × (out' ≡ buffer_with word out)
  bytes-pairs h n e b k = rw (h, ne_eqb (length word) 0 n, ← e) (k, b)

-- the same of a word that is equal
pub bytes_of : {word word' : List ℕ} (out : List ℕ) {r : (Option ℕ)} {out' : List ℕ} → word ≡ word'
    → (r ≡ count_in word (length out)) × (out' ≡ buffer_with word out) → (r ≡ count_in word' (length out)) × (out' ≡ buffer_with word' out)
bytes_of out e p = rw e at p
