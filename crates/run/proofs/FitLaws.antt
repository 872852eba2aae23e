-- A record lies in its run: its key after the header, its value after the key, both within their limits, and all of it
-- before the run's end. Assumes nothing.
use Rattle.std.specs.Prelude.{Ok, Err, Some, None}
use Rattle.std.specs.declared.result.Result.{Result}
use Rattle.types.specs.declared.refusal.Refusal.{Refusal}
use mathlib.Core.Path.{◌≡◌, refl}
use mathlib.Core.Bool.{Bool, true, false, cond}
use mathlib.Core.List.{List}
use Prim.Native.Nat.{ℕ, ◌+◌, ◌≤◌}
use native.Mathlib.Omega.{arith}
use lib.Dec.{ltb, eqb}
use lib.ListN.{length, get_or}
use borrow.Author.Tests.{ltb-false}
use Rattle.types.specs.Build.{max_key_size, max_value_size}
use Rattle.types.specs.declared.refusal.Refusal.TheVariants.{Corrupted}
use Rattle.run.specs.Records.{record_header_size, has_mark, verdict_of, key_len, value_len, record_with, body_at, head_by, head_at, Head}
use Rattle.run.specs.declared.record.Record.{Record}

-- where a record lies, whose header has `size` bytes
pub record Lies (size : ℕ) (run : List ℕ) (at : ℕ) (r : Record) : Type 0 where
  pub header : at + size ≡ r.key
  pub key : r.key ≤ r.value
  pub key_limit : r.value ≤ r.key + max_key_size
  pub value : r.value ≤ r.next
  pub value_limit : r.next ≤ r.value + max_value_size
  pub end : r.next ≤ length run

-- a head that is a record lies in its run
abbrev HeadLies : ℕ → List ℕ → ℕ → Head → Type 0
HeadLies size run at (Ok None) = Unit {0}
HeadLies size run at (Ok (Some r)) = Lies size run at r
HeadLies size run at (Err why) = Unit {0}

module _ (size : ℕ) (run : List ℕ) (at : ℕ) where
  body-by : (deleted : Bool) (k v end : Bool) → ltb max_key_size (key_len run at) ≡ k → ltb max_value_size (value_len run at) ≡ v
      → ltb (length run) (at + size + key_len run at + value_len run at) ≡ end
      → HeadLies size run at
      (cond k (Err Corrupted)
      (cond v (Err Corrupted)
      (cond end (Err Corrupted) (Ok (Some (record_with deleted (at + size) (key_len run at) (value_len run at)))))))
  body-by deleted true v end p q e = tt
  body-by deleted false true end p q e = tt
  body-by deleted false false true p q e = tt
  body-by deleted false false false p q e =
      let k : key_len run at ≤ max_key_size = ltb-false max_key_size (key_len run at) p in
      let v : value_len run at ≤ max_value_size = ltb-false max_value_size (value_len run at) q in
      let n : at + size + key_len run at + value_len run at ≤ length run = ltb-false _ _ e in
      record {
        header = refl;
        key = omega arith;
        key_limit = omega arith;
        value = omega arith;
        value_limit = omega arith;
        end = n;
      }

  body-lies : (deleted : Bool) → HeadLies size run at (body_at size run at deleted)
  unfolding body_at
  body-lies deleted = body-by deleted _ _ _ refl refl refl

by-verdict : (run : List ℕ) (at : ℕ) (v : Result Bool Refusal) → HeadLies record_header_size run at (head_by v run at)
unfolding head_by
by-verdict run at (Ok deleted) = body-lies record_header_size run at deleted
by-verdict run at (Err why) = tt

head-by : (run : List ℕ) (at : ℕ) (v : Result Bool Refusal) (end short mark : Bool)
    → HeadLies record_header_size run at
    (cond end (Ok None) (cond short (Err Corrupted) (cond mark (head_by v run at) (Err Corrupted))))
head-by run at v true short mark = tt
head-by run at v false true mark = tt
head-by run at v false false true = by-verdict run at v
head-by run at v false false false = tt

pub head-lies : (run : List ℕ) (at : ℕ) (r : Record) → head_at run at ≡ Ok (Some r) → Lies record_header_size run at r
unfolding head_at
head-lies run at r e =
    rw e at
    (head-by run at (verdict_of (get_or run (at + 2) 0)) (eqb at (length run)) (ltb (length run) (at + record_header_size)) (has_mark run at))
