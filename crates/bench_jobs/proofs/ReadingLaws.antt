-- A read, and the loop of reads. Assumes nothing.
use Rattle.std.specs.Prelude.{Ok}
use Rattle.std.specs.Result.{result_unwrap_or}
use mathlib.Core.Path.{◌≡◌, refl, sym, ap, ◌∙◌}
use mathlib.Core.Bool.{Bool, true, false, cond}
use mathlib.Core.List.{List}
use Prim.Native.Nat.{ℕ, zero, suc, ◌+◌, ◌-◌, ◌≤◌}
use native.Mathlib.Omega.{arith}
use lib.ListN.{length, take, drop, length-take}
use Rattle.reader.specs.Calls.{read}
use Rattle.reader.proofs.RoomLaws.{read-most}
use Rattle.reader.specs.declared.answers.Passage.{Passage}
use Rattle.reader.specs.declared.page_reader.PageReader.{PageReader}
use Rattle.bench_jobs.specs.Readings.{ReadState, read_state, read_one, read_while_on, read_pieces}
use Rattle.bench_jobs.specs.declared.reading.Reading.{Reading}

-- ---- one read

-- what was put is within the buffer, of which the rest is lent
pub put-within : (flash out : List ℕ) (r : PageReader) (from : ℕ) (p : Passage ℕ) (n : ℕ)
    → p ≡ read r flash (length (take (length out - from) (drop from out))) → p.answer ≡ Ok n → from ≤ length out → from + n ≤ length out
put-within flash out r from p n e known at =
    let m : n ≤ length (take (length out - from) (drop from out)) =
    read-most r flash (length (take (length out - from) (drop from out))) n (sym (ap (λ (q : Passage ℕ). q.answer) e) ∙ known) in
    let l : length (take (length out - from) (drop from out)) ≤ length out - from = simp length-take (omega arith) in
    omega arith

-- ---- the reads

abbrev goes : Reading → Bool
goes r = result_unwrap_or r.goes_on false

stop : (n : ℕ) (flash : List ℕ) (s : ReadState) → goes s.reading ≡ false → read_while_on n flash s ≡ s
unfolding read_while_on
stop zero flash s off = refl
stop (suc n) flash s off = ap (λ (b : Bool). cond b (read_while_on n flash (read_one flash s)) s) off

more : (n : ℕ) (flash : List ℕ) (s : ReadState) → goes s.reading ≡ true → read_while_on (suc n) flash s ≡ read_while_on n flash (read_one flash s)
unfolding read_while_on
more n flash s on = ap (λ (b : Bool). cond b (read_while_on n flash (read_one flash s)) s) on

-- the reads that are left come to the whole
module _ (flash : List ℕ) (s₀ : ReadState) (n : ℕ) (out : List ℕ) (r : Reading) (rest : read_while_on n flash (read_state r out) ≡ read_pieces flash s₀) where
  both : read_state r out ≡ read_pieces flash s₀ → (r ≡ (read_pieces flash s₀).reading) × (out ≡ (read_pieces flash s₀).out)
  both e = (ap (λ (s : ReadState). s.reading) e, ap (λ (s : ReadState). s.out) e)

  pub reads-stop : (on : Bool) → on ≡ goes r → on ≡ false → (r ≡ (read_pieces flash s₀).reading) × (out ≡ (read_pieces flash s₀).out)
  reads-stop on is off = both (sym (stop n flash (read_state r out) (sym is ∙ off)) ∙ rest)

  pub reads_none : n ≡ 0 → (r ≡ (read_pieces flash s₀).reading) × (out ≡ (read_pieces flash s₀).out)
  unfolding read_while_on
  reads_none over = both (sym (ap (λ (k : ℕ). read_while_on k flash (read_state r out)) over) ∙ rest)

  pub reads_more : (m : ℕ) (on : Bool) (out' : List ℕ) (r' : Reading) → n ≡ suc m → on ≡ goes r → on ≡ true → r' ≡ (read_one flash (read_state r out)).reading
      → out' ≡ (read_one flash (read_state r out)).out → read_while_on m flash (read_state r' out') ≡ read_pieces flash s₀
  reads_more m on out' r' some is go one put =
      ap (λ (x : Reading). read_while_on m flash (read_state x out')) one
      ∙ ap (λ (o : List ℕ). read_while_on m flash (read_state (read_one flash (read_state r out)).reading o)) put
      ∙ sym (more m flash (read_state r out) (sym is ∙ go))
      ∙ sym (ap (λ (k : ℕ). read_while_on k flash (read_state r out)) some)
      ∙ rest
