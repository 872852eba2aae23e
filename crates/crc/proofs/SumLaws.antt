-- The sum of any bytes fits its four bytes. Assumes nothing.
use mathlib.Core.Path.{◌≡◌, refl, ap, ◌∙◌}
use mathlib.Core.Bool.{Bool, true, false, not}
use mathlib.Core.List.{List, [], ◌∷◌, map}
use Prim.Native.Nat.{ℕ, suc, ◌^◌, ◌<◌}
use native.Mathlib.Nat.{pow-suc}
use native.Mathlib.Omega.{arith}
use lib.Dec.{lit<}
use lib.ListN.{length}
use Rattle.crc.specs.Published.{number, remainder, published}
use Rattle.crc.proofs.RemainderLaws.{remainder-is-one}

number_fits : (l : List Bool) → number l < 2 ^ length l
unfolding number
number_fits [] = lit< tt
number_fits (true ∷ l) = let ih : number l < 2 ^ length l = number_fits l in rw pow-suc (omega arith)
number_fits (false ∷ l) = let ih : number l < 2 ^ length l = number_fits l in rw pow-suc (omega arith)

length-map : (f : Bool → Bool) (l : List Bool) → length (map f l) ≡ length l
length-map f [] = refl
length-map f (b ∷ l) = ap suc (length-map f l)

pub published-fits : (bytes : List ℕ) → published bytes < 2 ^ 32
unfolding published
published-fits bytes =
    let l : length (map not (remainder bytes)) ≡ 32 = length-map not (remainder bytes) ∙ (remainder-is-one bytes).small in
    rw l at (number_fits (map not (remainder bytes)))
