-- Bounds as the passes and the search ask them are bounds by the order of keys. Along rising keys, all that come after one
-- past an upper bound are past it, and all that come after one that a lower bound takes are taken. Assumes nothing.
use mathlib.Core.Path.{◌≡◌, refl, sym, ap, ap₂, ◌∙◌}
use mathlib.Core.Bool.{Bool, true, false, not, ◌&&◌, not-not}
use mathlib.Core.List.{List, [], ◌∷◌}
use Prim.Native.Nat.{ℕ}
use Rattle.run.specs.Bounds.{is_past}
use Rattle.run.specs.Items.{Item, Below}
use Rattle.keys.specs.Keys.{compare_keys}
use Rattle.run.specs.Kinds.{Bound, Unbounded, Included, Excluded}
use Rattle.std.specs.declared.cmp.Ordering.{Ordering}
use Rattle.std.specs.declared.cmp.Ordering.TheVariants.{Less, Equal, Greater}
use Rattle.keys.proofs.OrderLaws.{turned, is_less, compare-turned, above-third, below-compared}
use Rattle.run.proofs.BoundLaws.{past_by-unbounded, past_by-included, past_by-excluded, past-later}
use Rattle.run.proofs.ItemLaws.{below-first, below_rest}
use Rattle.cursor.specs.Merged.{over_lower, under_upper, between}
use Rattle.cursor.specs.Union.{kept}

-- ---- the upper bound

-- no pass finds the key past the bound
abbrev pub within : Bound → List ℕ → List ℕ → Bool
within bound upper key = not (is_past bound upper key)

under-within : (bound : Bound) (upper key : List ℕ) → under_upper bound upper key ≡ within bound upper key
unfolding under_upper
under-within Unbounded upper key = rw (past_by-unbounded (compare_keys key upper))
under-within Included upper key =
    rw (past_by-included (compare_keys key upper)) (ap (λ (b : Bool). not b) (below-compared upper key ∙ ap is_less (compare-turned key upper)))
under-within Excluded upper key = rw (past_by-excluded (compare_keys key upper), not-not (is_less (compare_keys key upper))) (below-compared key upper)

pub kept-past : (bound : Bound) (upper key : List ℕ) (items : List Item) → is_past bound upper key ≡ true → Below key items
    → kept (within bound upper) items ≡ []
unfolding kept
kept-past bound upper key [] e h = refl
kept-past bound upper key (x ∷ items) e h = rw (past-later bound upper key x.key e (below-first key x items h)) (kept-past bound upper key items e (below_rest key x items h))

-- ---- the lower bound

-- whether the search takes a key that stands so to the lower bound
unfoldable pub reaches_by : Bound → Ordering → Bool
reaches_by Unbounded o = true
reaches_by Included Less = false
reaches_by Included Equal = true
reaches_by Included Greater = true
reaches_by Excluded Less = false
reaches_by Excluded Equal = false
reaches_by Excluded Greater = true

abbrev pub reaches : Bound → List ℕ → List ℕ → Bool
reaches bound lower key = reaches_by bound (compare_keys key lower)

included-over : (o : Ordering) → not (is_less o) ≡ reaches_by Included o
unfolding reaches_by
included-over Less = refl
included-over Equal = refl
included-over Greater = refl

excluded-over : (o : Ordering) → is_less (turned o) ≡ reaches_by Excluded o
unfolding reaches_by
excluded-over Less = refl
excluded-over Equal = refl
excluded-over Greater = refl

over-reaches : (bound : Bound) (lower key : List ℕ) → over_lower bound lower key ≡ reaches bound lower key
unfolding over_lower reaches_by
over-reaches Unbounded lower key = refl
over-reaches Included lower key = ap (λ (b : Bool). not b) (below-compared key lower) ∙ included-over (compare_keys key lower)
over-reaches Excluded lower key = below-compared lower key ∙ ap is_less (compare-turned key lower) ∙ excluded-over (compare_keys key lower)

pub kept-unbounded : (lower : List ℕ) (items : List Item) → kept (reaches Unbounded lower) items ≡ items
unfolding kept reaches_by
kept-unbounded lower [] = refl
kept-unbounded lower (x ∷ items) = ap (λ (l : List Item). x ∷ l) (kept-unbounded lower items)

reaches-above : (bound : Bound) → reaches_by bound Greater ≡ true
unfolding reaches_by
reaches-above Unbounded = refl
reaches-above Included = refl
reaches-above Excluded = refl

pub kept-reached : (bound : Bound) (lower key : List ℕ) (items : List Item) → (compare_keys key lower ≡ Less → ⊥) → Below key items
    → kept (reaches bound lower) items ≡ items
unfolding kept
kept-reached bound lower key [] n h = refl
kept-reached bound lower key (x ∷ items) n h =
    rw (above-third key x.key lower (below-first key x items h) _ refl n, reaches-above bound)
    (ap (λ (l : List Item). x ∷ l) (kept-reached bound lower key items n (below_rest key x items h)))

-- ---- both

pub asked-between : (low : Bound) (lower : List ℕ) (high : Bound) (upper key : List ℕ)
    → (reaches low lower key && within high upper key) ≡ between low lower high upper key
asked-between low lower high upper key =
    ap₂ (λ (a b : Bool). a && b) (sym (over-reaches low lower key)) (sym (under-within high upper key))
