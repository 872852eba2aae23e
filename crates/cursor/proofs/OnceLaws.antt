-- One list only: calls of next hand out one list of pairs, and one list is the merge of given items. Assumes nothing.
use mathlib.Core.Path.{◌≡◌, refl, sym, ◌∙◌, ap, ap₂}
use mathlib.Core.Bool.{Bool}
use mathlib.Core.List.{List, [], ◌∷◌}
use mathlib.Core.Logic.{◌⊎◌, inl, inr, ⊎_elim}
use Prim.Native.Nat.{ℕ}
use native.Mathlib.Omega.{arith}
use lib.ListN.{take}
use Rattle.run.specs.Items.{Item}
use Rattle.keys.specs.Keys.{compare_keys}
use Rattle.run.specs.Kinds.{Bound}
use Rattle.std.specs.declared.cmp.Ordering.TheVariants.{Less, Equal}
use Rattle.keys.proofs.OrderLaws.{compare-itself, less-less}
use Rattle.cursor.specs.Merged.{Pair, Hands, end, entry, Among, BelowPairs, RisingPairs, Merged}
use Rattle.cursor.specs.Next.{next_key, next_value}
use Rattle.cursor.specs.declared.answers.Entry.{Entry}
use Rattle.cursor.specs.declared.place.Cursor.{Cursor}
use Rattle.cursor.proofs.LiveLaws.{among_below}

-- ---- what is handed out

pub hands-once : (bytes ends : List ℕ) (bound : Bound) (upper : List ℕ) (c : Cursor) (key value : List ℕ) (a b : List Pair)
    → Hands bytes ends bound upper c key value a → Hands bytes ends bound upper c key value b → a ≡ b
hands-once bytes ends bound upper c key value _ _ (end p) (end q) = refl
hands-once bytes ends bound upper c key value _ _ (end p) (entry k v q s) = let z : ◌≡◌ {A = ℕ} 0 1 = cc in absurd (omega arith)
hands-once bytes ends bound upper c key value _ _ (entry k v p r) (end q) = let z : ◌≡◌ {A = ℕ} 0 1 = cc in absurd (omega arith)
hands-once bytes ends bound upper c key value _ _ (entry {pairs = a} k v p r) (entry {pairs = b} m n q s) =
    let e : ◌≡◌ {A = Entry} (record { key_len = k; value_len = v }) (record { key_len = m; value_len = n }) = cc in
    let ek : k ≡ m = ap (λ (x : Entry). x.key_len) e in
    let ev : v ≡ n = ap (λ (x : Entry). x.value_len) e in
    rw (ek, ev) (ap (λ (l : List Pair). record { key = take m (next_key bytes ends bound upper c key value); value = take n (next_value bytes ends bound upper c key value) } ∷ l)
    (hands-once bytes ends bound upper _ _ _ a b r s))

-- ---- what the merge is

-- no key is below itself
never-below : {A : Type 0} (key : List ℕ) → compare_keys key key ≡ Less → A
never-below key q = let z : Equal ≡ Less = sym (compare-itself key) ∙ q in let y : ◌≡◌ {A = ℕ} 0 1 = cc in absurd (omega arith)

-- the first pairs of two rising lists with the same pairs
same_first : (x y : Pair) (a b : List Pair) → BelowPairs x.key a → BelowPairs y.key b → (x ≡ y) ⊎ Among x b → (y ≡ x) ⊎ Among y a → x ≡ y
same_first x y a b ra rb f g =
    ⊎_elim (λ e. e)
    (λ m. ⊎_elim (λ e. sym e)
    (λ n. never-below x.key (less-less x.key y.key x.key (among_below x.key y a ra n) (among_below y.key x b rb m))) g) f

-- what is in one rest is in the other
same_rest : (x y : Pair) (a b : List Pair) → BelowPairs x.key a → x ≡ y → (z : Pair) → Among z a → (z ≡ y) ⊎ Among z b → Among z b
same_rest x y a b ra e z m f =
    ⊎_elim
    (λ q. let s : z ≡ x = q ∙ sym e in never-below x.key (rw (ap (λ (w : Pair). w.key) s) at (among_below x.key z a ra m)))
    (λ n. n) f

same-pairs : (a b : List Pair) → RisingPairs a → RisingPairs b → ((x : Pair) → Among x a → Among x b) → ((x : Pair) → Among x b → Among x a) → a ≡ b
unfolding RisingPairs Among
same-pairs [] [] ra rb f g = refl
same-pairs [] (y ∷ b) ra rb f g = absurd (g y (inl refl))
same-pairs (x ∷ a) [] ra rb f g = absurd (f x (inl refl))
same-pairs (x ∷ a) (y ∷ b) ra rb f g =
    let e : x ≡ y = same_first x y a b ra.0 rb.0 (f x (inl refl)) (g y (inl refl)) in
    ap₂ (λ (w : Pair) (l : List Pair). w ∷ l) e
    (same-pairs a b ra.1 rb.1 (λ z m. same_rest x y a b ra.0 e z m (f z (inr m))) (λ z m. same_rest y x b a rb.0 (sym e) z m (g z (inr m))))

pub merged-once : (n : ℕ) (items : ℕ → List Item) (taken : List ℕ → Bool) (a b : List Pair) → Merged n items taken a → Merged n items taken b → a ≡ b
merged-once n items taken a b p q =
    same-pairs a b p.rising q.rising (λ x m. let s = p.sound x m in q.complete x s.0 s.1) (λ x m. let s = q.sound x m in p.complete x s.0 s.1)
