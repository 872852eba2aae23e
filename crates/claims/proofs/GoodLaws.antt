-- A good page stays good, whatever is stored behind its chunks. Assumes nothing.
use Rattle.std.specs.Prelude.{Ok}
use mathlib.Core.Path.{◌≡◌, refl, sym, ap, ap₂, subst, ◌∙◌}
use mathlib.Core.Bool.{true}
use mathlib.Core.List.{List, [], ◌∷◌, ◌++◌, map}
use Prim.Native.Nat.{ℕ, ◌+◌, ◌%◌}
use native.Mathlib.Omega.{arith}
use lib.ListN.{length, take}
use borrow.Author.Tests.{eqb-true}
use Rattle.types.specs.Build.{page_size, page_header_size}
use Rattle.types.proofs.TestLaws.{both_true}
use Rattle.page.specs.Headers.{page_header_fine}
use Rattle.page.specs.Walks.{Chunk, Walked, walk_from}
use Rattle.page.proofs.HeaderLaws.{header-below}
use Rattle.page.proofs.LaidLaws.{All, Placed, laid-placed, walk-laid, walk-ends-at, walk-ended}
use Rattle.page.proofs.OntoLaws.{payload-below, fine-below}
use Rattle.reader.specs.Finds.{payload_of}
use Rattle.claims.specs.Pages.{Right, AllRight, Good, payloads}

-- ---- chunks that lie below o, on pages that agree there

payload-kept : (p q : List ℕ) (s o : ℕ) (c : Chunk) → take o q ≡ take o p → Placed s o c → payload_of q c ≡ payload_of p c
payload-kept p q s o c same at = payload-below c.offset c.len o p q at.whole same

right_kept : (p q : List ℕ) (s o : ℕ) (cs : List Chunk) → take o q ≡ take o p → All (Placed s o) cs → AllRight p cs → AllRight q cs
right_kept p q s o [] same at r = tt
right_kept p q s o (c ∷ cs) same at r = (
  record { some = r.0.some; sum = fine-below c.offset c.len c.crc o p q at.0.whole same ∙ r.0.sum },
  right_kept p q s o cs same at.1 r.1,
)

all-kept : (p q : List ℕ) (s o : ℕ) (cs : List Chunk) → take o q ≡ take o p → All (Placed s o) cs → map (payload_of q) cs ≡ map (payload_of p) cs
all-kept p q s o [] same at = refl
all-kept p q s o (c ∷ cs) same at = ap₂ (λ (x : List ℕ) (l : List (List ℕ)). x ∷ l) (payload-kept p q s o c same at.0) (all-kept p q s o cs same at.1)

right-append : (p : List ℕ) (a b : List Chunk) → AllRight p a → AllRight p b → AllRight p (a ++ b)
right-append p [] b r t = t
right-append p (c ∷ a) b r t = (r.0, right-append p a b r.1 t)

map-append : (f : Chunk → List ℕ) (a b : List Chunk) → map f (a ++ b) ≡ map f a ++ map f b
map-append f [] b = refl
map-append f (c ∷ a) b = ap (λ (l : List (List ℕ)). f c ∷ l) (map-append f a b)

-- ---- the page

module _ (magic p h o : ℕ) (page next : List ℕ) (good : Good magic p h o page) (long : length next ≡ page_size) (same : take o next ≡ take o page) where
  abbrev start : ℕ
  start = page_header_size + h

  placed : All (Placed start o) (walk_from page start).chunks
  placed =
      let f = both_true _ _ good.length-fine in
      let a : h % 4 ≡ 0 = eqb-true _ _ f.0 in
      subst (λ (n : ℕ). All (Placed start n) (walk_from page start).chunks) (walk-ends-at page start o good.ends)
      (laid-placed start (walk_from page start).chunks (omega arith) (walk-laid page start))

  header-kept : page_header_fine next magic p h ≡ true
  header-kept = header-below magic p h o page next (walk-ended page start o good.ends).up same ∙ good.header

  -- the same chunks
  pub good-same : walk_from next start ≡ walk_from page start → Good magic p h o next × (payloads next h ≡ payloads page h)
  good-same w = (
    record {
      whole = long;
      length-fine = good.length-fine;
      header = header-kept;
      ends = ap (λ (x : Walked). x.ending) w ∙ good.ends;
      chunks = subst (λ (x : Walked). AllRight next x.chunks) (sym w) (right_kept page next start o (walk_from page start).chunks same placed good.chunks);
    },
    ap (λ (x : Walked). map (payload_of next) x.chunks) w ∙ all-kept page next start o (walk_from page start).chunks same placed,
  )

  -- the same chunks and one more
  pub good_more : (c : Chunk) (o' : ℕ) → walk_from next start ≡ record { chunks = (walk_from page start).chunks ++ (c ∷ []); ending = Ok o' } → Right next c
      → Good magic p h o' next × (payloads next h ≡ payloads page h ++ (payload_of next c ∷ []))
  good_more c o' w r =
      let old = (walk_from page start).chunks in (
        record {
          whole = long;
          length-fine = good.length-fine;
          header = header-kept;
          ends = ap (λ (x : Walked). x.ending) w;
          chunks = subst (λ (x : Walked). AllRight next x.chunks) (sym w) (right-append next old (c ∷ []) (right_kept page next start o old same placed good.chunks) (r, tt));
        },
        ap (λ (x : Walked). map (payload_of next) x.chunks) w
            ∙ map-append (payload_of next) old (c ∷ [])
            ∙ ap (λ (l : List (List ℕ)). l ++ (payload_of next c ∷ [])) (all-kept page next start o old same placed),
      )
