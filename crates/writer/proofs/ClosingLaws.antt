-- A chunk that is finished: every store but the last lies behind the place of its header, and the last is the header. Assumes nothing.
use mathlib.Core.Path.{◌≡◌, refl, sym, ap, ap₂, subst, ◌∙◌}
use mathlib.Core.Bool.{Bool, true, false, not}
use mathlib.Core.List.{List, [], ◌∷◌, ◌++◌, append_assoc, append-nil}
use mathlib.Core.Logic.{⊎_elim}
use Prim.Native.Nat.{ℕ, zero, suc, ◌+◌, ◌-◌, ◌%◌, ◌≤◌}
use native.Mathlib.Omega.{arith}
use lib.Dec.{eqb}
use lib.ListN.{length, take, drop, length-append, length-drop, take-append-drop}
use lib.Seq.{take_all}
use borrow.Author.Tests.{eq-eqb, ne_eqb}
use Rattle.types.specs.Build.{page_size, max_chunk_size}
use Rattle.types.specs.declared.page_id.PageID.{PageID}
use Rattle.types.proofs.TestLaws.{eq-or-ne}
use Rattle.crc.specs.Register.{preset, updated, finished}
use Rattle.flash.specs.Operations.{Op, erase, store, op_if, made, applied}
use Rattle.slices.specs.Patch.{patch}
use Rattle.flash.specs.Covers.{op_at, op_bytes}
use Rattle.flash.proofs.PageLaws.{made-patch}
use Rattle.slices.proofs.PatchLaws.{patch-join, take-patch-below}
use Rattle.flash.proofs.OperationLaws.{applied-append}
use Rattle.page.specs.Chunks.{chunk_header, align_up}
use Rattle.writer.specs.Commits.{group_at, payload_from, chunk_ops}
use Rattle.writer.specs.Writes.{to_group, to_whole, completes, group_of, whole_of, payload_ops, grown, close_ops, taking_ops}
use Rattle.writer.specs.declared.page_writer.PageWriter.{PageWriter}
use Rattle.writer.proofs.WholeLaws.{wholes, rest, length-wholes}
use Rattle.writer.proofs.AddingLaws.{holding, Adding, made-fit}

-- ---- operations behind an offset

abbrev pub AllBehind : ℕ → List Op → Type 0
AllBehind n [] = Unit
AllBehind n (op ∷ ops) = (n ≤ op_at op) × AllBehind n ops

pub behind-append : (n : ℕ) (a b : List Op) → AllBehind n a → AllBehind n b → AllBehind n (a ++ b)
behind-append n [] b p q = q
behind-append n (op ∷ a) b p q = (p.0, behind-append n a b p.1 q)

pub behind-take : (n k : ℕ) (ops : List Op) → AllBehind n ops → AllBehind n (take k ops)
behind-take n zero ops p = tt
behind-take n (suc k) [] p = tt
behind-take n (suc k) (op ∷ ops) p = (p.0, behind-take n k ops p.1)

behind-if : (n : ℕ) (due : Bool) (op : Op) → n ≤ op_at op → AllBehind n (op_if due op)
behind-if n true op h = (h, tt)
behind-if n false op h = tt

-- what lies before it stays
pub before-kept : (n : ℕ) (ops : List Op) (page : List ℕ) → AllBehind n ops → take n (applied 0 ops page) ≡ take n page
before-kept n [] page p = refl
before-kept n (op ∷ ops) page p =
    before-kept n ops (made 0 op page) p.1
    ∙ ap (take n) (made-patch 0 op page)
    ∙ take-patch-below n (0 + op_at op) (op_bytes op) page (let h : n ≤ op_at op = p.0 in omega arith)

-- ---- a chunk's operations

-- the chunk with this payload at o is stored by ops: the header last, and all else behind it
pub record Stored (page₀ : List ℕ) (o : ℕ) (payload page : List ℕ) (ops : List Op) : Type 0 where
  pub front : List Op
  pub padding : List ℕ
  pub last : ops ≡ front ++ (store o (chunk_header (length payload) (finished (updated preset payload))) ∷ [])
  pub behind : AllBehind (o + 8) front
  pub laid : applied 0 front page ≡ patch (o + 8) (payload ++ padding) page₀
  pub round : length (payload ++ padding) ≡ align_up (length payload)
  pub small : length payload ≤ max_chunk_size
  pub fits : o + 8 + length payload ≤ page_size

module _ (page₀ : List ℕ) (o e : ℕ) (id : PageID) (h total : ℕ) (buf payload : List ℕ) (four : length buf ≡ 4) (top : take (length payload % 4) buf ≡ rest payload)
    (fits : o + 8 + length payload ≤ page_size) (small : length payload ≤ max_chunk_size) (even : o % 4 ≡ 0) where
  abbrev w : PageWriter
  w = holding id h total buf payload o

  abbrev page : List ℕ
  page = patch (o + 8) (wholes payload) page₀

  -- no group is unfinished
  closed-even : length payload % 4 ≡ 0 → Stored page₀ o payload page (chunk_ops e w)
  unfolding chunk_ops
  closed-even z =
      let all : wholes payload ≡ payload ++ [] = take_all (length payload - length payload % 4) payload (omega arith) ∙ sym (append-nil payload) in
      record {
        front = [];
        padding = [];
        last = rw (eq-eqb (length payload % 4) 0 z);
        behind = tt;
        laid = ap (λ (b : List ℕ). patch (o + 8) b page₀) all;
        round = ap length (append-nil payload) ∙ (omega arith);
        small = small;
        fits = fits;
      }

  -- the unfinished group is stored with whatever the buffer holds behind it
  closed-odd : (length payload % 4 ≡ 0 → ⊥) → Stored page₀ o payload page (chunk_ops e w)
  unfolding chunk_ops
  closed-odd some =
      let r = length payload % 4 in
      let at = o + 8 + (length payload - r) in
      let group = take r buf ++ drop r buf in
      let lg : length group ≡ 4 = ap length (take-append-drop r buf) ∙ four in
      let ld : length (drop r buf) ≡ 4 - r = length-drop r buf ∙ ap (λ (n : ℕ). n - r) four in
      record {
        front = store at group ∷ [];
        padding = drop r buf;
        last = rw (ne_eqb r 0 some);
        behind = (omega arith, tt);
        laid =
            made-fit at group page (omega arith)
            ∙ ap₂ (λ (n : ℕ) (b : List ℕ). patch (o + 8 + n) b page) (sym (length-wholes payload)) (ap (λ (l : List ℕ). l ++ drop r buf) top)
            ∙ patch-join (o + 8) (wholes payload) (rest payload ++ drop r buf) page₀
            ∙ ap (λ (l : List ℕ). patch (o + 8) l page₀) (sym (append_assoc (wholes payload) (rest payload) (drop r buf))
            ∙ ap (λ (l : List ℕ). l ++ drop r buf) (take-append-drop (length payload - r) payload));
        round = length-append payload (drop r buf) ∙ ap (λ (n : ℕ). length payload + n) ld ∙ (omega arith);
        small = small;
        fits = fits;
      }

closed-as : (page₀ : List ℕ) (o e : ℕ) (v v' : PageWriter) (payload p p' : List ℕ) → v ≡ v' → p ≡ p' → Stored page₀ o payload p' (chunk_ops e v') → Stored page₀ o payload p (chunk_ops e v)
closed-as page₀ o e v v' payload p p' q r s =
    subst (λ (x : PageWriter). Stored page₀ o payload p (chunk_ops e x)) (sym q) (subst (λ (x : List ℕ). Stored page₀ o payload x (chunk_ops e v')) (sym r) s)

-- a chunk in the making is finished
pub chunk-closed : (page₀ : List ℕ) (o e : ℕ) (v : PageWriter) (payload p : List ℕ) → Adding page₀ o v payload p → o + 8 + length payload ≤ page_size → length payload ≤ max_chunk_size → o % 4 ≡ 0
    → Stored page₀ o payload p (chunk_ops e v)
chunk-closed page₀ o e v payload p a fits small even =
    closed-as page₀ o e v (holding a.id a.h a.total a.buf payload o) payload p (patch (o + 8) (wholes payload) page₀) a.held a.stored
    (⊎_elim
    (λ z. closed-even page₀ o e a.id a.h a.total a.buf payload a.four a.top fits small even z)
    (λ some. closed-odd page₀ o e a.id a.h a.total a.buf payload a.four a.top fits small even some)
    (eq-or-ne (length payload % 4) 0))

-- stores behind the header's place, made before
pub stored-behind : (page₀ : List ℕ) (o : ℕ) (payload page : List ℕ) (a b : List Op) → AllBehind (o + 8) a → Stored page₀ o payload (applied 0 a page) b → Stored page₀ o payload page (a ++ b)
stored-behind page₀ o payload page a b p s = record {
  front = a ++ s.front;
  padding = s.padding;
  last = ap (λ (l : List Op). a ++ l) s.last ∙ sym (append_assoc a s.front _);
  behind = behind-append (o + 8) a s.front p s.behind;
  laid = applied-append 0 a s.front page ∙ s.laid;
  round = s.round;
  small = s.small;
  fits = s.fits;
}

pub piece-behind : (o : ℕ) (v : PageWriter) (bytes : List ℕ) → v.offset ≡ o → AllBehind (o + 8) (payload_ops v bytes)
unfolding payload_ops
piece-behind o v bytes e =
    let n = length bytes in
    let a : o + 8 ≤ group_at v = omega arith in
    let b : o + 8 ≤ payload_from v (v.pending + to_group v n) = omega arith in
    behind-append (o + 8)
    (op_if (completes v n) (store (group_at v) (group_of v bytes)))
    (op_if (not (eqb (to_whole v n) 0)) (store (payload_from v (v.pending + to_group v n)) (whole_of v bytes)))
    (behind-if (o + 8) (completes v n) (store (group_at v) (group_of v bytes)) a)
    (behind-if (o + 8) (not (eqb (to_whole v n) 0)) (store (payload_from v (v.pending + to_group v n)) (whole_of v bytes)) b)

-- a write that takes all these bytes, with no erase armed: its groups, then what a full chunk asks
pub taking_ops-unarmed : (e : ℕ) (w : PageWriter) (bytes : List ℕ) → w.armed ≡ false → taking_ops e w bytes ≡ payload_ops w bytes ++ close_ops e (grown w bytes)
unfolding taking_ops
taking_ops-unarmed e w bytes off = ap (λ (b : Bool). op_if b (erase e) ++ payload_ops w bytes ++ close_ops e (grown w bytes)) off
