-- A chunk in the making: what the writer holds and what the page holds add up to the bytes taken so far. Assumes nothing.
use mathlib.Core.Path.{◌≡◌, refl, sym, ap, ap₂, ◌∙◌}
use mathlib.Core.Bool.{Bool, true, false, not, ◌&&◌}
use mathlib.Core.List.{List, [], ◌++◌, append_assoc, append-nil}
use mathlib.Core.Logic.{⊎_elim}
use Prim.Native.Nat.{ℕ, zero, suc, ◌+◌, ◌-◌, ◌*◌, ◌/◌, ◌%◌, ◌≤◌, ◌<◌}
use native.Mathlib.Nat.{zero-add}
use native.Mathlib.Omega.{arith}
use lib.Dec.{eqb}
use lib.ListN.{length, take, drop, replicate, length-append, length-take, length-drop, take-append-drop, drop_of_length-le}
use lib.Seq.{take_all, drop-drop}
use borrow.Author.Tests.{eq-eqb, ne_eqb, le-leb, lt-leb}
use Rattle.types.specs.Build.{page_size, align}
use Rattle.types.specs.declared.page_id.PageID.{PageID}
use Rattle.types.proofs.TestLaws.{le-or-lt, eq-or-ne}
use Rattle.crc.specs.Register.{preset, updated}
use Rattle.crc.proofs.RegisterLaws.{crc-append, updated_none}
use Rattle.flash.specs.Operations.{store, op_if, made, applied}
use Rattle.slices.specs.Patch.{over, patch}
use Rattle.slices.proofs.PatchLaws.{length_over, length-patch, patch-none, put-start}
use Rattle.writer.specs.States.{fresh}
use Rattle.writer.specs.Writes.{lacking, to_group, completes, to_whole, group_of, buffer_of, payload_ops, grown}
use Rattle.writer.specs.declared.page_writer.PageWriter.{PageWriter}
use Rattle.writer.proofs.WholeLaws.{wholes, rest, length_rest, over-take, patch-take, rest-even, wholes-short, rest-short, wholes-take, group-stored, wholes-stored}

-- a writer at offset o that has taken a payload
abbrev pub holding : PageID → ℕ → ℕ → List ℕ → List ℕ → ℕ → PageWriter
holding page h total buf payload o =
    record { page = page; h = h; armed = false; crc = updated preset payload; buf = buf; total = total; offset = o; pending = length payload }

-- w has taken the payload for a chunk at o; its whole groups are on the page, which was page₀, and the rest is in the buffer
pub record Adding (page₀ : List ℕ) (o : ℕ) (w : PageWriter) (payload page : List ℕ) : Type 0 where
  pub id : PageID
  pub h : ℕ
  pub total : ℕ
  pub buf : List ℕ
  pub held : w ≡ holding id h total buf payload o
  pub four : length buf ≡ 4
  pub top : take (length payload % 4) buf ≡ rest payload
  pub stored : page ≡ patch (o + 8) (wholes payload) page₀

-- a fresh writer has taken nothing
pub adding-none : (page₀ : List ℕ) (o : ℕ) (id : PageID) (h : ℕ) → Adding page₀ o (fresh false id h o) [] page₀
adding-none page₀ o id h = record {
  id = id;
  h = h;
  total = 0;
  buf = replicate align 0;
  held = ap (λ (c : ℕ). record { page = id; h = h; armed = false; crc = c; buf = replicate align 0; total = 0; offset = o; pending = 0 }) (sym (updated_none preset));
  four = refl;
  top = refl;
  stored = sym (patch-none (o + 8) page₀);
}

-- ---- one store

pub made-fit : (at : ℕ) (bytes page : List ℕ) → at + length bytes ≤ page_size → made 0 (store at bytes) page ≡ patch at bytes page
made-fit at bytes page h = ap₂ (λ (a : ℕ) (b : List ℕ). patch a b page) (zero-add at) (take_all (page_size - at) bytes (omega arith))

some_stored : (at m : ℕ) (bytes page : List ℕ) → at + m ≤ page_size → applied 0 (op_if (not (eqb m 0)) (store at (take m bytes))) page ≡ patch at (take m bytes) page
some_stored at zero bytes page h = sym (patch-none at page)
some_stored at (suc m) bytes page h =
    let l : length (take (suc m) bytes) ≤ suc m = rw length-take (omega arith) in
    rw (ne_eqb (suc m) 0 (λ (e : suc m ≡ 0). omega arith)) (made-fit at (take (suc m) bytes) page (omega arith))

and-false : (b : Bool) → (b && false) ≡ false
and-false true = refl
and-false false = refl

-- ---- a write's stores, before a commit

-- whole groups behind whole groups, of which the last were completed by g of the bytes
wholes-behind : (o g : ℕ) (payload bytes page₀ page : List ℕ) → o + 8 + length payload + length bytes ≤ page_size → (length payload + g) % 4 ≡ 0 → g ≤ length bytes
    → page ≡ patch (o + 8) (payload ++ take g bytes) page₀
    → applied 0 (op_if (not (eqb ((length bytes - g) / 4 * 4) 0)) (store (o + 8 + (length payload + g)) (take ((length bytes - g) / 4 * 4) (drop g bytes)))) page
    ≡ patch (o + 8) (wholes (payload ++ bytes)) page₀
wholes-behind o g payload bytes page₀ page fits even has e =
    let m = (length bytes - g) / 4 * 4 in
    let front = payload ++ take g bytes in
    let lg : length (take g bytes) ≡ g = simp length-take (omega arith) in
    let lf : length front ≡ length payload + g = rw (length-append, lg) in
    let ld : length (drop g bytes) ≡ length bytes - g = length-drop g bytes in
    let k : take m (drop g bytes) ≡ wholes (drop g bytes) = ap (λ (n : ℕ). take (n / 4 * 4) (drop g bytes)) (sym ld) ∙ wholes-take (drop g bytes) in
    let at : o + 8 + (length payload + g) ≡ o + 8 + length front = rw lf in
    some_stored (o + 8 + (length payload + g)) m (drop g bytes) page (omega arith)
    ∙ ap₂ (λ (b p : List ℕ). patch (o + 8 + (length payload + g)) b p) k e
    ∙ ap (λ (n : ℕ). patch n (wholes (drop g bytes)) (patch (o + 8) front page₀)) at
    ∙ wholes-stored (o + 8) front (drop g bytes) page₀ (rw lf even)
    ∙ ap (λ (l : List ℕ). patch (o + 8) (wholes l) page₀) (append_assoc payload (take g bytes) (drop g bytes) ∙ ap (λ (l : List ℕ). payload ++ l) (take-append-drop g bytes))

module _ (id : PageID) (h total o : ℕ) (buf payload bytes page₀ : List ℕ) (four : length buf ≡ 4) (top : take (length payload % 4) buf ≡ rest payload)
    (fits : o + 8 + length payload + length bytes ≤ page_size) where
  abbrev w : PageWriter
  w = holding id h total buf payload o

  abbrev page : List ℕ
  page = patch (o + 8) (wholes payload) page₀

  -- behind whole groups
  even-stored : length payload % 4 ≡ 0 → applied 0 (payload_ops w bytes) page ≡ patch (o + 8) (wholes (payload ++ bytes)) page₀
  unfolding payload_ops
  even-stored z =
      let l : lacking w ≡ 0 = omega arith in
      let c : completes w (length bytes) ≡ false = rw (eq-eqb (lacking w) 0 l) in
      let g : to_group w (length bytes) ≡ 0 = omega arith in
      let same : page ≡ patch (o + 8) (payload ++ take 0 bytes) page₀ =
      ap (λ (b : List ℕ). patch (o + 8) b page₀) (take_all (length payload - length payload % 4) payload (omega arith) ∙ sym (append-nil payload)) in
      rw (c, g) (wholes-behind o 0 payload bytes page₀ page fits (omega arith) (omega arith) same)

  -- behind an unfinished group that stays unfinished
  short-stored : length payload % 4 + length bytes < 4 → (length payload % 4 ≡ 0 → ⊥) → applied 0 (payload_ops w bytes) page ≡ patch (o + 8) (wholes (payload ++ bytes)) page₀
  unfolding payload_ops
  short-stored few some =
      let more : length bytes < lacking w = omega arith in
      let c : completes w (length bytes) ≡ false = rw (lt-leb (lacking w) (length bytes) more) (and-false (not (eqb (lacking w) 0))) in
      let g : to_group w (length bytes) ≡ length bytes = omega arith in
      let m : to_whole w (length bytes) ≡ 0 = omega arith in
      rw (c, m) (ap (λ (b : List ℕ). patch (o + 8) b page₀) (sym (wholes-short payload bytes few)))

  -- behind an unfinished group that is completed
  full-stored : 4 ≤ length payload % 4 + length bytes → (length payload % 4 ≡ 0 → ⊥) → applied 0 (payload_ops w bytes) page ≡ patch (o + 8) (wholes (payload ++ bytes)) page₀
  unfolding payload_ops group_of
  full-stored many some =
      let g = lacking w in
      let fill : length payload % 4 + g ≡ 4 = omega arith in
      let least : to_group w (length bytes) ≡ g = omega arith in
      let c : completes w (length bytes) ≡ true = rw (ne_eqb g 0 (λ (e : g ≡ 0). omega arith), le-leb g (length bytes) (omega arith)) in
      let group = patch (length payload % 4) (take g bytes) buf in
      let lg : length group ≡ 4 = length-patch (length payload % 4) (take g bytes) buf ∙ four in
      let at = o + 8 + (length payload - length payload % 4) in
      let done : made 0 (store at group) page ≡ patch (o + 8) (payload ++ take g bytes) page₀ =
      made-fit at group page (omega arith) ∙ group-stored (o + 8) g payload bytes buf page₀ four top fill (omega arith) in
      rw (c, least) (wholes-behind o g payload bytes page₀ (made 0 (store at group) page) fits (omega arith) (omega arith) done)

  -- whether the piece completes no group, one group or more
  pub piece-stored : applied 0 (payload_ops w bytes) page ≡ patch (o + 8) (wholes (payload ++ bytes)) page₀
  piece-stored =
      ⊎_elim even-stored
      (λ some. ⊎_elim (λ many. full-stored many some) (λ few. short-stored few some) (le-or-lt 4 (length payload % 4 + length bytes)))
      (eq-or-ne (length payload % 4) 0)

  -- ---- the buffer

  length-group : length (group_of w bytes) ≡ 4
  unfolding group_of
  length-group = length-patch _ _ _ ∙ four

  length-buffer : length (buffer_of w bytes) ≡ 4
  unfolding buffer_of
  length-buffer = length_over _ _ ∙ length-group

  -- the bytes behind the last whole group are at the buffer's start
  over-top : (g : ℕ) → to_group w (length bytes) ≡ g → (length payload + g) % 4 ≡ 0 → g ≤ length bytes → take (length (payload ++ bytes) % 4) (buffer_of w bytes) ≡ rest (payload ++ bytes)
  unfolding buffer_of
  over-top g e even has =
      let n = length bytes in
      let lf : length (payload ++ take g bytes) ≡ length payload + g = length-append payload (take g bytes) ∙ ap (λ (k : ℕ). length payload + k) (simp length-take (omega arith)) in
      let ld : length (drop g bytes) ≡ n - g = length-drop g bytes in
      let all : (payload ++ take g bytes) ++ drop g bytes ≡ payload ++ bytes = append_assoc payload (take g bytes) (drop g bytes) ∙ ap (λ (l : List ℕ). payload ++ l) (take-append-drop g bytes) in
      let r : rest (payload ++ bytes) ≡ rest (drop g bytes) = ap rest (sym all) ∙ rest-even (payload ++ take g bytes) (drop g bytes) (rw lf even) in
      let k : length (payload ++ bytes) % 4 ≡ length (drop g bytes) % 4 = ap (λ (m : ℕ). m % 4) (length-append payload bytes) ∙ count (length payload) g n even has ∙ ap (λ (m : ℕ). m % 4) (sym ld) in
      let d : drop (to_group w n + to_whole w n) bytes ≡ rest (drop g bytes) = ap (λ (m : ℕ). drop (m + (n - m) / 4 * 4) bytes) e ∙ sym (drop-drop ((n - g) / 4 * 4) g bytes)
      ∙ ap (λ (m : ℕ). drop m (drop g bytes)) (groups (n - g) ∙ ap (λ (m : ℕ). m - m % 4) (sym ld)) in
      ap₂ (λ (m : ℕ) (l : List ℕ). take m (over l (group_of w bytes))) k d
      ∙ over-take (length (drop g bytes) % 4) (rest (drop g bytes)) (group_of w bytes) (length_rest (drop g bytes)) (rw length-group (omega arith))
      ∙ sym r
    where
      groups : (m : ℕ) → m / 4 * 4 ≡ m - m % 4
      groups m = omega arith

      count : (p g n : ℕ) → (p + g) % 4 ≡ 0 → g ≤ n → (p + n) % 4 ≡ (n - g) % 4
      count p g n e h = omega arith

  short-top : length payload % 4 + length bytes < 4 → (length payload % 4 ≡ 0 → ⊥) → take (length (payload ++ bytes) % 4) (buffer_of w bytes) ≡ rest (payload ++ bytes)
  unfolding buffer_of group_of
  short-top few some =
      let n = length bytes in
      let more : n < lacking w = omega arith in
      let g : to_group w n ≡ n = omega arith in
      let k : length (payload ++ bytes) % 4 ≡ length payload % 4 + n = ap (λ (m : ℕ). m % 4) (length-append payload bytes) ∙ (omega arith) in
      let d : drop (to_group w n + to_whole w n) bytes ≡ [] = drop_of_length-le bytes (let p : n ≤ to_group w n + to_whole w n = omega arith in p) in
      let t : take (to_group w n) bytes ≡ bytes = take_all (to_group w n) bytes (let p : n ≤ to_group w n = omega arith in p) in
      ap₂ (λ (m : ℕ) (l : List ℕ). take m (over l (group_of w bytes))) k d
      ∙ ap (take (length payload % 4 + n)) (sym (put-start [] (group_of w bytes)))
      ∙ ap (λ (l : List ℕ). take (length payload % 4 + n) (patch (length payload % 4) l buf)) t
      ∙ patch-take (length payload % 4) n bytes buf refl (omega arith)
      ∙ ap (λ (l : List ℕ). l ++ bytes) top
      ∙ sym (rest-short payload bytes few)

  pub piece-held : take (length (payload ++ bytes) % 4) (buffer_of w bytes) ≡ rest (payload ++ bytes)
  piece-held =
      ⊎_elim
      (λ (z : length payload % 4 ≡ 0). over-top 0 (let l : lacking w ≡ 0 = omega arith in omega arith) (omega arith) (omega arith))
      (λ (some : length payload % 4 ≡ 0 → ⊥).
      ⊎_elim
      (λ (many : 4 ≤ length payload % 4 + length bytes). full-top many some)
      (λ few. short-top few some) (le-or-lt 4 (length payload % 4 + length bytes)))
      (eq-or-ne (length payload % 4) 0)
    where
      full-top : 4 ≤ length payload % 4 + length bytes → (length payload % 4 ≡ 0 → ⊥) → take (length (payload ++ bytes) % 4) (buffer_of w bytes) ≡ rest (payload ++ bytes)
      full-top many some =
          let fill : length payload % 4 + lacking w ≡ 4 = omega arith in
          let least : to_group w (length bytes) ≡ lacking w = omega arith in
          over-top (lacking w) least (omega arith) (omega arith)

-- ONE PIECE MORE: a write that takes these bytes, as far as its groups go
pub piece_added : (page₀ : List ℕ) (o : ℕ) (w : PageWriter) (payload page bytes : List ℕ) → Adding page₀ o w payload page → o + 8 + length payload + length bytes ≤ page_size
    → Adding page₀ o (grown w bytes) (payload ++ bytes) (applied 0 (payload_ops w bytes) page)
piece_added page₀ o w payload page bytes a fits =
    let v = holding a.id a.h a.total a.buf payload o in
    record {
      id = a.id;
      h = a.h;
      total = a.total + length bytes;
      buf = buffer_of v bytes;
      held = ap (λ (x : PageWriter). grown x bytes) a.held
          ∙ more a.id a.h (a.total + length bytes) (buffer_of v bytes) (sym (crc-append preset payload bytes)) (sym (length-append payload bytes));
      four = length-buffer a.id a.h a.total o a.buf payload bytes page₀ a.four a.top fits;
      top = piece-held a.id a.h a.total o a.buf payload bytes page₀ a.four a.top fits;
      stored =
          ap₂ (λ (x : PageWriter) (p : List ℕ). applied 0 (payload_ops x bytes) p) a.held a.stored
          ∙ piece-stored a.id a.h a.total o a.buf payload bytes page₀ a.four a.top fits;
    }
  where
    more : (id : PageID) (h total : ℕ) (buf : List ℕ) {c d p q : ℕ} → c ≡ d → p ≡ q
        → ◌≡◌ {A = PageWriter} (record { page = id; h = h; armed = false; crc = c; buf = buf; total = total; offset = o; pending = p })
        (record { page = id; h = h; armed = false; crc = d; buf = buf; total = total; offset = o; pending = q })
    more id h total buf e f = ap₂ (λ (x y : ℕ). record { page = id; h = h; armed = false; crc = x; buf = buf; total = total; offset = o; pending = y }) e f
