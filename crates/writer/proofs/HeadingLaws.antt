-- The page header in its room, and the operations of write_header. Assumes nothing.
use mathlib.Core.Path.{◌≡◌, ◌∙◌}
use mathlib.Core.Bool.{true, ◌&&◌}
use mathlib.Core.List.{List, [], ◌∷◌}
use Prim.Native.Nat.{ℕ, ◌+◌, ◌≤◌}
use native.Mathlib.Omega.{arith}
use lib.ListN.{length, take}
use Rattle.types.specs.Build.{page_header_size, max_header_size}
use Rattle.types.specs.Bytes.{bytes_of}
use Rattle.crc.specs.Published.{published}
use Rattle.flash.specs.Geometry.{page_start}
use Rattle.flash.specs.Operations.{erase, store, op_if, all_lie_on}
use Rattle.slices.specs.Patch.{patch, blank}
use Rattle.flash.specs.declared.ops.Spent.{Spent}
use Rattle.slices.proofs.OverLaws.{patch-start}
use Rattle.flash.proofs.LiesOnLaws.{RanOn, lies-both, on-ran, ran-next}
use Rattle.flash.proofs.OperationLaws.{Ran}
use Rattle.slices.proofs.PatchLaws.{length_over, length-blank, part-over}
use Rattle.page.specs.Headers.{page_header}
use Rattle.page.proofs.PutLaws.{length-page_header, page_header-laid}
use Rattle.writer.specs.Headings.{header_room, header_ops}
use Rattle.writer.specs.declared.page_writer.PageWriter.{PageWriter}

pub room-laid : (magic p : ℕ) (header : List ℕ)
    → patch 12 header (patch 8 (bytes_of 4 (published header)) (patch 4 (bytes_of 4 p) (patch 0 (bytes_of 4 magic) (blank 0 76)))) ≡ header_room magic p header
room-laid magic p header = page_header-laid magic p header (blank 0 76) ∙ patch-start (page_header magic p header) (blank 0 76)

pub length-room : (magic p : ℕ) (header : List ℕ) → length (header_room magic p header) ≡ page_header_size + max_header_size
length-room magic p header = length_over (page_header magic p header) (blank 0 76) ∙ length-blank 0 76

-- the header at the room's start
room-start : (magic p : ℕ) (header : List ℕ) → length header ≤ max_header_size → take (page_header_size + length header) (header_room magic p header) ≡ page_header magic p header
room-start magic p header h =
    let l : length (page_header magic p header) ≡ 12 + length header = length-page_header magic p header in
    let fits : length (page_header magic p header) ≤ length (blank 0 76) = rw (l, length-blank) (omega arith) in
    rw (← l) (part-over (page_header magic p header) (blank 0 76) fits)

-- the runs of the erase and the store; v₀ to v₂ is the flash before, between and after them
pub header-ran : (e left n magic : ℕ) (w : PageWriter) (header room v₀ v₁ v₂ : List ℕ) (x y : Spent)
    → all_lie_on (length v₀) w.page.0 (header_ops e w magic header) ≡ true
    → n ≡ page_header_size + length header → length header ≤ max_header_size → room ≡ header_room magic w.page.0 header
    → RanOn w.page.0 left (op_if w.armed (erase e)) v₀ x v₁
    → RanOn w.page.0 x.left (op_if true (store 0 (take n room))) v₁ y v₂
    → Ran (page_start w.page.0) left (header_ops e w magic header) v₀ (record { ok = x.ok && y.ok; left = y.left }) v₂
unfolding header_ops
header-ran e left n magic w header room v₀ v₁ v₂ x y lie en h er p q =
    let page = w.page.0 in
    let a = op_if w.armed (erase e) in
    let b = store 0 (page_header magic page header) ∷ [] in
    let both = lies-both (length v₀) page a b lie in
    let first = on-ran page left a v₀ v₁ x both.0 p in
    let second = rw (en, er, room-start magic page header h) at q in
    ran-next page left a b v₀ v₁ v₂ x y both.1 first second
