-- `alloc::marks::free_between`: what is left to look at has the same first free page as the whole. Assumes nothing.
use mathlib.Core.Path.{refl, sym, ◌∙◌}
use native.Mathlib.Numerals.{add-one}
use Rattle.alloc.specs.Marks.{marks_of}
use Rattle.alloc.proofs.SearchLaws.{search-end, search-free, search-used, search-byte, bit-free, bit-used}
use Rattle.alloc.proofs.marks.free_between.Goals as goal

pub loop-i-init : goal.loop-i-init
loop-i-init c = refl

pub loop-i-preserved-then-byte : goal.loop-i-preserved-then-byte
loop-i-preserved-then-byte c =
    sym (search-byte c.args.pages.now c.loop-i.i c.args.to c.if-byte.true) ∙ c.loop-i.invariant

pub returns-then-byte-i-eq0 : goal.returns-then-byte-i-eq0
returns-then-byte-i-eq0 c =
    record {
      answers =
          let bs = c.args.pages.now in
          let i = c.loop-i.i in
          sym (search-free (marks_of bs) i c.args.to c.loop-i-test.true (bit-free bs i c.if-byte-i-eq0.true))
          ∙ c.loop-i.invariant;
    }

pub loop-i-preserved : goal.loop-i-preserved
loop-i-preserved c =
    let bs = c.args.pages.now in
    let i = c.loop-i.i in
    rw (add-one i)
    (sym (search-used (marks_of bs) i c.args.to (bit-used bs i c.if-byte-i-eq0.false))
    ∙ c.loop-i.invariant)

pub returns : goal.returns
returns c = record { answers = sym (search-end (marks_of c.args.pages.now) c.loop-i.i c.args.to c.loop-i-test.false) ∙ c.loop-i.invariant }
