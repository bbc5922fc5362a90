-- The parts are moved in the order in which none is written over bits that another one still needs.
use Rattle.std.proofs.Common.{refl, arith}
use Rattle.vob_store.proofs.CopyLemmas.{AreCopied-parts_down, AreCopied-parts_up, whole_inside, rest_one}
use Rattle.vob_store.proofs.shift.move_bits.Goals.{then-at-start, else-at-start}
use Rattle.vob_store.proofs.shift.move_bits.Goals as goal

pub move_whole-requires-clause-inside : goal.move_whole-requires-clause-inside
move_whole-requires-clause-inside g c = rw c.move_part.auto.own (whole_inside _
    g.met.T.BitBlock.wide_law c.args.at c.args.cut.count _ _ _ c.BITS-width.ensures
    c.min-head.ensures refl _ c.requires.inside)

pub move_whole-requires-else-at-start-clause-inside :
    goal.move_whole-requires-else-at-start-clause-inside
move_whole-requires-else-at-start-clause-inside g c = rw c.move_part-else-at-start.auto.own
    (whole_inside _ g.met.T.BitBlock.wide_law c.args.at c.args.cut.count _ _ _
    c.BITS-width.ensures c.min-head.ensures refl _ c.requires.inside)

pub move_part-requires-then-at-start-clause-one : goal.move_part-requires-then-at-start-clause-one
move_part-requires-then-at-start-clause-one g c = rest_one _ g.met.T.BitBlock.wide_law c.args.at
    c.args.cut.count _ _ _ c.BITS-width.ensures c.min-head.ensures refl

pub move_part-requires-else-at-start-clause-one : goal.move_part-requires-else-at-start-clause-one
move_part-requires-else-at-start-clause-one g c = rest_one _ g.met.T.BitBlock.wide_law c.args.at
    c.args.cut.count _ _ _ c.BITS-width.ensures c.min-head.ensures refl

pub returns-clause-moved : goal.returns-clause-moved
returns-clause-moved g c = elim c.if-at-start.branch [
  | then-at-start h ↦ rw h.own-is (AreCopied-parts_down _ g.met.T.BitBlock.wide_law c.args.at
      c.args.cut.count _ _ _ c.BITS-width.ensures c.min-head.ensures refl h.if-at-start.true
      h.move_part.ensures h.move_whole.ensures h.move_part-then-at-start.ensures)
  | else-at-start h ↦ rw h.own-is (AreCopied-parts_up _ g.met.T.BitBlock.wide_law c.args.at
      c.args.cut.count _ _ _ c.BITS-width.ensures c.min-head.ensures refl
      (omega (arith, h.if-at-start.false)) h.move_part-else-at-start.ensures
      h.move_whole-else-at-start.ensures h.move_part-else-at-start-2.ensures)
]
