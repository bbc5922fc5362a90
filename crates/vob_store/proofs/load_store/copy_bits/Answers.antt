-- The parts stand one behind the other.
use Rattle.std.proofs.Common.{◌-◌, ◌/◌, refl, arith}
use Rattle.vob_store.proofs.CopyLemmas.{AreCopied-parts, whole-few, whole_inside, rest_one}
use Rattle.vob_store.proofs.load_store.copy_bits.Goals as goal

pub copy_whole-requires-clause-inside : goal.copy_whole-requires-clause-inside
copy_whole-requires-clause-inside g c =
    let head = c.min-head.result in
    let u = c.BITS-width.result in
    rw c.copy_part.auto.own (whole_inside _ g.met.T.BitBlock.wide_law c.args.at c.args.cut.count
    head ((c.args.cut.count - head) / u) _ c.BITS-width.ensures c.min-head.ensures refl _
    c.requires.inside)

pub copy_part-requires-2-clause-one : goal.copy_part-requires-2-clause-one
copy_part-requires-2-clause-one g c =
    let head = c.min-head.result in
    let u = c.BITS-width.result in
    rest_one _ g.met.T.BitBlock.wide_law c.args.at c.args.cut.count head
    ((c.args.cut.count - head) / u) _ c.BITS-width.ensures c.min-head.ensures refl

pub returns-clause-copied : goal.returns-clause-copied
returns-clause-copied g c =
    let head = c.min-head.result in
    let u = c.BITS-width.result in
    AreCopied-parts _ g.met.T.BitBlock.wide_law c.args.at c.args.cut.count head
    ((c.args.cut.count - head) / u) _ c.BITS-width.ensures c.min-head.ensures refl
    c.copy_part.ensures.copied (rw c.copy_part.ensures.items at c.copy_whole.ensures.copied) (rw
    (c.copy_whole.ensures.items, c.copy_part.ensures.items) at c.copy_part-2.ensures.copied)

pub returns-clause-reads : goal.returns-clause-reads
returns-clause-reads g c =
    let head = c.min-head.result in
    let u = c.BITS-width.result in
    let few = whole-few _ g.met.T.BitBlock.wide_law c.args.at c.args.cut.count head
    ((c.args.cut.count - head) / u) _ c.BITS-width.ensures c.min-head.ensures refl in
    omega (
      arith,
      few,
      c.copy_part.ensures.reads,
      c.copy_whole.ensures.reads,
      c.copy_part-2.ensures.reads,
    )
