-- One number more is added.
use Rattle.std.proofs.Common.{◌+◌, ◌<◌, ◌∙◌, refl, subst, arith}
use Rattle.std.proofs.lemmas.List.{take_all}
use Rattle.std.specs.List.{Contains}
use Rattle.vob_flow.specs.Changes.{Gets}
use Rattle.vob_flow.proofs.PartsLemmas.{part_next, part_none}
use Rattle.vob_flow.proofs.lists.add_part.Goals as goal

pub loop-number-init : goal.loop-number-init
loop-number-init c = (part_none c.args.list.now _ _ _ _, refl)

pub loop-number-preserved : goal.loop-number-preserved
loop-number-preserved c =
    let before = c.loop-number.invariant in (
      part_next c.args.list.now c.args.start c.args.sets.now.columns c.loop-number.number-index _
          c.loop-number-test.true refl before.0 (rw before.1 at c.add_number.ensures.got),
      c.add_number.ensures.columns ∙ before.1,
    )

pub returns : goal.returns
returns c =
    let all = take_all c.loop-number.number-index c.args.list.now (omega (arith, c.loop-number-test.false)) in
    record {
      got = subst (λ numbers. Gets c.args.sets.now.rows c.args.set
          (λ j. (j < c.args.sets.now.columns) × Contains numbers (c.args.start + j)) c.loop-number.sets.rows) all
          c.loop-number.invariant.0;
      columns = c.loop-number.invariant.1;
    }
