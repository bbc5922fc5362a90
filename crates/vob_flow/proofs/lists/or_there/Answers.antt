-- The other set was added, or there is none.
use Rattle.std.proofs.Common.{◌<◌, ◌∙◌, sym, [], length, arith}
use Rattle.vob.proofs.BitsLemmas.{row_inside}
use Rattle.vob_flow.proofs.ChangesLemmas.{Gets-none}
use Rattle.vob_flow.proofs.GatherLemmas.{Gets-or}
use Rattle.vob_flow.proofs.lists.or_there.Goals as goal

pub returns-then-set-rows-clause-got : goal.returns-then-set-rows-clause-got
returns-then-set-rows-clause-got c = Gets-none _ _ _ (λ j e. absurd (omega (
  arith,
  row_inside c.args.sets.now.rows c.args.set j e,
  c.if-set-rows.true,
)))

pub returns-clause-got : goal.returns-clause-got
returns-clause-got c =
    let there : c.args.set < length c.args.sets.now.rows = omega (arith, c.if-set-rows.false) in
    let same = c.columns-lengths.ensures.long c.args.sum [] c.requires.sum ∙ c.columns-lengths.ensures.columns
    ∙ c.requires.columns ∙ sym c.columns-columns.ensures.columns ∙ sym (c.columns-columns.ensures.long c.args.set [] there) in
    Gets-or c.args.sets.now.rows c.args.sum c.args.set c.requires.sum same (rw c.row.ensures.bits at c.or_with.ensures.rows)
