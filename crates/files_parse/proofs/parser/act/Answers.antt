-- No state follows by the rule of the action.
use Rattle.std.proofs.Common.{rules, ◌≡◌, reverse, Some}
use Rattle.vob_lr.specs.Parses.{top}
use Rattle.vob_lr.specs.Tables.{chosen_at}
use Rattle.vob_lr.specs.declared.table.Action.TheVariants.{Reduce}
use Rattle.files_parse.proofs.ParserLemmas.{stays_reduced}
use Rattle.files_parse.proofs.parser.act.Goals as goal

pub returns-else-branch : goal.returns-else-branch
returns-else-branch c =
    let states = reverse c.args.states.now.items in
    let acts : chosen_at c.args.table.now.cells (top states) c.args.terminal ≡ Some (Reduce c.in-Some-Reduce.rule) =
    search rules in
    stays_reduced c.args.table.now c.in-Some-Reduce.rule c.args.terminal states acts
    (rw c.if-branch.false at c.in_ok-reduce-in-Some-Reduce.ensures)
