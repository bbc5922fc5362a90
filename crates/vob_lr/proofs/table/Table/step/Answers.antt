-- A rule by which the table reduces finds states enough.
use Rattle.std.proofs.Common.{◌≡◌, Some, get_or}
use Rattle.vob_lr.specs.Tables.{chosen_at}
use Rattle.vob_lr.specs.declared.table.Action.TheVariants.{Reduce}
use Rattle.vob_lr.proofs.ParseLemmas.{reduce_fits}
use Rattle.vob_lr.proofs.table.Table.step.Goals as goal

pub reduce-requires : goal.reduce-requires
reduce-requires c =
    let run = c.args.run.now in
    let action : chosen_at c.args.self.now.cells (get_or run.states 0 0)
    (get_or c.args.tokens.now run.read 0) ≡ Some (Reduce c.in-Some-Reduce.rule) = cc in
    reduce_fits c.args.self.now c.args.tokens.now c.requires.sound.states c.requires.sound.actions run
    c.in-Some-Reduce.rule c.requires.reached action
