-- The item of the table.
use Rattle.std.proofs.Common.{◌<◌, length}
use Rattle.vob_lr.proofs.items.Items.item.Goals as goal

pub returns : goal.returns
returns c =
    let numbers = c.self.invariant.numbers in
    let inside : c.args.number < length c.self.inside.items.items =
    rw (numbers.total, c.self.view_is) c.requires in
    rw (← c.self.view_is, c.index.ensures) (numbers.each c.args.number c.index.result.now inside)
