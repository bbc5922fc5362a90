-- The row of a nonterminal is as long as the others.
use Rattle.std.proofs.Common.{◌∙◌, [], ap, length}
use Rattle.vob_lr.proofs.follow.put_before.Goals as goal

pub put_row-requires : goal.put_row-requires
put_row-requires c =
    let below = rw c.in-Nonterminal.is at c.requires.below in
    ap length c.row.ensures.bits ∙ c.requires.long c.in-Nonterminal.nonterminal [] below
