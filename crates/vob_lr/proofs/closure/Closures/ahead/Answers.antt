-- The items are those of the grammar.
use Rattle.vob_lr.proofs.closure.Closures.ahead.Goals as goal

pub ahead_of-requires : goal.ahead_of-requires
ahead_of-requires c = c.self.invariant.rules

pub returns : goal.returns
returns c = rw (← c.self.view_is) c.ahead_of.ensures
