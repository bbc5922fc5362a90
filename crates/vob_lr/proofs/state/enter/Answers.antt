-- The set was found, or added.
use Rattle.vob_lr.proofs.StateLemmas.{HasEntered-inserted}
use Rattle.vob_lr.proofs.state.enter.Goals as goal

pub returns : goal.returns
returns c = HasEntered-inserted c.args.sets.now.keys c.args.set c.insert_full.new.self.keys c.in-Ok.state
    c.in-Ok.ensures.keys c.in-Ok.ensures.index
