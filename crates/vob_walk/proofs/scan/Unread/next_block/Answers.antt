-- If no index was found, no block is unread.
use Rattle.std.proofs.Common.{arith}
use Rattle.vob_walk.proofs.ScanLemmas.{unread-none}
use Rattle.vob_walk.proofs.scan.Unread.next_block.Goals as goal

pub returns-clause-none : goal.returns-clause-none
returns-clause-none g c = λ none.
    let window = c.self.inside.window in
    unread-none g.T.BitBlock.BITS _ window.value window.start window.stop _ _
    (omega (arith, c.find-found.ensures.none none))
