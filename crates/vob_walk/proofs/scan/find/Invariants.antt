-- The blocks so far were read once each, and had nothing to give.
use Rattle.std.proofs.Common.{◌≡◌, ◌-◌, []}
use Rattle.vob_walk.specs.Cursor.{unread}
use Rattle.vob_walk.specs.Skip.{Reads}
use Rattle.vob_walk.proofs.scan.find.Given as goal

abbrev pub decreases-loop-found : goal.decreases-loop-found
decreases-loop-found g l = l.span.end - l.span.start

abbrev pub invariant-loop-found : goal.invariant-loop-found
invariant-loop-found g l = record {
  side : l.span.side ≡ l.fn.span.side;
  reads : Reads l.fn.span.side g.T.BitBlock.number
      (λ xs. unread g.T.BitBlock.BITS xs l.fn.window.value l.fn.window.start l.fn.window.stop)
      (g.S.Source.reading l.fn.blocks) (g.S.Source.reading l.blocks) l.fn.span.start
      l.fn.span.end l.span.start l.span.end [];
}
