-- The ends that are exchanged add to the bits that are in reverse order.
use Rattle.std.proofs.Common.{map, arith}
use Rattle.vob_store.proofs.ReversingLemmas.{AreTurned-none, AreTurned-more, AreTurned-all}
use Rattle.vob_store.proofs.reverse.reverse_bits_between.Goals as goal

pub loop-high-init : goal.loop-high-init
loop-high-init g c = record {
  order = c.requires.order;
  turned = AreTurned-none g.T.BitBlock.BITS c.args.start c.args.end
      (map g.T.BitBlock.number c.args.own.now);
}

pub loop-high-preserved : goal.loop-high-preserved
loop-high-preserved g c = record {
  order = omega (arith, c.min-count.ensures, c.loop-high-test.true);
  turned = AreTurned-more (omega (arith, c.min-count.ensures, c.loop-high-test.true))
      c.loop-high.invariant.turned c.exchange_ends.ensures.exchanged;
}

pub returns-clause-reversed : goal.returns-clause-reversed
returns-clause-reversed g c = AreTurned-all c.loop-high.invariant.order
    (omega (arith, c.loop-high-test.false)) c.loop-high.invariant.turned
