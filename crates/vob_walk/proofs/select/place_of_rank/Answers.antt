-- A count of the places below the middle says on which side of it the rank is.
use Rattle.std.proofs.Common.{arith}
use Rattle.vob_walk.proofs.SelectLemmas.{place_between, true_places-masked, true_places-none}
use Rattle.vob_walk.proofs.select.place_of_rank.Goals as goal

pub loop-high-init : goal.loop-high-init
loop-high-init g c =
    let w = g.T.BitBlock.BITS in
    let x = g.T.BitBlock.number c.args.block in
    record {
      some = omega (arith, c.BITS-high.ensures, g.met.T.BitBlock.wide_law);
      width = omega (arith, c.BITS-high.ensures);
      least = omega (arith, true_places-none x);
      most = rw c.BITS-high.ensures c.requires;
    }

pub loop-high-preserved-then-ones_in-rank : goal.loop-high-preserved-then-ones_in-rank
loop-high-preserved-then-ones_in-rank g c =
    let h = c.loop-high.invariant in
    let low = true_places-masked g.T.BitBlock.BITS _ _ _ _
    (omega (arith, c.loop-high-test.true)) c.low_mask.ensures.places
    c.band.ensures.places in
    record {
      some = omega (arith, c.loop-high-test.true);
      width = h.width;
      least = omega (arith, c.if-ones_in-rank.true, c.ones_in.ensures);
      most = h.most;
    }

pub loop-high-preserved : goal.loop-high-preserved
loop-high-preserved g c =
    let h = c.loop-high.invariant in
    let low = true_places-masked g.T.BitBlock.BITS _ _ _ _
    (omega (arith, c.loop-high-test.true)) c.low_mask.ensures.places
    c.band.ensures.places in
    record {
      some = omega (arith, c.loop-high-test.true);
      width = omega (arith, c.loop-high-test.true);
      least = h.least;
      most = omega (arith, c.if-ones_in-rank.false, c.ones_in.ensures);
    }

pub returns-clause-there : goal.returns-clause-there
returns-clause-there g c =
    let h = c.loop-high.invariant in
    (place_between _ _ _ _ h.some (omega (arith, c.loop-high-test.false)) h.least h.most).0

pub returns-clause-rank : goal.returns-clause-rank
returns-clause-rank g c =
    let h = c.loop-high.invariant in
    (place_between _ _ _ _ h.some (omega (arith, c.loop-high-test.false)) h.least h.most).1
