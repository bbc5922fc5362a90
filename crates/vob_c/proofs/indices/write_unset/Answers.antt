-- Each item is written where the last one was followed.
use Rattle.std.proofs.Common.{arith}
use Rattle.vob_c.proofs.IndicesLemmas.{IsWriting-none, IsWriting-next, AreFirst-none, AreFirst-full}
use Rattle.vob_c.proofs.indices.write_unset.Goals as goal

pub loop-k-init : goal.loop-k-init
loop-k-init c = record { writing = IsWriting-none _ _ }

pub loop-k-preserved : goal.loop-k-preserved
loop-k-preserved c = record {
  writing = IsWriting-next c.loop-k.invariant.writing c.in-Some.index _ c.in-Some.ensures.steps.gives
      (omega (arith, c.loop-k-test.true, c.loop-k.invariant.writing.long));
}

pub returns-in_default : goal.returns-in_default
returns-in_default c = AreFirst-none c.loop-k.invariant.writing c.in_default.ensures.steps.gives.0
    (omega (arith, c.loop-k-test.true))

pub returns : goal.returns
returns c = AreFirst-full c.loop-k.invariant.writing (omega arith)
