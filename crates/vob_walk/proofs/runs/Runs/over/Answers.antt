-- No run is passed, and a block is in hand if the walk begins within.
use Rattle.std.proofs.Common.{ap, map, refl}
use Rattle.std.proofs.lemmas.List.{length-map}
use Rattle.vob_block.specs.Packing.{unpacking}
use Rattle.vob_walk.specs.RunSteps.{seen}
use Rattle.vob_walk.proofs.RunListLemmas.{AreRuns-only}
use Rattle.vob_walk.proofs.RunsBackLemmas.{runs_in_reverse}
use Rattle.vob_walk.proofs.RunsLemmas.{runs_in_order}
use Rattle.vob_walk.proofs.SeenLemmas.{IsOnRuns-start}
use Rattle.vob_walk.proofs.runs.Runs.over.Goals as goal

pub invariant_of-result : goal.invariant_of-result
invariant_of-result g c = IsOnRuns-start c.args.value _
    (rw (length-map, c.hand_at-hand.ensures.items) c.requires.count) c.requires.within
    (rw c.hand_at-hand.ensures.items c.hand_at-hand.ensures.hand)

pub returns-clause-bits : goal.returns-clause-bits
returns-clause-bits g c = ap (λ items. seen c.args.value c.args.start
    (unpacking c.args.stop (map g.T.BitBlock.number items) g.T.BitBlock.BITS))
    c.hand_at-hand.ensures.items

pub returns-clause-runs : goal.returns-clause-runs
returns-clause-runs g c = runs_in_order

pub returns-clause-runs_back : goal.returns-clause-runs_back
returns-clause-runs_back g c = runs_in_reverse

pub returns-clause-each : goal.returns-clause-each
returns-clause-each g c = (AreRuns-only _ _).0 refl
