-- A walk over all bits, from the first one on.
use Rattle.std.proofs.Common.{◌∙◌, ap, arith, length, false, map, not}
use Rattle.std.proofs.lemmas.List.{length-map}
use Rattle.vob_block.specs.Packing.{need}
use Rattle.vob_block.proofs.PackingLemmas.{unpacking-packing}
use Rattle.vob_walk.specs.RunSteps.{seen}
use Rattle.vob_walk.specs.Runs.{runs_of}
use Rattle.vob_walk.proofs.RunListLemmas.{AreRuns-only, length-runs_from-le}
use Rattle.vob_walk.proofs.RunsBackLemmas.{runs_in_reverse}
use Rattle.vob_walk.proofs.RunsLemmas.{runs_in_order}
use Rattle.vob_walk.proofs.SeenLemmas.{seen-negated}
use Rattle.vob.proofs.SetsLemmas.{enough_blocks}
use Rattle.vob.proofs.vob.Vob.unset_runs.Goals as goal

pub over-requires-clause-count : goal.over-requires-clause-count
over-requires-clause-count g c = enough_blocks g.T.BitBlock.BITS g.met.T.BitBlock.wide_law
    g.T.BitBlock.number _ c.args.self.now.bits _ c.blocks-2.ensures.blocks c.len.ensures.len

pub returns-clause-bits : goal.returns-clause-bits
returns-clause-bits g c = c.over.ensures.bits ∙ rw (c.blocks-2.ensures.blocks, c.len.ensures.len)
    (ap (seen false 0)
    (unpacking-packing g.T.BitBlock.BITS g.met.T.BitBlock.wide_law c.args.self.now.bits)
    ∙ seen-negated c.args.self.now.bits)

pub returns-clause-rest : goal.returns-clause-rest
returns-clause-rest g c = c.over.ensures.rest ∙ ap runs_of (returns-clause-bits g c)

pub returns-clause-each : goal.returns-clause-each
returns-clause-each g c = (AreRuns-only _ _).0 (returns-clause-rest g c)

pub returns-clause-longest : goal.returns-clause-longest
returns-clause-longest g c = omega (
  arith,
  ap length (returns-clause-rest g c),
  length-runs_from-le (map not c.args.self.now.bits) 0,
  length-map c.args.self.now.bits not,
  c.len.ensures.len,
  c.len.ensures.greatest,
)

pub returns-clause-runs : goal.returns-clause-runs
returns-clause-runs g c = runs_in_order

pub returns-clause-runs_back : goal.returns-clause-runs_back
returns-clause-runs_back g c = runs_in_reverse

pub returns-clause-reads : goal.returns-clause-reads
returns-clause-reads g c = let fresh = c.over.ensures.unread (omega arith) in
    fresh.0 ∙ c.blocks-2.ensures.reads

pub returns-clause-left : goal.returns-clause-left
returns-clause-left g c = let fresh = c.over.ensures.unread (omega arith) in
    fresh.1 ∙ ap (λ n. need n g.T.BitBlock.BITS) c.len.ensures.len
