-- The pairs unpack to the lists combined, and every run gives what is left.
use Rattle.std.specs.declared.ops.Bound.TheVariants.{Unbounded}
use Rattle.std.proofs.Common.{true, sym, ◌∙◌, subst}
use Rattle.vob_walk.specs.Walk.{IsWhole}
use Rattle.vob_walk.proofs.PairsLemmas.{length-combined_same, unpacking-combined}
use Rattle.vob_walk.proofs.WalkLemmas.{walk_runs, walk_runs_back}
use Rattle.vob_walk.proofs.combined.CombinedBits.over.Goals as goal

pub over-requires : goal.over-requires
over-requires g c = rw (c.new.ensures.own, c.new.ensures.other) (length-combined_same
    g.T.BitBlock.number g.T.BitBlock.of_bits g.T.BitBlock.BITS g.C.Combine.of_bits
    c.args.own.items c.args.other.items (c.requires.own ∙ sym c.requires.other) ∙ c.requires.own)

pub returns-clause-whole : goal.returns-clause-whole
returns-clause-whole g c =
    let w = g.T.BitBlock.BITS in
    let number = g.T.BitBlock.number in
    let bits = unpacking-combined number g.T.BitBlock.of_bits w g.C.Combine.of_bits
    g.met.T.BitBlock.of_bits_number_law g.met.T.BitBlock.wide_law c.args.len c.args.own.items
    c.args.other.items c.requires.own c.requires.other in
    subst (λ bs. IsWhole c.over.result bs true Unbounded Unbounded w) bits
    (rw (c.new.ensures.own, c.new.ensures.other) at (c.over.ensures.whole tt))

pub returns-clause-runs : goal.returns-clause-runs
returns-clause-runs g c = walk_runs

pub returns-clause-runs_back : goal.returns-clause-runs_back
returns-clause-runs_back g c = walk_runs_back
