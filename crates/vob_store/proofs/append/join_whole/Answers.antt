-- Each block is the one that was read.
use Rattle.std.proofs.Common.{map, arith, rules, ◌∙◌}
use Rattle.std.proofs.lemmas.List.{length-map, map-set}
use Rattle.vob_block.proofs.NumberLemmas.{number_read}
use Rattle.vob_store.proofs.BuildLemmas.{AreBuilt-none, AreBuilt-copy, AreBuilt-upto}
use Rattle.vob_store.proofs.append.join_whole.Goals as goal

pub loop-k-init : goal.loop-k-init
loop-k-init g c = record { built = AreBuilt-none; items = search rules; reads = omega arith }

pub loop-k-preserved : goal.loop-k-preserved
loop-k-preserved g c =
    let number = g.T.BitBlock.number in
    let h = c.loop-k.invariant in
    let read = number_read number c.args.other.now.items c.loop-k.k c.block.result
    (rw h.items at c.block.ensures.block) in
    record {
      built = rw map-set (AreBuilt-copy g.T.BitBlock.BITS g.met.T.BitBlock.wide_law
          (map number c.args.other.now.items) (map number c.loop-k.own) c.loop-k.k
          (number c.block.result) h.built
          (omega (arith, length-map c.loop-k.own number, c.loop-k.auto.own)) read);
      items = c.block.ensures.items ∙ h.items;
      reads = omega (arith, c.block.ensures.reads, h.reads);
    }

pub returns-clause-built : goal.returns-clause-built
returns-clause-built g c = AreBuilt-upto _ c.loop-k.invariant.built (omega arith)
