-- The blocks hold the bits.
use Rattle.std.proofs.Common.{◌∙◌, ap, map, sym}
use Rattle.vob_block.specs.Packing.{packing}
use Rattle.vob_slots.proofs.SummaryLemmas.{unpacked}
use Rattle.vob_slots.proofs.search.Level.of.Goals as goal

pub returns-clause-bits : goal.returns-clause-bits
returns-clause-bits c =
    unpacked c.args.vob.now.bits (map (λ block. block) c.blocks-2.result.items) c.blocks-2.ensures.blocks c.len.result
    c.len.ensures.len

pub invariant_of-result : goal.invariant_of-result
invariant_of-result c = c.blocks-2.ensures.blocks ∙ ap (λ bits. packing bits 64) (sym (returns-clause-bits c))
