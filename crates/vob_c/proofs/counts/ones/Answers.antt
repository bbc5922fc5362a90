-- All bits are those below their number.
use Rattle.std.proofs.Common.{◌∙◌, ap, arith, true}
use Rattle.std.proofs.lemmas.List.{take_all}
use Rattle.vob_block.specs.Packing.{unpacking}
use Rattle.vob_block.proofs.PackingLemmas.{length-unpacking}
use Rattle.vob.specs.Bits.{count_of}
use Rattle.vob_c.proofs.counts.ones.Goals as goal

pub returns : goal.returns
returns c = c.ones_below.ensures ∙ ap (count_of true) (take_all c.args.bits
    (unpacking c.args.bits c.args.words.now 64)
    (omega (arith, length-unpacking c.args.bits c.args.words.now 64)))
