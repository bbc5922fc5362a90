-- The ones that the type counts in the number.
use Rattle.std.proofs.Common.{count_ones, ap, ◌∙◌}
use Rattle.vob_block.proofs.OnesLemmas.{count_ones-places}
use Rattle.vob_block.proofs.word.Word.ones_in.Goals as goal

pub returns : goal.returns
returns g c =
    c.count_ones.ensures ∙ ap count_ones (g.met.Self.Word.bits_law c.args.self)
    ∙ count_ones-places g.Self.Word.BITS (g.Self.Word.number c.args.self) c.in_range.ensures
