-- The zeros that the type counts in the number.
use Rattle.std.specs.Int.{leading_zeros}
use Rattle.std.proofs.Common.{ap, ◌∙◌}
use Rattle.vob_block.proofs.ZeroLemmas.{HasZerosHigh-leading}
use Rattle.vob_block.proofs.word.Word.zeros_high.Goals as goal

pub returns : goal.returns
returns g c =
    let w = g.Self.FixedWidth.width in
    HasZerosHigh-leading w g.Self.Word.BITS (g.Self.Word.number c.args.self) _
    g.met.Self.Word.width_law c.in_range.ensures
    (c.leading_zeros.ensures ∙ ap (leading_zeros w) (g.met.Self.Word.bits_law c.args.self))
