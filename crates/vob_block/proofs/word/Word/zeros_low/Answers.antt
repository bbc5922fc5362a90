-- The zeros that the type counts in the number.
use Rattle.std.specs.Int.{trailing_zeros}
use Rattle.std.proofs.Common.{ap, ◌∙◌}
use Rattle.vob_block.proofs.ZeroLemmas.{HasZerosLow-trailing}
use Rattle.vob_block.proofs.word.Word.zeros_low.Goals as goal

pub returns : goal.returns
returns g c =
    let w = g.Self.FixedWidth.width in
    HasZerosLow-trailing w g.Self.Word.BITS (g.Self.Word.number c.args.self) _
    g.met.Self.Word.width_law c.in_range.ensures
    (c.trailing_zeros.ensures ∙ ap (trailing_zeros w) (g.met.Self.Word.bits_law c.args.self))
