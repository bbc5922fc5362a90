-- The digits stand behind the word.
use Rattle.std.proofs.Common.{refl}
use Rattle.std.specs.Fmt.{decimal}
use Rattle.vob_lines.proofs.WrittenLemmas.{puts_next, puts_failed}
use Rattle.vob_lines.proofs.piece.add_named.Goals as goal

pub returns-in_err-add : goal.returns-in_err-add
returns-in_err-add g c =
    puts_failed _ _ c.args.piece.now c.args.word.now (decimal c.args.n) c.from_residual.result _ _
    refl c.from_residual.ensures.0 c.in_err-add.ensures

pub returns : goal.returns
returns g c =
    puts_next _ _ c.args.piece.now c.args.word.now (decimal c.args.n) c.add_number.result _ _ _
    c.in_ok-add.ensures c.add_number.ensures
