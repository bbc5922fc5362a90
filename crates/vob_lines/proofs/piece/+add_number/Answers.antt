-- The last digit stands behind those of a tenth.
use Rattle.std.proofs.Common.{◌/◌, ◌%◌, ◌+◌, [], ◌∷◌, sym, arith}
use Rattle.std.specs.Fmt.{decimal}
use Rattle.std.proofs.lemmas.Fmt.{decimal_digit, decimal_step}
use Rattle.vob_lines.proofs.WrittenLemmas.{puts_next, puts_failed}
use Rattle.vob_lines.proofs.piece.+add_number.Goals as goal

-- one digit
pub returns-then-n-lt10 : goal.returns-then-n-lt10
returns-then-n-lt10 g t c = rw (decimal_digit c.args.n c.if-n-lt10.true) c.add.ensures

pub returns-in_err-add_number : goal.returns-in_err-add_number
returns-in_err-add_number g t c =
    puts_failed _ _ c.args.piece.now (decimal (c.args.n / 10)) ((48 + c.args.n % 10) ∷ [])
    c.from_residual.result _ _ (sym (decimal_step c.args.n c.if-n-lt10.false (omega arith)))
    c.from_residual.ensures.0 c.in_err-add_number.ensures

pub returns : goal.returns
returns g t c =
    rw (decimal_step c.args.n c.if-n-lt10.false (omega arith))
    (puts_next _ _ c.args.piece.now (decimal (c.args.n / 10)) ((48 + c.args.n % 10) ∷ []) c.add-2.result
    _ _ _ c.in_ok-add_number.ensures c.add-2.ensures)
