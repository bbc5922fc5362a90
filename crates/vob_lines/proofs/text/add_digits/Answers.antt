-- Each digit stands behind those before it.
use Rattle.std.proofs.Common.{◌∷◌, [], false, map, ap, sym, arith}
use Rattle.std.proofs.lemmas.List.{map-append}
use Rattle.vob_lines.specs.Spelling.{digit}
use Rattle.vob_lines.proofs.WrittenLemmas.{loop_next, loop_failed}
use Rattle.vob_lines.proofs.text.add_digits.Goals as goal

pub returns-in_err-add : goal.returns-in_err-add
returns-in_err-add g c =
    loop_failed (map digit) (map-append digit) _ _ _ _ _ _ c.args.bits.now c.loop-bit.bit-index false
    (omega arith) (ap (λ d. d ∷ []) (sym c.digit_of.ensures)) c.from_residual.result _
    c.from_residual.ensures.0 c.loop-bit.invariant c.in_err-add.ensures

pub loop-bit-preserved : goal.loop-bit-preserved
loop-bit-preserved g c =
    loop_next (map digit) (map-append digit) _ _ _ _ _ _ c.args.bits.now c.loop-bit.bit-index false
    (omega arith) (ap (λ d. d ∷ []) (sym c.digit_of.ensures)) _ c.loop-bit.invariant
    c.in_ok-add.ensures
