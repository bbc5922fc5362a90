-- A text that is no UTF-8 is no power.
use Rattle.std.proofs.Common.{◌-◌, arith, drop, length, length-drop, subst, sym}
use Rattle.std.proofs.lemmas.List.{take_all}
use Rattle.std.specs.Str.{IsUtf8}
use Rattle.files_condition.proofs.NumberLemmas.{behind-utf8}
use Rattle.files_condition.proofs.number.power_of.Goals as goal

pub returns-in-Err-clause-none : goal.returns-in-Err-clause-none
returns-in-Err-clause-none c = λ power. c.in-Err.ensures.cases.0 (subst IsUtf8
    (sym (take_all (length c.args.text.now - 1) (drop 1 c.args.text.now) (omega (arith, length-drop 1 c.args.text.now))))
    (behind-utf8 c.args.text.now power.0 power.1))
