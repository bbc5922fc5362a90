-- A grammar without rules is refused first, and then one with a bad rule.
use Rattle.std.proofs.Common.{◌≡◌, ◌==◌, ◌∙◌, ℕ, Err, ap, arith, length, sym, vec_len}
use Rattle.std.proofs.lemmas.Bool.{false≢true}
use Rattle.std.proofs.lemmas.Result.{err_from_is_err_and}
use Rattle.vob_lr.specs.declared.grammar.GrammarError.TheVariants.{BadSymbol, NoRule}
use Rattle.vob_lr.proofs.state.states.Goals as goal

pub returns-in_err-closures-clause-no_rule : goal.returns-in_err-closures-clause-no_rule
returns-in_err-closures-clause-no_rule c =
    let rules = c.args.grammar.now.rules in
    let p = err_from_is_err_and c.from_residual.result c.from_residual.ensures.1 in
    rw (p.1, p.2) (
      (λ e.
          let same : c.in_err-closures.field-0.0 ≡ NoRule = cc in
          absurd (c.in_err-closures.ensures.no_rule (ap Err same))),
      (λ none.
          let zero : vec_len rules ≡ 0 = omega (arith, ap length none) in
          absurd (false≢true (sym c.if-is_empty.false
          ∙ (c.is_empty.ensures ∙ ap (λ (n : ℕ). n == 0) zero)))),
    )

pub returns-in_err-closures-clause-bad_symbol : goal.returns-in_err-closures-clause-bad_symbol
returns-in_err-closures-clause-bad_symbol c =
    let p = err_from_is_err_and c.from_residual.result c.from_residual.ensures.1 in
    rw (p.1, p.2)
    (λ rule.
    let is = c.in_err-closures.ensures.bad_symbol rule in (
      (λ e.
          let same : c.in_err-closures.field-0.0 ≡ BadSymbol rule = cc in is.0 (ap Err same)),
      (λ bad.
          let e = is.1 bad in
          let same : c.in_err-closures.field-0.0 ≡ BadSymbol rule = cc in ap Err same),
    ))

pub returns-in_err-made-clause-bad_symbol : goal.returns-in_err-made-clause-bad_symbol
returns-in_err-made-clause-bad_symbol c =
    let refused = c.from_residual-in_err-made in
    let p = err_from_is_err_and refused.result refused.ensures.1 in
    rw (p.1, p.2)
    (λ rule. (
      (λ e. cc),
      (λ bad. let e = (c.in_ok-closures.ensures.bad_symbol rule).1 bad in cc),
    ))

pub returns-clause-bad_symbol : goal.returns-clause-bad_symbol
returns-clause-bad_symbol c = λ rule. (
  (λ e. cc),
  (λ bad. let e = (c.in_ok-closures.ensures.bad_symbol rule).1 bad in cc),
)
