-- The first rule that isn't sound is named, and none where there is none.
use Rattle.std.proofs.lemmas.Result.{err_from_is_err_and}
use Rattle.vob_lr.proofs.FaultLemmas.{no_bad_rule, refuses_rule}
use Rattle.vob_lr.proofs.sets.GrammarSets.new.Goals as goal

pub returns-in_err-check_rules-clause-bad_symbol : goal.returns-in_err-check_rules-clause-bad_symbol
returns-in_err-check_rules-clause-bad_symbol c =
    let p = err_from_is_err_and c.from_residual.result c.from_residual.ensures.1 in
    rw (p.1, p.2) (refuses_rule c.args.grammar.now _ c.in_err-check_rules.ensures.err)

pub returns-in_err-nullable-clause-bad_symbol : goal.returns-in_err-nullable-clause-bad_symbol
returns-in_err-nullable-clause-bad_symbol c =
    let refused = c.from_residual-in_err-nullable in
    let p = err_from_is_err_and refused.result refused.ensures.1 in
    let sound = c.in_ok-check_rules.ensures.ok in
    rw (p.1, p.2)
    (λ rule. ((λ e. cc), (λ bad. absurd (no_bad_rule c.args.grammar.now sound rule bad))))

pub returns-clause-bad_symbol : goal.returns-clause-bad_symbol
returns-clause-bad_symbol c =
    let sound = c.in_ok-check_rules.ensures.ok in
    λ rule. ((λ e. cc), (λ bad. absurd (no_bad_rule c.args.grammar.now sound rule bad)))

pub returns-in_err-follow-clause-bad_symbol : goal.returns-in_err-follow-clause-bad_symbol
returns-in_err-follow-clause-bad_symbol c =
    let refused = c.from_residual-in_err-follow in
    let p = err_from_is_err_and refused.result refused.ensures.1 in
    let sound = c.in_ok-check_rules.ensures.ok in
    rw (p.1, p.2)
    (λ rule. ((λ e. cc), (λ bad. absurd (no_bad_rule c.args.grammar.now sound rule bad))))

pub returns-in_err-first-clause-bad_symbol : goal.returns-in_err-first-clause-bad_symbol
returns-in_err-first-clause-bad_symbol c =
    let refused = c.from_residual-in_err-first in
    let p = err_from_is_err_and refused.result refused.ensures.1 in
    let sound = c.in_ok-check_rules.ensures.ok in
    rw (p.1, p.2)
    (λ rule. ((λ e. cc), (λ bad. absurd (no_bad_rule c.args.grammar.now sound rule bad))))
