-- What derives tokens becomes empty without terminals.
use Rattle.std.proofs.Common.{◌∙◌, ap, map, refl}
use Rattle.std.proofs.lemmas.Bool.{false≢true}
use Rattle.std.proofs.lemmas.Result.{err_from_is_err_and}
use Rattle.vob_lr.specs.Productive.{bare}
use Rattle.vob_lr.proofs.FaultLemmas.{no_bad_rule}
use Rattle.vob_lr.proofs.ProductiveLemmas.{bare_sound, no_rules, tell_productive}
use Rattle.vob_lr.proofs.bare.productive.Goals as goal

pub returns-in_err-without_terminals-clause-memory :
    goal.returns-in_err-without_terminals-clause-memory
returns-in_err-without_terminals-clause-memory c = λ e none.
    let grammar = c.args.grammar.now in
    false≢true (c.in_err-without_terminals.ensures.nothing (c.deref.ensures.value
    ∙ no_rules grammar.terminals grammar.nonterminals grammar.rules.items
    c.in_ok-check_rules.ensures.ok none))

pub returns-in_err-without_terminals-clause-refused :
    goal.returns-in_err-without_terminals-clause-refused
returns-in_err-without_terminals-clause-refused c =
    let grammar = c.args.grammar.now in
    let refused = c.from_residual-in_err-without_terminals in
    let p = err_from_is_err_and refused.result refused.ensures.1 in
    rw (p.1, p.2) (λ none.
    false≢true (c.in_err-without_terminals.ensures.nothing (c.deref.ensures.value
    ∙ no_rules grammar.terminals grammar.nonterminals grammar.rules.items
    c.in_ok-check_rules.ensures.ok none)))

pub solve_nullable-requires : goal.solve_nullable-requires
solve_nullable-requires c =
    let grammar = c.args.grammar.now in
    let same = c.in_ok-without_terminals.ensures.bare ∙ ap (map bare) c.deref.ensures.value in
    bare_sound c.in_ok-without_terminals.field-0.items grammar.rules.items same grammar.terminals
    grammar.nonterminals c.in_ok-check_rules.ensures.ok

pub returns-in_err-set-clause-bad_symbol : goal.returns-in_err-set-clause-bad_symbol
returns-in_err-set-clause-bad_symbol c =
    let refused = c.from_residual-in_err-set in
    let p = err_from_is_err_and refused.result refused.ensures.1 in
    let sound = c.in_ok-check_rules.ensures.ok in
    rw (p.1, p.2)
    (λ rule. ((λ e. cc), (λ bad. absurd (no_bad_rule c.args.grammar.now sound rule bad))))

pub returns-clause-productive : goal.returns-clause-productive
returns-clause-productive c =
    let same = c.in_ok-without_terminals.ensures.bare ∙ ap (map bare) c.deref.ensures.value in
    tell_productive c.args.grammar.now _ c.in_ok-set.set.bits refl same c.in_ok-set.ensures.nullable

pub returns-clause-bad_symbol : goal.returns-clause-bad_symbol
returns-clause-bad_symbol c =
    let sound = c.in_ok-check_rules.ensures.ok in
    λ rule. ((λ e. cc), (λ bad. absurd (no_bad_rule c.args.grammar.now sound rule bad)))
