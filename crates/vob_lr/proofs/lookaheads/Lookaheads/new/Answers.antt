-- What the states refuse is refused, and nothing else but memory.
use Rattle.std.proofs.Common.{◌≡◌, ℕ, Err, Global, Vec, ap, subst, sym}
use Rattle.std.proofs.lemmas.List.{length-map}
use Rattle.std.proofs.lemmas.Result.{err_from_is_err_and}
use Rattle.vob_flow.specs.Lists.{lists_of}
use Rattle.vob_lr.specs.Nodes.{AreOffsets}
use Rattle.vob_lr.specs.declared.grammar.GrammarError.TheVariants.{BadSymbol}
use Rattle.vob_lr.proofs.StateLemmas.{AreRising-states}
use Rattle.vob_lr.proofs.lookaheads.Lookaheads.new.Goals as goal

pub invariant_of-nodes : goal.invariant_of-nodes
invariant_of-nodes c =
    let sets = c.in_ok-automaton.automaton.sets.items in
    rw (c.deref-2.ensures.value, c.deref-3.ensures.value) (
      AreRising-states c.args.grammar.now.rules.items (lists_of sets) c.in_ok-automaton.ensures.states.each,
      rw c.deref.ensures.value at c.in_ok-offsets.ensures,
    )

pub invariant_of-result : goal.invariant_of-result
invariant_of-result c =
    let same = c.in_ok-items.ensures.grammar in
    let sets = c.in_ok-automaton.automaton.sets.items in
    let count = length-map sets (λ (v : Vec ℕ Global). v.items) in
    rw same (record {
      rules = c.in_ok-check_rules.ensures.ok;
      states = c.in_ok-automaton.ensures.states;
      offsets_of = subst (λ (n : ℕ). AreOffsets (lists_of sets) n c.in_ok-offsets.offsets.items) (sym count)
          (rw c.deref.ensures.value at c.in_ok-offsets.ensures);
      rows_of = rw same at c.in_ok-rows.ensures;
    })

pub returns-in_err-automaton-clause-bad_symbol : goal.returns-in_err-automaton-clause-bad_symbol
returns-in_err-automaton-clause-bad_symbol c =
    let p = err_from_is_err_and c.from_residual.result c.from_residual.ensures.1 in
    rw (p.1, p.2)
    (λ rule.
    let is = c.in_err-automaton.ensures.bad_symbol rule in (
      (λ e.
          let same : c.in_err-automaton.field-0.0 ≡ BadSymbol rule = cc in is.0 (ap Err same)),
      (λ bad.
          let e = is.1 bad in
          let same : c.in_err-automaton.field-0.0 ≡ BadSymbol rule = cc in ap Err same),
    ))

pub returns-in_err-offsets-clause-bad_symbol : goal.returns-in_err-offsets-clause-bad_symbol
returns-in_err-offsets-clause-bad_symbol c =
    let refused = c.from_residual-in_err-offsets in
    let p = err_from_is_err_and refused.result refused.ensures.1 in
    rw (p.1, p.2)
    (λ rule. (
      (λ e. cc),
      (λ bad. let e = (c.in_ok-automaton.ensures.bad_symbol rule).1 bad in cc),
    ))

pub returns-in_err-items-clause-bad_symbol : goal.returns-in_err-items-clause-bad_symbol
returns-in_err-items-clause-bad_symbol c =
    let refused = c.from_residual-in_err-items in
    let p = err_from_is_err_and refused.result refused.ensures.1 in
    rw (p.1, p.2)
    (λ rule. (
      (λ e. cc),
      (λ bad. let e = (c.in_ok-automaton.ensures.bad_symbol rule).1 bad in cc),
    ))

pub returns-in_err-rows-clause-bad_symbol : goal.returns-in_err-rows-clause-bad_symbol
returns-in_err-rows-clause-bad_symbol c =
    let refused = c.from_residual-in_err-rows in
    let p = err_from_is_err_and refused.result refused.ensures.1 in
    rw (p.1, p.2)
    (λ rule. (
      (λ e. cc),
      (λ bad. let e = (c.in_ok-automaton.ensures.bad_symbol rule).1 bad in cc),
    ))

pub returns-clause-bad_symbol : goal.returns-clause-bad_symbol
returns-clause-bad_symbol c = λ rule. (
  (λ e. cc),
  (λ bad. let e = (c.in_ok-automaton.ensures.bad_symbol rule).1 bad in cc),
)
