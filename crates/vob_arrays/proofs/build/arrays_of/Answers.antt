-- All entries and all rules.
use Rattle.std.proofs.Common.{◌∙◌, ℕ, ◌+◌, ap, length, map, refl}
use Rattle.vob_lr.specs.Lookaheads.{Machine}
use Rattle.vob_lr.specs.declared.grammar.Grammar.{Grammar}
use Rattle.vob_lr.specs.declared.grammar.Rule.{Rule}
use Rattle.vob_arrays.specs.Arrays.{owned_view, right_numbers}
use Rattle.vob_arrays.specs.declared.build.Entry.{Entry}
use Rattle.vob_arrays.proofs.BuiltLemmas.{built_table}
use Rattle.vob_arrays.proofs.build.arrays_of.Goals as goal

pub returns-clause-table : goal.returns-clause-table
returns-clause-table c =
    let table = c.args.table.now in
    let grammar = c.grammar-grammar.ensures ∙ c.items.ensures
    ∙ ap (λ (m : Machine). m.grammar) c.lookaheads.ensures.machine in
    let terminals = ap (λ (g : Grammar). g.terminals) grammar in
    let rules = ap (λ (g : Grammar). g.rules.items) grammar in
    built_table table c.lookaheads.ensures.sound c.in_ok-offsets.offsets.items c.in_ok-offsets.entries.items
    c.in_ok-offsets.ensures (owned_view (record {
      terminals = c.grammar-grammar.result.now.terminals;
      offsets = c.in_ok-offsets.offsets;
      symbols = c.in_ok-symbols_of.field-0;
      actions = c.in_ok-actions_of.field-0;
      left = c.in_ok-left_of.field-0;
      lengths = c.in_ok-lengths_of.field-0;
      right = c.in_ok-right_of.field-0;
    })) terminals refl
    (c.in_ok-symbols_of.ensures ∙ ap (map (λ (entry : Entry). entry.symbol)) c.deref.ensures.value)
    (c.in_ok-actions_of.ensures ∙ ap (map (λ (entry : Entry). entry.action)) c.deref-2.ensures.value)
    (c.in_ok-left_of.ensures
    ∙ ap (λ (n : ℕ). map (λ (rule : Rule). n + rule.left) c.deref-3.result.now) terminals
    ∙ ap (map (λ (rule : Rule). table.machine.grammar.terminals + rule.left)) (c.deref-3.ensures.value ∙ rules))
    (c.in_ok-lengths_of.ensures
    ∙ ap (map (λ (rule : Rule). length rule.right.items)) (c.deref-4.ensures.value ∙ rules))

pub returns-clause-right : goal.returns-clause-right
returns-clause-right c =
    let grammar = c.grammar-grammar.ensures ∙ c.items.ensures
    ∙ ap (λ (m : Machine). m.grammar) c.lookaheads.ensures.machine in
    c.in_ok-right_of.ensures
    ∙ ap (λ (n : ℕ). right_numbers n c.deref-5.result.now) (ap (λ (g : Grammar). g.terminals) grammar)
    ∙ ap (right_numbers c.args.table.now.machine.grammar.terminals)
    (c.deref-5.ensures.value ∙ ap (λ (g : Grammar). g.rules.items) grammar)
