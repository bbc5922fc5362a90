-- The last symbol was read, or replaced by the last rule that is left.
use Rattle.std.proofs.Common.{◌∷◌, [], Some, ap, ◌∙◌, ◌++◌, ◌-◌, get_or, List, subst, sym}
use Rattle.vob_lr.specs.Unwinding.{IsUndone}
use Rattle.vob_lr.specs.declared.grammar.Symbol.{Symbol}
use Rattle.vob_lr.proofs.UnwindLemmas.{last_left, unread, unreduced}
use Rattle.vob_lr.proofs.tree.undo.Goals as goal

pub overflow_sub-last : goal.overflow_sub-last
overflow_sub-last c =
    (last_left c.args.rules.now c.args.parsed.now c.args.form.now.items c.args.symbol c.in-Nonterminal.field-0
    c.args.left.now c.in-Nonterminal.is c.requires).some

pub bounds-parsed-last : goal.bounds-parsed-last
bounds-parsed-last c =
    (last_left c.args.rules.now c.args.parsed.now c.args.form.now.items c.args.symbol c.in-Nonterminal.field-0
    c.args.left.now c.in-Nonterminal.is c.requires).inside

pub right_of-requires : goal.right_of-requires
right_of-requires c =
    let last = last_left c.args.rules.now c.args.parsed.now c.args.form.now.items c.args.symbol
    c.in-Nonterminal.field-0 c.args.left.now c.in-Nonterminal.is c.requires in
    last.there

pub returns-in-Terminal : goal.returns-in-Terminal
returns-in-Terminal c =
    unread c.args.rules.now c.args.parsed.now c.args.form.now.items c.args.symbol c.in-Terminal.field-0
    c.args.left.now c.in-Terminal.is

pub returns-in_ok-extend_from_slice-in-Nonterminal : goal.returns-in_ok-extend_from_slice-in-Nonterminal
returns-in_ok-extend_from_slice-in-Nonterminal c =
    let last = last_left c.args.rules.now c.args.parsed.now c.args.form.now.items c.args.symbol
    c.in-Nonterminal.field-0 c.args.left.now c.in-Nonterminal.is c.requires in
    let right = c.right_of.ensures last.rule last.is in
    let undone = unreduced c.args.rules.now c.args.parsed.now c.args.form.now.items c.args.symbol
    c.in-Nonterminal.field-0 c.args.left.now last.rule c.in-Nonterminal.is last.is in
    let items = c.in_ok-extend_from_slice-in-Nonterminal.ensures.items
    ∙ ap (λ (l : List Symbol). c.args.form.now.items ++ l) right in
    subst (λ (l : List Symbol). IsUndone c.args.rules.now c.args.parsed.now
    (c.args.form.now.items ++ c.args.symbol ∷ []) c.args.left.now
    (Some (get_or c.args.parsed.now (c.args.left.now - 1) 0)) l (c.args.left.now - 1)) (sym items) undone
