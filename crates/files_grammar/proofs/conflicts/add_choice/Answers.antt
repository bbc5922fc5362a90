-- A conflict is the next, and no other choice is one.
use Rattle.std.proofs.Common.{◌∙◌, sym}
use Rattle.std.proofs.lemmas.Bool.{false≢true}
use Rattle.files_grammar.proofs.ConflictLemmas.{found_with, found_without, no_cell, no_more}
use Rattle.files_grammar.proofs.conflicts.add_choice.Goals as goal

pub returns-in_default : goal.returns-in_default
returns-in_default c =
    let none = rw c.in_default.is at c.in_ok-found.ensures.none in
    found_without c.args.file.now c.args.table.now c.args.state c.args.terminal c.args.choices.now.items
    c.requires.before (no_cell c.args.file.now c.args.table.now c.args.state c.args.terminal none)

pub returns-then-not-is_conflict : goal.returns-then-not-is_conflict
returns-then-not-is_conflict c =
    let some = rw c.in-Some.is at c.in_ok-found.ensures.some in
    found_without c.args.file.now c.args.table.now c.args.state c.args.terminal c.args.choices.now.items
    c.requires.before
    (no_more c.args.file.now c.args.table.now c.args.state c.args.terminal c.in-Some.choice some.0 some.1 some.2
    (λ more. false≢true (sym c.if-not-is_conflict.true ∙ c.is_conflict.ensures.1 more)))

pub returns : goal.returns
returns c =
    let some = rw c.in-Some.is at c.in_ok-found.ensures.some in
    rw c.in_ok-push.ensures.items
    (found_with c.args.file.now c.args.table.now c.args.state c.args.terminal c.args.choices.now.items
    c.requires.before c.in-Some.choice
    (record {
      entered = rw some.1 c.requires.entered;
      choice_is = some.0;
      more = c.is_conflict.ensures.0 c.if-not-is_conflict.false;
    }) some.1 some.2)
