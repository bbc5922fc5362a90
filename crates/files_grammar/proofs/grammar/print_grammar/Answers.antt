-- The parts stand one after another.
use Rattle.std.proofs.lemmas.List.Elements.{Contains-get_or}
use Rattle.files_grammar.proofs.ConflictLemmas.{printable}
use Rattle.files_grammar.proofs.GrammarLemmas.{says_grammar}
use Rattle.files_grammar.proofs.grammar.print_grammar.Goals as goal

pub put-requires : goal.put-requires
put-requires g c = λ k d less.
    printable c.args.file.now c.in_ok-table.table c.lookaheads-lookaheads.ensures.sound c.in_ok-states.states
    c.in_ok-states.ensures _ ((c.in_ok-conflicts.ensures.are.each _).0 (Contains-get_or _ k d less))

pub returns-clause-ok : goal.returns-clause-ok
returns-clause-ok g c =
    let counts = rw c.count.ensures at c.in_ok-put_counts.ensures in
    says_grammar c.args.file.now c.args.wants_states c.status_of.result c.in_ok-table.table c.in_ok-states.states
    c.in_ok-conflicts.conflicts _ _ _ _ _ c.in_ok-table.ensures.ok c.lookaheads-lookaheads.ensures.sound
    c.in_ok-states.ensures c.in_ok-conflicts.ensures c.status_of.ensures counts
    c.in_ok-put.ensures c.in_ok-put_sets.ensures c.in_ok-put_wanted.ensures
