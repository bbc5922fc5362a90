-- The choice is made of the cell.
use Rattle.std.proofs.Common.{refl}
use Rattle.files_grammar.proofs.ConflictLemmas.{made_choice}
use Rattle.files_grammar.proofs.conflicts.choice_of.Goals as goal

pub returns-clause-some : goal.returns-clause-some
returns-clause-some c =
    let error = rw c.lookaheads-states.ensures.machine at c.is_error-is_error.ensures in (
      made_choice c.args.file.now c.args.table.now c.args.state c.args.terminal c.in-Some.cell.now
          c.is_error-is_error.result c.in_ok-rules.rules.items c.in-Some.ensures.some error c.in_ok-rules.ensures,
      refl,
      refl,
    )
