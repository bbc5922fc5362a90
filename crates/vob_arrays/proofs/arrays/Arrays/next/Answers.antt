-- An entry at the symbol of a nonterminal is of a move.
use Rattle.vob_arrays.proofs.EntryLemmas.{move_of, no_move}
use Rattle.vob_arrays.proofs.arrays.Arrays.next.Goals as goal

pub returns-in_err-action-clause-none : goal.returns-in_err-action-clause-none
returns-in_err-action-clause-none c = rw c.from_residual.ensures (λ table n to of symbol.
    no_move table c.args.self.now of c.args.state n c.args.symbol symbol c.in_err-action.ensures.none to)

pub returns-clause-some : goal.returns-clause-some
returns-clause-some c = λ table n of symbol.
    move_of table c.args.self.now of c.args.state n c.args.symbol c.in_ok-action.action symbol
    c.in_ok-action.ensures.some
