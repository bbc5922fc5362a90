-- The entry of the move.
use Rattle.std.proofs.Common.{◌≡◌, ◌+◌, ◌*◌, arith}
use Rattle.vob_arrays.proofs.AppendLemmas.{appends_one}
use Rattle.vob_arrays.proofs.MoveLemmas.{one_move}
use Rattle.vob_arrays.proofs.build.push_move.Goals as goal

pub returns-in_ok-push : goal.returns-in_ok-push
returns-in_ok-push c =
    let own = c.args.own in
    let symbol : c.in-Some.symbol ≡ c.args.terminals + c.in-Nonterminal.nonterminal =
    omega (arith, c.in-Some.ensures) in
    let action : c.in_ok-action.action ≡ 4 * own.state = omega (arith, c.in_ok-action.ensures) in
    rw c.in_ok-push.ensures.items (appends_one c.args.entries.now.items c.in-Some.symbol c.in_ok-action.action
    (one_move c.args.terminals c.in-Nonterminal.nonterminal own c.in-Some.symbol c.in_ok-action.action
    c.in-Nonterminal.is symbol action))
