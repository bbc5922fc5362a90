-- The set of the state is read.
use Rattle.std.proofs.Common.{List, ℕ, ◌∙◌, subst}
use Rattle.vob_flow.specs.Lists.{lists_of}
use Rattle.vob_lr.specs.Ahead.{AreAhead}
use Rattle.vob_lr.proofs.StateLemmas.{Extends-itself, state_read}
use Rattle.vob_lr.proofs.state.moves_from.Goals as goal

pub moves_by-requires-clause-ahead : goal.moves_by-requires-clause-ahead
moves_by-requires-clause-ahead c =
    let sets = c.args.sets.now.keys in
    let read = state_read c.args.closures.now.rules.items sets sets c.requires.some
    (Extends-itself c.args.closures.now.rules.items (lists_of sets)) c.args.from c.requires.from
    c.index.result.now c.index.ensures in
    subst (λ (items : List ℕ). AreAhead c.args.closures.now items c.in_ok-ahead.ahead.bits)
    (c.deref.ensures.value ∙ read.0) c.in_ok-ahead.ensures
