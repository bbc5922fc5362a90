-- The symbol behind the dot of one item more is added.
use Rattle.std.proofs.Common.{◌+◌, ◌∙◌, arith, false, replicate}
use Rattle.std.proofs.lemmas.List.{length-replicate}
use Rattle.vob_lr.specs.Ahead.{HasAhead}
use Rattle.vob_lr.specs.Expansions.{IsByFirst}
use Rattle.vob_lr.proofs.ClosureLemmas.{Gains-both, Gains-none, by_first_more, by_first_none}
use Rattle.vob_lr.proofs.AheadLemmas.{AreAhead-gained}
use Rattle.vob_lr.proofs.ahead.ahead_of.Goals as goal

pub loop-place-init : goal.loop-place-init
loop-place-init c =
    let grammar = c.args.items.now in
    rw (c.in_ok-ahead.ensures.bits, c.in_ok-places.ensures)
    (Gains-none (IsByFirst (HasAhead grammar) c.args.set.now 0)
    (replicate (grammar.terminals + grammar.nonterminals) false)
    (by_first_none (HasAhead grammar) c.args.set.now))

pub look-requires-clause-long : goal.look-requires-clause-long
look-requires-clause-long c =
    c.loop-place.invariant.len ∙ length-replicate _ false

pub loop-place-preserved : goal.loop-place-preserved
loop-place-preserved c =
    let Each = HasAhead c.args.items.now in
    let k = c.loop-place.place in
    Gains-both _ _ _ (IsByFirst Each c.args.set.now k) _ (IsByFirst Each c.args.set.now (k + 1))
    (by_first_more Each c.args.set.now k) c.loop-place.invariant c.look.ensures

pub returns : goal.returns
returns c =
    AreAhead-gained c.args.items.now c.requires c.args.set.now c.loop-place.place (omega arith) _ _
    c.loop-place.invariant
