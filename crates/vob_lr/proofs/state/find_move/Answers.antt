-- The half that may have the move is left.
use Rattle.std.proofs.Common.{◌+◌, ◌-◌, ◌/◌, ◌∙◌, arith, refl, sym}
use Rattle.std.proofs.lemmas.Bool.{false≢true}
use Rattle.vob_lr.proofs.MoveLemmas.{IsHalved-down, IsHalved-none, IsHalved-up, IsHalved-whole, move_found, move_none}
use Rattle.vob_lr.proofs.state.find_move.Goals as goal

pub halves-init : goal.halves-init
halves-init c = IsHalved-whole c.args.moves.now c.args.symbol _ refl

pub returns-then-is_by : goal.returns-then-is_by
returns-then-is_by c =
    move_found c.args.moves.now c.requires c.args.symbol
    (c.halves.start + (c.halves.end - c.halves.start) / 2) _ (omega (arith, c.halves.invariant.inside))
    (c.is_by.ensures.0 c.if-is_by.true)

pub halves-preserved-then-comes_before : goal.halves-preserved-then-comes_before
halves-preserved-then-comes_before c =
    IsHalved-up c.args.moves.now c.args.symbol c.requires c.halves.start c.halves.end
    (c.halves.start + (c.halves.end - c.halves.start) / 2) c.halves.invariant (omega arith) _
    (c.comes_before.ensures.0 c.if-comes_before.true)

pub halves-preserved : goal.halves-preserved
halves-preserved c =
    IsHalved-down c.args.moves.now c.args.symbol c.requires c.halves.start c.halves.end
    (c.halves.start + (c.halves.end - c.halves.start) / 2) c.halves.invariant (omega arith) _
    (λ same. false≢true (sym c.if-is_by.false ∙ c.is_by.ensures.1 same))
    (λ before. false≢true (sym c.if-comes_before.false ∙ c.comes_before.ensures.1 before))

pub returns : goal.returns
returns c =
    move_none c.args.moves.now c.args.symbol
    (IsHalved-none c.args.moves.now c.args.symbol c.halves.start c.halves.end c.halves.invariant (omega arith))
