-- A node has its turn, and the nodes after it are reached.
use Rattle.std.proofs.Common.{◌∙◌, ◌||◌, List, Bool, [], true, get_or, ap, refl, subst, sym, arith}
use Rattle.vob_block.specs.Packing.{item, unpacking}
use Rattle.vob_block.proofs.PackingLemmas.{length-unpacking}
use Rattle.vob_block.proofs.PointwiseLemmas.{item-pointwise}
use Rattle.vob.specs.Bits.{IsWritten}
use Rattle.vob.proofs.BitsLemmas.{IsWritten-set}
use Rattle.vob_c.specs.Reached.{AreOnTheWay}
use Rattle.vob_c.specs.Rows.{rows_in}
use Rattle.vob_c.proofs.ReachedLemmas.{AreOnTheWay-start, AreOnTheWay-turn, all_reached, fewer_left}
use Rattle.vob_c.proofs.RowsLemmas.{row_here}
use Rattle.vob_c.proofs.reach.spread.Goals as goal
use Rattle.vob_c.proofs.reach.spread.Goals.{After-take_turn}

-- bit `node` of the turns is true
written : (c : After-take_turn) → IsWritten (unpacking c.args.size c.turns.turned 64) c.turns.node true
    (unpacking c.args.size c.take_turn.new.turned 64)
written c =
    let old = unpacking c.args.size c.turns.turned 64 in
    subst (λ (bits : List Bool). IsWritten old c.turns.node true bits)
    (sym c.take_turn.ensures.turned.bits) (IsWritten-set old c.turns.node true
    (omega (arith, c.turns-test.true, length-unpacking c.args.size c.turns.turned 64)))

pub turns-init : goal.turns-init
turns-init c = record {
  reached = c.requires.reached;
  turned = c.requires.turned.canonical;
  way = subst (λ (bits : List Bool). AreOnTheWay (rows_in c.args.size c.args.size c.args.words.now)
      (unpacking c.args.size c.args.reached.now 64) (unpacking c.args.size c.args.reached.now 64) bits)
      (sym c.requires.turned.bits) (AreOnTheWay-start _ _ c.args.size);
  next = c.next_turn-node.ensures;
}

pub turns-preserved : goal.turns-preserved
turns-preserved c =
    let size = c.args.size in
    let words = c.args.words.now in
    let old = unpacking size c.turns.reached 64 in
    let row = get_or (rows_in size size words) c.turns.node [] in
    let long = length-unpacking size c.turns.reached 64
    ∙ sym (row_here size size words c.requires.words _ refl c.turns.node c.turns-test.true).long in
    record {
      reached = c.take_turn.ensures.reached.canonical;
      turned = c.take_turn.ensures.turned.canonical;
      way = AreOnTheWay-turn _ _ _ _ c.turns.invariant.way c.turns.node
          (c.turns.invariant.next.found c.turns-test.true).0 _ _
          (λ j. ap (λ bits. item bits j) c.take_turn.ensures.reached.bits
          ∙ item-pointwise ◌||◌ old row long refl j)
          (written (goal.at.turns-preserved c).After-take_turn);
      next = c.next_turn-node-in-turns.ensures;
    }

pub turns-smaller : goal.turns-smaller
turns-smaller c = fewer_left _ _ c.turns.node (c.turns.invariant.next.found c.turns-test.true).1
    (written (goal.at.turns-smaller c).After-take_turn)

pub returns-clause-reached : goal.returns-clause-reached
returns-clause-reached c = all_reached _ _ _ _ c.turns.invariant.way
    (c.turns.invariant.next.none (omega (arith, c.turns-test.false)))
