-- One state more has its moves.
use Rattle.std.proofs.Common.{◌≡◌, ◌<◌, ◌∷◌, [], ℕ, Vec, Global, arith, length, subst}
use Rattle.std.proofs.lemmas.List.{length-map, map-append}
use Rattle.vob_flow.specs.Lists.{lists_of}
use Rattle.vob_lr.specs.Rounds.{AreMovesFrom, rows_of}
use Rattle.vob_lr.specs.declared.state.Move.{Move}
use Rattle.vob_lr.proofs.StateLemmas.{AreRounds-start, AreRounds-step, AreStates-whole, entered_first}
use Rattle.vob_lr.proofs.state.states_of.Goals as goal

pub rounds-init : goal.rounds-init
rounds-init c =
    rw (entered_first (rw c.new-sets.ensures.empty at c.in_ok-enter.ensures), c.new-moves.ensures.items)
    (AreRounds-start c.args.closures.now.rules.items c.in_ok-start.field-0.items
    c.in_ok-start.ensures)

pub rounds-preserved : goal.rounds-preserved
rounds-preserved c =
    let sets = c.rounds.sets.keys in
    let moves = c.rounds.moves.items in
    let total = length-map sets (λ v. v.items) in
    let count = length-map moves (λ (list : Vec Move Global). list.items) in
    let here : c.len-in-rounds-2.result ≡ length (rows_of moves) =
    omega (arith, c.len-in-rounds-2.ensures, count) in
    let low : length (rows_of moves) < length (lists_of sets) = omega (arith, count, total) in
    rw (
      c.in_ok-push.ensures.items,
      map-append (λ (list : Vec Move Global). list.items) moves (c.in_ok-row.row ∷ []),
    )
    (AreRounds-step c.args.closures.now (lists_of sets) (rows_of moves) c.rounds.invariant low
    (lists_of c.moves_from.new.sets.keys) c.in_ok-row.row.items
    (subst (λ (n : ℕ). AreMovesFrom c.args.closures.now (lists_of sets) n
    (lists_of c.moves_from.new.sets.keys) c.in_ok-row.row.items) here c.in_ok-row.ensures))

pub returns : goal.returns
returns c =
    let sets = c.rounds.sets.keys in
    let moves = c.rounds.moves.items in
    let total = length-map sets (λ v. v.items) in
    let count = length-map moves (λ (list : Vec Move Global). list.items) in
    rw c.in_ok-sets.ensures (AreStates-whole c.args.closures.now.rules.items (lists_of sets) (rows_of moves)
    c.rounds.invariant (omega (arith, count, total)))
