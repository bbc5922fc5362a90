-- How operators nest in the trees that a parser grows.
use Rattle.std.proofs.Common.{◌≡◌, ℕ, ◌+◌, List, [], ◌∷◌, ◌++◌, length, get_or, Option, Some, slice_get, refl, sym, ap, ◌∙◌, subst}
use Rattle.vob_lr.specs.Grammar.BeginsWith.{here as first_of}
use Rattle.vob_lr.specs.Growing.{Grows}
use Rattle.vob_lr.specs.Growing.Grows.{nothing, shifts, reduces}
use Rattle.vob_lr.specs.ItemSets.{HasItem, Opens}
use Rattle.vob_lr.specs.Items.{first_item}
use Rattle.vob_lr.specs.Lookaheads.{HasMove, LooksAhead, Machine, Reduces}
use Rattle.vob_lr.specs.Lookaheads.LooksAhead.{begins, keeps}
use Rattle.vob_lr.specs.Edges.{BeginsLast, EndsFirst, HasNode, IsOnLeftEdge, IsOnRightEdge}
use Rattle.vob_lr.specs.Nesting.{HasLeftOperand, HasRightOperand, OperatorsNest, RuleStays, ShiftStays}
use Rattle.vob_lr.specs.Edges.BeginsLast.{last, behind_leaf as last_past_leaf, behind_node as last_past_node}
use Rattle.vob_lr.specs.Edges.EndsFirst.{first}
use Rattle.vob_lr.specs.Edges.HasNode.{here, inside, behind_leaf, behind_node}
use Rattle.vob_lr.specs.Edges.IsOnLeftEdge.{here as left_here, inside as left_inside}
use Rattle.vob_lr.specs.Edges.IsOnRightEdge.{here as right_here, inside as right_inside, behind_leaf as right_past_leaf, behind_node as right_past_node}
use Rattle.vob_lr.specs.States.{AreStates}
use Rattle.vob_lr.specs.Tables.{AreRowsOfCells, AreSound, TableView, chosen_at, stays_at}
use Rattle.vob_lr.specs.Trees.{Trees}
use Rattle.vob_lr.specs.declared.grammar.Rule.{Rule}
use Rattle.vob_lr.specs.declared.grammar.Symbol.{Symbol}
use Rattle.vob_lr.specs.declared.grammar.Symbol.TheVariants.{Terminal, Nonterminal}
use Rattle.vob_lr.specs.declared.precedence.Precedence.{Precedence}
use Rattle.vob_lr.specs.declared.table.Action.TheVariants.{Reduce, Shift}
use Rattle.vob_lr.proofs.FateLemmas.{one_target}
use Rattle.vob_lr.proofs.GrowingLemmas.{accepted_grows}
use Rattle.vob_lr.proofs.DotLemmas.{IsBefore, complete_of, next_of, next_then, opening, opens, past, same_sides}
use Rattle.vob_lr.proofs.LinkLemmas.{move_inside}
use Rattle.vob_lr.proofs.MemberLemmas.{member_advances, member_closed, move_leads, moves_on}
use Rattle.vob_lr.proofs.StaysLemmas.{rule_left, shift_left}
use Rattle.vob_lr.proofs.TreeLemmas.{last_same}

module _ (table : TableView) (tokens : List ℕ)
    (states : AreStates table.machine.grammar.rules.items table.machine.sets table.machine.moves)
    (sound : AreSound table.machine table.cells) where
  abbrev m : Machine
  m = table.machine

  abbrev rules : List Rule
  rules = table.machine.grammar.rules.items

  -- ---- moves by some symbols

  data Leads (s : ℕ) : ℕ → List Symbol → Type 0 where
    there : Leads s s []
    moves : {q p : ℕ} {x : Symbol} {xs : List Symbol} → HasMove m.moves q x p → Leads s p xs →
        Leads s q (x ∷ xs)

  grown_leads : {q s n k : ℕ} {xs : List Symbol} {f : Trees} → Grows table tokens q xs f n k s →
      Leads s q xs
  grown_leads nothing = there
  grown_leads {q} (shifts {p = p} {t = t} less at action g) = moves (sound.shifts q t p action) (grown_leads g)
  grown_leads (reduces is below action move g) = moves move (grown_leads g)

  -- the last of them
  last_move : {s q : ℕ} {xs : List Symbol} → Leads s q xs → (us : List Symbol) (x : Symbol) →
      xs ≡ us ++ x ∷ [] → (p : ℕ) × HasMove m.moves p x s
  last_move there [] x same = absurd (cc)
  last_move there (u ∷ us) x same = absurd (cc)
  last_move {s} {q} (moves {x = y} move there) [] x same =
      let own : y ≡ x = cc in (q, subst (λ (z : Symbol). HasMove m.moves q z s) own move)
  last_move (moves {x = y} move (moves next leads)) [] x same = absurd (cc)
  last_move (moves {xs = ys} move leads) (u ∷ us) x same =
      let rest : ys ≡ us ++ x ∷ [] = cc in last_move leads us x rest

  -- lookaheads are kept on the way to the end of a rule
  reduces_there : {s q t i r : ℕ} {xs : List Symbol} → Leads s q xs → IsBefore rules i r xs →
      LooksAhead m t q i → Reduces m s t r
  reduces_there {i = i} there dot ahead = (i, complete_of rules dot, ahead)
  reduces_there (moves move leads) dot ahead =
      reduces_there leads (past rules dot) (keeps ahead (next_of rules dot) move)

  -- ---- nodes as they are grown

  -- from state q a node by rule r is grown above these trees, until n tokens are read
  record IsGrown (q n r : ℕ) (below : Trees) : Type 0 where
    rule : Rule
    is : slice_get rules r ≡ Some rule
    from : ℕ
    state : ℕ
    after : ℕ
    grown : Grows table tokens q rule.right.items below from n state
    action : chosen_at table.cells state (get_or tokens n 0) ≡ Some (Reduce r)
    move : HasMove m.moves q (Nonterminal rule.left) after

  one_grown : {q o p n k r : ℕ} {rule : Rule} {below : Trees} → slice_get rules r ≡ Some rule →
      Grows table tokens q rule.right.items below n k o →
      chosen_at table.cells o (get_or tokens k 0) ≡ Some (Reduce r) →
      HasMove m.moves q (Nonterminal rule.left) p → IsGrown q k r below
  one_grown {o = o} {p = p} {n = n} {rule = rule} is grown action move = record {
    rule = rule;
    is = is;
    from = n;
    state = o;
    after = p;
    grown = grown;
    action = action;
    move = move;
  }

  node_grown : {r : ℕ} {below f : Trees} → HasNode r below f → {q s n k : ℕ} {xs : List Symbol} →
      Grows table tokens q xs f n k s → (p : ℕ) × (l : ℕ) × IsGrown p l r below
  node_grown here (reduces {q} {k = k} is below action move g) = (q, k, one_grown is below action move)
  node_grown (inside h) (reduces is below action move g) = node_grown h below
  node_grown (behind_node h) (reduces is below action move g) = node_grown h g
  node_grown (behind_leaf h) (shifts less at action g) = node_grown h g

  -- on the left edge from the same state
  left_grown : {r : ℕ} {f : Trees} → IsOnLeftEdge r f → {q s n k : ℕ} {xs : List Symbol} →
      Grows table tokens q xs f n k s → (l : ℕ) × (below : Trees) × IsGrown q l r below
  left_grown left_here (reduces {k = k} {below = f} is below action move g) =
      (k, f, one_grown is below action move)
  left_grown (left_inside h) (reduces is below action move g) = left_grown h below

  -- and on the right edge until as many tokens are read
  right_grown : {r : ℕ} {f : Trees} → IsOnRightEdge r f → {q s n k : ℕ} {xs : List Symbol} →
      Grows table tokens q xs f n k s → (p : ℕ) × (below : Trees) × IsGrown p k r below
  right_grown right_here (reduces {q} {below = f} is below action move nothing) =
      (q, f, one_grown is below action move)
  right_grown (right_inside h) (reduces is below action move nothing) = right_grown h below
  right_grown (right_past_node h) (reduces is below action move g) = right_grown h g
  right_grown (right_past_leaf h) (shifts less at action g) = right_grown h g

  -- where the last of some trees begins, a node on its left edge does
  record LastFrom (xs : List Symbol) (s v : ℕ) : Type 0 where
    start : ℕ
    left : ℕ
    before : List Symbol
    symbols : xs ≡ before ++ Nonterminal left ∷ []
    move : HasMove m.moves start (Nonterminal left) s
    to : ℕ
    below : Trees
    node_of : IsGrown start to v below

  last_behind : {xs : List Symbol} {s v : ℕ} (x : Symbol) → LastFrom xs s v → LastFrom (x ∷ xs) s v
  last_behind x l = record {
    start = l.start;
    left = l.left;
    before = x ∷ l.before;
    symbols = ap (λ (ys : List Symbol). x ∷ ys) l.symbols;
    move = l.move;
    to = l.to;
    below = l.below;
    node_of = l.node_of;
  }

  last_grown : {v : ℕ} {f : Trees} → BeginsLast v f → {q s n k : ℕ} {xs : List Symbol} →
      Grows table tokens q xs f n k s → LastFrom xs s v
  last_grown (last edge) (reduces {q} {rule = rule} is below action move nothing) =
      let (to, trees, own) = left_grown edge (reduces is below action move nothing) in record {
        start = q;
        left = rule.left;
        before = [];
        symbols = refl;
        move = move;
        to = to;
        below = trees;
        node_of = own;
      }
  last_grown (last_past_node h) (reduces {rule = rule} is below action move g) =
      last_behind (Nonterminal rule.left) (last_grown h g)
  last_grown (last_past_leaf h) (shifts {t = t} less at action g) = last_behind (Terminal t) (last_grown h g)

  -- ---- both sides of an operator

  -- the operator behind a left operand is shifted
  shifted_behind : {q s n k e t : ℕ} {more : List Symbol} {f : Trees} →
      Grows table tokens q (Nonterminal e ∷ Terminal t ∷ more) f n k s →
      (p : ℕ) × (o : ℕ) × HasMove m.moves q (Nonterminal e) p × (chosen_at table.cells p t ≡ Some (Shift o))
  shifted_behind (reduces {p = p} is below action move (shifts {p = o} less at shift g)) = (p, o, move, shift)

  -- a node on the right edge of a left operand is reduced by with the operator ahead
  reduced_before : {q s n k e t v : ℕ} {more : List Symbol} {f : Trees} → EndsFirst v f →
      Grows table tokens q (Nonterminal e ∷ Terminal t ∷ more) f n k s →
      (k : ℕ) × (p : ℕ) × (below : Trees) × IsGrown p k v below × (get_or tokens k 0 ≡ t)
  reduced_before (first edge) (reduces {k = k} is below action move (shifts less at shift g)) =
      let (p, trees, own) = right_grown edge (reduces is below action move nothing) in
      (k, p, trees, own, at)

  -- a state that moves by a nonterminal has the first items of its rules
  opened : (q e p i : ℕ) → HasMove m.moves q (Nonterminal e) p → Opens rules e i → HasItem m.sets q i
  opened q e p i move new =
      let (j, own, next) =
      (move_leads m states q (Nonterminal e) p (move_inside m states q (Nonterminal e) p move) move).ahead in
      member_closed m states q j e i own next new

  module _ (terminals precedences : List (Option Precedence))
      (cells : AreRowsOfCells m terminals precedences (length m.sets) table.cells) where
    -- where it is shifted behind the last operand of a rule
    right_binds : (q n r v e t : ℕ) (below : Trees) → IsGrown q n r below → HasRightOperand rules r e →
        HasLeftOperand rules v e t → BeginsLast v below → ShiftStays (stays_at terminals precedences t r)
    right_binds q n r v e t below g (before, own) (more, other) edge =
        let (left, right) = same_sides rules r e _ g.rule own g.is in
        let l = last_grown edge g.grown in
        let one : Nonterminal l.left ≡ Nonterminal e =
        (last_same l.before before (Nonterminal l.left) (Nonterminal e) (sym l.symbols ∙ right)).1 in
        let named : l.left ≡ e = cc in
        let h = l.node_of in
        let symbols = (same_sides rules v e _ h.rule other h.is).1 in
        let (p, o, move, shift) = shifted_behind
        (subst (λ (ys : List Symbol). Grows table tokens l.start ys l.below h.from l.to h.state) symbols h.grown) in
        let target = one_target m states l.start (Nonterminal e) p g.state move
        (subst (λ (a : ℕ). HasMove m.moves l.start (Nonterminal a) g.state) named l.move) in
        let goto = subst (λ (a : ℕ). HasMove m.moves q (Nonterminal a) g.after) left g.move in
        let begun = opened q e g.after (first_item rules v) goto (opens rules v e _ other) in
        let next = next_then rules (opening rules v e _ other) in
        let ahead = begins begun next first_of (opens rules r e _ own) in
        let leads = subst (λ (ys : List Symbol). Leads g.state q ys) right (grown_leads g.grown) in
        shift_left m terminals precedences table.cells cells g.state t o r
        (subst (λ (s : ℕ). chosen_at table.cells s t ≡ Some (Shift o)) target shift)
        (reduces_there leads (opening rules r e _ own) ahead)

    -- where a rule at the end of the first operand is reduced by before it
    left_binds : (q n r v e t : ℕ) (below : Trees) → IsGrown q n r below → HasLeftOperand rules r e t →
        HasRightOperand rules v e → EndsFirst v below → RuleStays (stays_at terminals precedences t v)
    left_binds q n r v e t below g (more, own) (before, other) edge =
        let right = (same_sides rules r e _ g.rule own g.is).1 in
        let (k, start, trees, h, at) = reduced_before edge
        (subst (λ (ys : List Symbol). Grows table tokens q ys below g.from n g.state) right g.grown) in
        let (p, move) = last_move (grown_leads h.grown) before (Nonterminal e)
        (same_sides rules v e _ h.rule other h.is).1 in
        let first = first_item rules r in
        let dot = opening rules r e _ own in
        let there = opened p e h.state first move (opens rules r e _ own) in
        let behind = member_advances m states p first (Nonterminal e) h.state there (next_of rules dot) move in
        let (o, shift) = moves_on m states h.state (first + 1) (Terminal t) behind (next_of rules (past rules dot)) in
        rule_left m terminals precedences table.cells cells h.state t v o
        (subst (λ (u : ℕ). chosen_at table.cells h.state u ≡ Some (Reduce v)) at h.action) shift

pub operators_nest : OperatorsNest
operators_nest table terminals precedences by tokens parsed a trees own =
    let states = by.sound.states in
    let sound = by.sound.actions in
    let (xs, n, s, grown) = accepted_grows table tokens states sound parsed trees a own in record {
      right = λ r v e t below there right left edge.
          let (q, k, g) = node_grown table tokens states sound there grown in
          right_binds table tokens states sound terminals precedences by.cells q k r v e t below g right left
          edge;
      left = λ r v e t below there left right edge.
          let (q, k, g) = node_grown table tokens states sound there grown in
          left_binds table tokens states sound terminals precedences by.cells q k r v e t below g left right
          edge;
    }
