-- A parser of operations follows each tree that nests as precedences say.
use Rattle.std.proofs.Common.{◌≡◌, ◌⊎◌, ℕ, ◌+◌, inl, inr, List, [], ◌∷◌, ◌++◌, get_or, drop, take, None, Option, Some, refl, sym, ap, ◌∙◌, subst, arith, length}
use Rattle.std.proofs.lemmas.List.{take-append-drop, length-reverse}
use Rattle.std.proofs.lemmas.Option.{same_Some}
use Rattle.vob_lr.specs.Grammar.BecomesEmpty.{nothing as empty_nothing}
use Rattle.vob_lr.specs.Grammar.BeginsWith.{here as first_of}
use Rattle.vob_lr.specs.Growing.{Grows}
use Rattle.vob_lr.specs.Growing.Grows.{nothing as no_growth, shifts, reduces}
use Rattle.vob_lr.specs.ItemSets.{HasItem, Opens}
use Rattle.vob_lr.specs.ItemSets.InClosure.{inside}
use Rattle.vob_lr.specs.Items.{Completes, HasNext, first_item}
use Rattle.vob_lr.specs.Languages.{rules_of}
use Rattle.vob_lr.specs.Lookaheads.{HasMove, HasNextThen, LooksAhead, Machine, Reduces}
use Rattle.vob_lr.specs.Lookaheads.LooksAhead.{begins, passes, keeps}
use Rattle.vob_lr.specs.Nesting.{IsByPrecedences, HasRightOperand, Replaces, ShiftStays}
use Rattle.vob_lr.specs.Operations.{AreDecisive, IsOperator}
use Rattle.vob_lr.specs.OperatorTables.{AcceptedAreNested, IsOperatorGrammar, NestedAreParsed}
use Rattle.vob_lr.specs.States.{AreStates}
use Rattle.vob_lr.specs.Stops.{AcceptsBy}
use Rattle.vob_lr.specs.Tables.{TableView, chosen_at, stays_at}
use Rattle.vob_lr.specs.Trees.{AreTrees, AreTreesOf, Trees, reductions}
use Rattle.vob_lr.specs.Trees.Trees.{none, leaf, node}
use Rattle.vob_lr.specs.declared.grammar.Rule.{Rule}
use Rattle.vob_lr.specs.declared.grammar.Symbol.{Symbol}
use Rattle.vob_lr.specs.declared.grammar.Symbol.TheVariants.{Terminal, Nonterminal}
use Rattle.vob_lr.specs.declared.precedence.Precedence.{Precedence}
use Rattle.vob_lr.specs.declared.precedence.Stays.{Stays}
use Rattle.vob_lr.specs.declared.precedence.Stays.TheVariants.{Rule as OneRule}
use Rattle.vob_lr.specs.declared.table.Action.TheVariants.{Shift}
use Rattle.vob_lr.proofs.DoneLemmas.{ahead_terminal, move_terminal}
use Rattle.vob_lr.proofs.DotLemmas.{IsBefore, complete_not, complete_of, complete_rule, next_none, next_of, next_same, next_then, opening, opens, past, same_sides}
use Rattle.vob_lr.specs.Operations.AreOperands.{last as last_operand}
use Rattle.vob_lr.proofs.FateLemmas.{never_longer, never_stuck}
use Rattle.vob_lr.proofs.GrowingLemmas.{grows_on, join, moved}
use Rattle.vob_lr.proofs.KernelLemmas.{IsAt, IsBehind, at_behind, at_reduces, at_stays, behind_moves, behind_reduces, goto_enclosing, goto_first, goto_next, goto_operand, goto_operator, no_terminal, only_e, start_at}
use Rattle.vob_lr.proofs.MemberLemmas.{ahead_inside, member_advances, member_closed, moves_on}
use Rattle.vob_lr.proofs.OperatorLemmas.{fewer, rule_alone, Reads, Stops, Takes, Task, reads_all}
use Rattle.vob_lr.proofs.OperatorLemmas.Reads.{head, stop, further, nothing, token, enclosed, last}
use Rattle.vob_lr.proofs.OperatorLemmas.Task.{operand, more, symbols}
use Rattle.vob_lr.proofs.NestingLemmas.{operators_nest}
use Rattle.vob_lr.proofs.ParseLemmas.{parse_accepted}
use Rattle.vob_lr.proofs.PushedLemmas.{IsToken, accepted_of, first_ahead, get_or-drop, token_at}
use Rattle.vob_lr.proofs.TreeLemmas.{last_same, parses_have_trees}
use Rattle.vob_lr.proofs.SetLemmas.{set_inside}
use Rattle.vob_lr.proofs.StaysLemmas.{rule_chosen, shift_chosen}

module _ (table : TableView) (tokens : List ℕ) (terminals precedences : List (Option Precedence)) (e : ℕ)
    (by : IsByPrecedences table terminals precedences)
    (of : IsOperatorGrammar table.machine.grammar.rules.items e)
    (decisive : AreDecisive table.machine.grammar.rules.items e (stays_at terminals precedences)) where
  abbrev m : Machine
  m = table.machine

  abbrev rules : List Rule
  rules = table.machine.grammar.rules.items

  states : AreStates table.machine.grammar.rules.items table.machine.sets table.machine.moves
  states = by.sound.states

  abbrev which : ℕ → ℕ → Stays
  which = stays_at terminals precedences

  -- state q has item i, behind whose dot these symbols stand, and what that brings
  record IsPlace (q i r : ℕ) (xs : List Symbol) : Type 0 where
    at : IsAt m e states of q i
    there : HasItem m.sets q i
    dot : IsBefore rules i r xs

  -- what comes behind an operand: a token that is no operator, or what comes behind its rule
  abbrev Comes : Option ℕ → ℕ → List Symbol → List ℕ → ℕ → ℕ → Type 0
  Comes None r xs us q i =
      (u : ℕ) × (ys : List Symbol) × (xs ≡ Terminal u ∷ ys) × (¬ IsOperator rules e u) × (first_ahead us ≡ u)
  Comes (Some v) r xs us q i = (v ≡ r) × (xs ≡ []) × LooksAhead m (first_ahead us) q i

  -- an operand is grown
  record HasOperand (c : Option ℕ) (q n : ℕ) (z : Trees) (us : List ℕ) : Type 0 where
    to : ℕ
    state : ℕ
    grown : Grows table tokens q (Nonterminal e ∷ []) z n to state
    left : drop to tokens ≡ us
    stops : Stops rules e which c us

  -- the symbols of rule r are grown, and the rule is complete
  record HasEnd (q n r : ℕ) (xs : List Symbol) (f : Trees) (us : List ℕ) : Type 0 where
    to : ℕ
    state : ℕ
    item : ℕ
    grown : Grows table tokens q xs f n to state
    left : drop to tokens ≡ us
    dot : IsBefore rules item r []
    behind : IsBehind m e states of state item
    ahead : LooksAhead m (first_ahead us) state item
    stays : (p : ℕ) → HasMove m.moves state (Terminal (first_ahead us)) p → which (first_ahead us) r ≡ OneRule

  -- ---- what comes behind an operand

  before_same : {i r : ℕ} {xs ys : List Symbol} → xs ≡ ys → IsBefore rules i r xs → IsBefore rules i r ys
  before_same {i} {r} same dot = subst (λ (zs : List Symbol). IsBefore rules i r zs) same dot

  -- the next symbol is a token, and no operator
  comes_next : (c : Option ℕ) (q i r : ℕ) (xs : List Symbol) (us : List ℕ) → Comes c r xs us q i →
      IsBefore rules (i + 1) r xs → (y : Symbol) → HasNext rules (i + 1) y →
      (u : ℕ) × (y ≡ Terminal u) × ¬ IsOperator rules e u
  comes_next None q i r xs us (u, ys, same, not, is) dot y next =
      (u, sym (next_same rules (before_same same dot) y next), not)
  comes_next (Some v) q i r xs us (named, empty, ahead) dot y next =
      absurd (next_none rules (before_same empty dot) y next)

  comes_operand : (c : Option ℕ) (q i r : ℕ) (xs : List Symbol) (us : List ℕ) → Comes c r xs us q i →
      IsBefore rules (i + 1) r xs → (a : ℕ) → HasNext rules (i + 1) (Nonterminal a) → ⊥
  comes_operand c q i r xs us comes dot a next =
      let (u, same, not) = comes_next c q i r xs us comes dot (Nonterminal a) next in
      no_terminal u a (sym same)

  comes_token : (c : Option ℕ) (q i r t : ℕ) (xs : List Symbol) (us : List ℕ) → Comes c r xs us q i →
      IsBefore rules (i + 1) r xs → IsOperator rules e t → ¬ HasNext rules (i + 1) (Terminal t)
  comes_token c q i r t xs us comes dot op next =
      let (u, same, not) = comes_next c q i r xs us comes dot (Terminal t) next in
      let named : t ≡ u = cc in not (subst (λ (n : ℕ). IsOperator rules e n) named op)

  comes_rule : (c : Option ℕ) (q i r t w : ℕ) (xs : List Symbol) (us : List ℕ) → Comes c r xs us q i →
      IsBefore rules (i + 1) r xs → Takes rules e which c t → Completes rules w (i + 1) →
      ShiftStays (which t w)
  comes_rule None q i r t w xs us (u, ys, same, not, is) dot takes done =
      absurd (complete_not rules (before_same same dot) done)
  comes_rule (Some v) q i r t w xs us (named, empty, ahead) dot takes done =
      subst (λ (n : ℕ). ShiftStays (which t n)) (named ∙ sym (complete_rule rules (before_same empty dot) done))
      takes.1

  comes_ahead : (c : Option ℕ) (q i r j : ℕ) (xs : List Symbol) (us : List ℕ) → Comes c r xs us q i →
      IsPlace q i r (Nonterminal e ∷ xs) → Opens rules e j → LooksAhead m (first_ahead us) q j
  comes_ahead None q i r j xs us (u, ys, same, not, is) place opens =
      subst (λ (t : ℕ). LooksAhead m t q j) (sym is)
      (begins place.there
      (subst (λ (zs : List Symbol). HasNextThen rules i e zs) same (next_then rules place.dot)) first_of opens)
  comes_ahead (Some v) q i r j xs us (named, empty, ahead) place opens =
      passes ahead (subst (λ (zs : List Symbol). HasNextThen rules i e zs) empty (next_then rules place.dot))
      empty_nothing opens

  more_ahead : {c : Option ℕ} {z f : Trees} {ts us : List ℕ} →
      Reads rules e which (more c z) ts f us → (ts ≡ us) ⊎ IsOperator rules e (first_ahead ts)
  more_ahead (stop stops) = inl refl
  more_ahead (further {r = r} {xs = xs} own takes reads on) = inr (r, (xs, own))

  -- what is ahead of a rule of e there
  operand_ahead : (c : Option ℕ) (q i r j : ℕ) (xs : List Symbol) (ts us : List ℕ) →
      (ts ≡ us) ⊎ IsOperator rules e (first_ahead ts) → Comes c r xs us q i →
      IsPlace q i r (Nonterminal e ∷ xs) → Opens rules e j → LooksAhead m (first_ahead ts) q j
  operand_ahead c q i r j xs ts us (inl same) comes place new =
      subst (λ (vs : List ℕ). LooksAhead m (first_ahead vs) q j) (sym same)
      (comes_ahead c q i r j xs us comes place new)
  operand_ahead c q i r j xs ts us (inr (v, (ys, own))) comes place new =
      begins (member_closed m states q i e (first_item rules v) place.there (next_of rules place.dot)
      (opens rules v e _ own)) (next_then rules (opening rules v e _ own)) first_of new

  -- ---- actions

  -- a node by rule r
  closed : {q p n r : ℕ} {right : List Symbol} {f : Trees} {us : List ℕ} → Replaces rules r e right →
      HasMove m.moves q (Nonterminal e) p → (h : HasEnd q n r right f us) →
      Grows table tokens q (Nonterminal e ∷ []) (node r f none) n h.to p
  closed {q} {p} {n} {r} {right} {f} {us} (rule, is, left, same) move h =
      let t = first_ahead us in
      let action = rule_chosen m terminals precedences table.cells by.cells h.state t r
      (set_inside m.sets h.state h.item (ahead_inside m states h.ahead))
      (ahead_terminal m states by.sound.rules h.ahead)
      (h.item, complete_of rules h.dot, h.ahead)
      (λ s reduce. complete_rule rules h.dot
      (behind_reduces m e states of h.state h.item t s h.behind reduce)) h.stays in
      let token : get_or tokens h.to 0 ≡ t = get_or-drop tokens h.to ∙ ap first_ahead h.left in
      subst (λ (a : ℕ). Grows table tokens q (Nonterminal a ∷ []) (node r f none) n h.to p) left
      (reduces is (subst (λ (xs : List Symbol). Grows table tokens q xs f n h.to h.state) (sym same) h.grown)
      (ap (λ (u : ℕ). chosen_at table.cells h.state u) token ∙ action)
      (subst (λ (a : ℕ). HasMove m.moves q (Nonterminal a) p) (sym left) move) no_growth)

  stays_last : (r : ℕ) (us : List ℕ) → Stops rules e which (Some r) us → HasRightOperand rules r e →
      IsOperator rules e (first_ahead us) → which (first_ahead us) r ≡ OneRule
  stays_last r [] stops right op = absurd (of.no_end op)
  stays_last r (t ∷ us) stops right op =
      rule_alone (which t r) (stops t us refl op) (decisive r t right op)

  right_operand : (i r : ℕ) (right : List Symbol) → Replaces rules r e right →
      IsBefore rules i r (Nonterminal e ∷ []) → HasRightOperand rules r e
  right_operand i r right (rule, is, left, same) dot =
      let own = same_Some rule dot.rule (sym is ∙ dot.is) in
      let items = dot.rule.right.items in
      let parts = sym (take-append-drop dot.dot items) ∙ ap (λ ys. take dot.dot items ++ ys) dot.rest in
      (take dot.dot items, (dot.rule, dot.is, ap (λ (x : Rule). x.left) (sym own) ∙ left, parts))

  -- ---- one step after another

  abbrev Goal : Task rules e which → List ℕ → Trees → List ℕ → Type 0
  Goal (operand c) ts z us = (q i r n : ℕ) (xs : List Symbol) → IsPlace q i r (Nonterminal e ∷ xs) →
      Comes c r xs us q i → drop n tokens ≡ ts → HasOperand c q n z us
  Goal (more c f) ts z us = (q i r n k p : ℕ) (xs : List Symbol) → IsPlace q i r (Nonterminal e ∷ xs) →
      Comes c r xs us q i → Grows table tokens q (Nonterminal e ∷ []) f n k p → drop k tokens ≡ ts →
      HasOperand c q n z us
  Goal (symbols r xs) ts f us = (q i n : ℕ) (right : List Symbol) → Replaces rules r e right →
      IsPlace q i r xs → LooksAhead m (first_ahead us) q i → drop n tokens ≡ ts → HasEnd q n r xs f us

  -- token t is shifted in state q, and behind it there is a place of rule v
  record IsEntered (q t j v : ℕ) (ys : List Symbol) : Type 0 where
    state : ℕ
    move : HasMove m.moves q (Terminal t) state
    action : chosen_at table.cells q t ≡ Some (Shift state)
    place : IsPlace state j v ys

  entered : (q j v t : ℕ) (ys : List Symbol) → IsBefore rules j v (Terminal t ∷ ys) → HasItem m.sets q j →
      ((r : ℕ) → Reduces m q t r → ShiftStays (which t r)) →
      ((p : ℕ) → HasMove m.moves q (Terminal t) p → IsAt m e states of p (j + 1)) → IsEntered q t (j + 1) v ys
  entered q j v t ys dot there stays at =
      let next = next_of rules dot in
      let (p, move) = moves_on m states q j (Terminal t) there next in record {
        state = p;
        move = move;
        action = shift_chosen m terminals precedences table.cells by.cells q t p (set_inside m.sets q j there)
            (move_terminal m states by.sound.rules q t p move) move stays;
        place = record {
          at = at p move;
          there = member_advances m states q j (Terminal t) p there next move;
          dot = past rules dot;
        };
      }

  -- the first token of a rule of e
  entered_first : (q i r v t : ℕ) (xs ys : List Symbol) → IsPlace q i r (Nonterminal e ∷ xs) →
      Replaces rules v e (Terminal t ∷ ys) → IsEntered q t (first_item rules v + 1) v ys
  entered_first q i r v t xs ys place own =
      let next = next_of rules place.dot in
      entered q (first_item rules v) v t ys (opening rules v e _ own)
      (member_closed m states q i e (first_item rules v) place.there next (opens rules v e _ own))
      (λ s reduce. absurd (at_reduces m e states of q i r t s (Nonterminal e) xs place.at place.dot reduce))
      (λ p move. goto_first m e states of q p i v t ys place.at next own move)

  -- the token behind a dot
  entered_next : (q i r t : ℕ) (xs : List Symbol) → IsPlace q i r (Terminal t ∷ xs) →
      IsEntered q t (i + 1) r xs
  entered_next q i r t xs place =
      entered q i r t xs place.dot place.there
      (λ s reduce. absurd (at_reduces m e states of q i r t s (Terminal t) xs place.at place.dot reduce))
      (λ p move. goto_next m e states of q p i t place.at (next_of rules place.dot) move)

  -- the operator behind an operand
  entered_operator : (c : Option ℕ) (q p i r v t : ℕ) (xs ys : List Symbol) (us : List ℕ) →
      IsPlace q i r (Nonterminal e ∷ xs) → Comes c r xs us q i → Takes rules e which c t →
      Replaces rules v e (Nonterminal e ∷ Terminal t ∷ ys) → HasMove m.moves q (Nonterminal e) p →
      IsEntered p t (first_item rules v + 1 + 1) v ys
  entered_operator c q p i r v t xs ys us place comes takes own goto =
      let first = first_item rules v in
      let dot = opening rules v e _ own in
      let on = past rules place.dot in
      let there = member_closed m states q i e first place.there (next_of rules place.dot)
      (opens rules v e _ own) in
      let behind = goto_operand m e states of q p i place.at (comes_operand c q i r xs us comes on) goto in
      entered p (first + 1) v t ys (past rules dot)
      (member_advances m states q first (Nonterminal e) p there (next_of rules dot) goto)
      (λ w reduce. comes_rule c q i r t w xs us comes on takes
      (behind_reduces m e states of p (i + 1) t w behind reduce))
      (λ o move. goto_operator m e states of p o (i + 1) v t behind
      (comes_token c q i r t xs us comes on (v, (ys, own))) (ys, own) move)

  -- another token behind an operand
  entered_enclosing : (q p i r t : ℕ) (xs : List Symbol) →
      IsPlace q i r (Nonterminal e ∷ Terminal t ∷ xs) → ¬ IsOperator rules e t →
      HasMove m.moves q (Nonterminal e) p → IsEntered p t (i + 1 + 1) r xs
  entered_enclosing q p i r t xs place not goto =
      let on = past rules place.dot in
      let behind = goto_operand m e states of q p i place.at
      (λ a next. no_terminal t a (next_same rules on (Nonterminal a) next)) goto in
      entered p (i + 1) r t xs on
      (member_advances m states q i (Nonterminal e) p place.there (next_of rules place.dot) goto)
      (λ w reduce. absurd (complete_not rules on (behind_reduces m e states of p (i + 1) t w behind reduce)))
      (λ o move. goto_enclosing m e states of p o (i + 1) t behind not move)

  -- what ends behind symbols ends behind more
  longer : {q p n k r : ℕ} {xs ys : List Symbol} {f g : Trees} {us : List ℕ} → (h : HasEnd p k r ys g us) →
      Grows table tokens q xs f n h.to h.state → HasEnd q n r xs f us
  longer h grown = record {
    to = h.to;
    state = h.state;
    item = h.item;
    grown = grown;
    left = h.left;
    dot = h.dot;
    behind = h.behind;
    ahead = h.ahead;
    stays = h.stays;
  }

  -- an operand, a token and symbols behind it
  joined : {q p n k t j v r : ℕ} {ys : List Symbol} {f g : Trees} {ts us : List ℕ} →
      Grows table tokens q (Nonterminal e ∷ []) f n k p → IsToken tokens k t ts →
      (h : IsEntered p t j v ys) → HasEnd h.state (k + 1) r ys g us →
      HasEnd q n r (Nonterminal e ∷ Terminal t ∷ ys) (join f (leaf t g)) us
  joined grown here h end =
      longer end (grows_on table tokens states by.sound.actions grown (shifts here.less here.is h.action end.grown))

  follow : {k : Task rules e which} {ts us : List ℕ} {f : Trees} →
      Reads rules e which k ts f us → Goal k ts f us
  follow (head {c} {r = v} {t} {xs = ys} {ts} {us = us'} {vs = vs} own reads on) =
      λ q i r n xs place comes left.
      let here = token_at tokens n t ts left in
      let new = opens rules v e _ own in
      let ahead = operand_ahead c q i r (first_item rules v) xs us' vs (more_ahead on) comes place new in
      let h = entered_first q i r v t xs ys place own in
      let end = follow reads h.state (first_item rules v + 1) (n + 1) _ own h.place
      (keeps ahead (next_of rules (opening rules v e _ own)) h.move) here.rest in
      let all = longer end (shifts here.less here.is h.action end.grown) in
      let (o, goto) = moves_on m states q i (Nonterminal e) place.there (next_of rules place.dot) in
      follow on q i r n all.to o xs place comes (closed own goto all) all.left
  follow (stop stops) = λ q i r n k p xs place comes grown left.
      record { to = k; state = p; grown = grown; left = left; stops = stops }
  follow (further {c} {r = v} {t = t} {xs = ys} {ts} {us = us'} {vs = vs} own takes reads on) =
      λ q i r n k p xs place comes grown left.
      let here = token_at tokens k t ts left in
      let new = opens rules v e _ own in
      let ahead = operand_ahead c q i r (first_item rules v) xs us' vs (more_ahead on) comes place new in
      let goto = moved table tokens states by.sound.actions grown in
      let h = entered_operator c q p i r v t xs ys vs place comes takes own goto in
      let dot = opening rules v e _ own in
      let end = follow reads h.state (first_item rules v + 1 + 1) (k + 1) _ own h.place
      (keeps (keeps ahead (next_of rules dot) goto) (next_of rules (past rules dot)) h.move) here.rest in
      let all = joined grown here h end in
      follow on q i r n all.to p xs place comes (closed own goto all) all.left
  follow nothing = λ q i n right own place ahead left. record {
    to = n;
    state = q;
    item = i;
    grown = no_growth;
    left = left;
    dot = place.dot;
    behind = at_behind m e states of q i _ place.at place.dot;
    ahead = ahead;
    stays = λ p move. absurd (at_stays m e states of q i _ _ p place.at place.dot move);
  }
  follow (token {r} {t} {u} {xs} {ts} {us} {f} same reads) = λ q i n right own place ahead left.
      let here = token_at tokens n u ts left in
      let h = entered_next q i r t xs place in
      let end = follow reads h.state (i + 1) (n + 1) right own h.place
      (keeps ahead (next_of rules place.dot) h.move) here.rest in
      longer end (subst (λ (w : ℕ). Grows table tokens q (Terminal t ∷ xs) (leaf w f) n end.to end.state) same
      (shifts here.less (here.is ∙ sym same) h.action end.grown))
  follow (enclosed {r} {s} {t} {a} {xs} {ts = ts} {us = us'} {vs} {below = below} {f = f} not one reads) =
      λ q i n right own place ahead left.
      let named = only_e m e states of i a (next_of rules place.dot) in
      let dot = subst (λ (b : ℕ). IsBefore rules i r (Nonterminal b ∷ Terminal t ∷ xs)) named place.dot in
      let here : IsPlace q i r (Nonterminal e ∷ Terminal t ∷ xs) =
      record { at = place.at; there = place.there; dot = dot } in
      let inner = follow one q i r n (Terminal t ∷ xs) here (t, xs, refl, not, refl) left in
      let goto = moved table tokens states by.sound.actions inner.grown in
      let next = token_at tokens inner.to t us' inner.left in
      let h = entered_enclosing q inner.state i r t xs here not goto in
      let end = follow reads h.state (i + 1 + 1) (inner.to + 1) right own h.place
      (keeps (keeps ahead (next_of rules dot) goto) (next_of rules (past rules dot)) h.move) next.rest in
      subst (λ (b : ℕ). HasEnd q n r (Nonterminal b ∷ Terminal t ∷ xs) (node s below (leaf t f)) vs) (sym named)
      (joined inner.grown next h end)
  follow (last {r} {a} {ts} {us} {z} one) = λ q i n right own place ahead left.
      let named = only_e m e states of i a (next_of rules place.dot) in
      let dot = subst (λ (b : ℕ). IsBefore rules i r (Nonterminal b ∷ [])) named place.dot in
      let here : IsPlace q i r (Nonterminal e ∷ []) =
      record { at = place.at; there = place.there; dot = dot } in
      let inner = follow one q i r n [] here (refl, refl, ahead) left in
      let p = inner.state in
      let goto = moved table tokens states by.sound.actions inner.grown in
      let on = past rules dot in
      let behind = goto_operand m e states of q p i place.at
      (λ b next. next_none rules on (Nonterminal b) next) goto in
      record {
        to = inner.to;
        state = p;
        item = i + 1;
        grown = subst (λ (b : ℕ). Grows table tokens q (Nonterminal b ∷ []) z n inner.to p) (sym named) inner.grown;
        left = inner.left;
        dot = on;
        behind = behind;
        ahead = keeps ahead (next_of rules dot) goto;
        stays = λ o move. stays_last r us inner.stops (right_operand i r right own dot)
            (behind_moves m e states of p (i + 1) r (first_ahead us) o behind on move);
      }

  -- ---- all of a text

  accepts : (trees : Trees) → Reads rules e which (operand None) tokens trees [] →
      AcceptsBy table tokens (reductions trees)
  accepts trees reads =
      let (rule, is, left, right) = of.begins in
      let start : IsPlace 0 0 0 (Nonterminal e ∷ Terminal 0 ∷ []) = record {
        at = start_at m e states of;
        there = (states.first.each 0).1 (inside refl);
        dot = opening rules 0 of.start _ of.begins;
      } in
      let h = follow reads 0 0 0 0 (Terminal 0 ∷ []) start (0, [], refl, of.no_end, refl) refl in
      let goto = moved table tokens states by.sound.actions h.grown in
      let end = entered_enclosing 0 h.state 0 0 0 [] start of.no_end goto in
      accepted_of table tokens rule is (Nonterminal e ∷ []) right h.grown h.left end.state (0 + 1 + 1) end.action
      end.place.dot end.place.there

-- a tree of a text is one of e
operation_trees : (rules : List Rule) (e : ℕ) (of : IsOperatorGrammar rules e) (tokens parsed : List ℕ)
    (trees : Trees) → AreTreesOf rules tokens parsed trees → AreTrees rules (Nonterminal e ∷ []) trees
operation_trees rules e of tokens parsed trees own =
    let right = (same_sides rules 0 of.start _ own.rule of.begins own.is).1 in
    let whole : own.symbols ++ Terminal 0 ∷ [] ≡ (Nonterminal e ∷ []) ++ Terminal 0 ∷ [] =
    sym own.then_end ∙ right in
    subst (λ (xs : List Symbol). AreTrees rules xs trees)
    (last_same own.symbols (Nonterminal e ∷ []) (Terminal 0) (Terminal 0) whole).0 own.trees_of

pub accepted_are_nested : AcceptedAreNested
accepted_are_nested table terminals precedences e of tokens parsed =
    let rules = rules_of table in
    let by = of.by in (
      (λ a.
          let p = parse_accepted table tokens by.sound.states by.sound.actions a.config a.reached a.accepted parsed
          a.rules_of in
          let (trees, own) = (parses_have_trees rules tokens parsed).0 p in
          (trees, (own, operators_nest table terminals precedences by tokens parsed a trees own))),
      (λ (trees, (own, nested)).
          let are = operation_trees rules e of.operations tokens parsed trees own in
          let reads = reads_all rules e (stays_at terminals precedences) of.operations.operations are nested in
          subst (λ (rs : List ℕ). AcceptsBy table tokens rs) own.reduced
          (accepts table tokens terminals precedences e by of.operations of.decisive trees
          (subst (λ (ts : List ℕ). Reads rules e (stays_at terminals precedences) (operand None) ts trees [])
          own.tokens_of reads))),
    )

pub nested_are_parsed : NestedAreParsed
nested_are_parsed table terminals precedences e of tokens parsed trees (own, nested) =
    let rules = rules_of table in
    let states = of.by.sound.states in
    let a = (accepted_are_nested table terminals precedences e of tokens parsed).1 (trees, (own, nested)) in
    let few = fewer rules e (stays_at terminals precedences) of.operations.operations last_operand
    (operation_trees rules e of.operations tokens parsed trees own) in (
      (λ n stuck. never_stuck table tokens states a.config a.reached a.accepted n stuck),
      (λ steps enough long.
          omega (
            arith,
            never_longer table tokens states a.config a.reached a.accepted steps long,
            ap length a.rules_of,
            length-reverse parsed,
            ap length own.reduced,
            ap length own.tokens_of,
            few,
            enough,
          )),
    )
