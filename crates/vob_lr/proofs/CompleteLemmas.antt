-- A parser by a table without conflicts finds what symbols become.
use Rattle.std.proofs.Common.{◌≡◌, ℕ, ◌+◌, ◌⊎◌, inl, inr, List, [], ◌∷◌, ◌++◌, get_or, drop, Some, slice_get, refl, sym, ap, ◌∙◌, subst}
use Rattle.std.proofs.lemmas.List.{append-nil, append_assoc}
use Rattle.vob_lr.specs.Becoming.{AreDone, Becomes}
use Rattle.vob_lr.specs.Becoming.Becomes.{nothing, terminal, by_rule}
use Rattle.vob_lr.specs.Grammar.{BecomesEmpty, BeginsWith}
use Rattle.vob_lr.specs.Grammar.BecomesEmpty.{nothing as empty_nothing, by_rule as empty_rule}
use Rattle.vob_lr.specs.Grammar.BeginsWith.{here, by_rule as begins_rule, behind}
use Rattle.vob_lr.specs.Growing.{Grows}
use Rattle.vob_lr.specs.Growing.Grows.{nothing as no_growth, shifts, reduces}
use Rattle.vob_lr.specs.ItemSets.{HasItem, Opens}
use Rattle.vob_lr.specs.ItemSets.InClosure.{inside}
use Rattle.vob_lr.specs.Items.{HasNext, first_item}
use Rattle.vob_lr.specs.Lookaheads.{HasMove, LooksAhead, Machine}
use Rattle.vob_lr.specs.Lookaheads.LooksAhead.{begins, passes, keeps}
use Rattle.vob_lr.specs.Nesting.{Replaces}
use Rattle.vob_lr.specs.States.{AreStates}
use Rattle.vob_lr.specs.Stops.{AcceptsBy}
use Rattle.vob_lr.specs.Tables.{TableView, chosen_at}
use Rattle.vob_lr.specs.Trees.{Trees, reductions}
use Rattle.vob_lr.specs.Trees.Trees.{none, leaf, node}
use Rattle.vob_lr.specs.declared.grammar.Rule.{Rule}
use Rattle.vob_lr.specs.declared.grammar.Symbol.{Symbol}
use Rattle.vob_lr.specs.declared.grammar.Symbol.TheVariants.{Terminal, Nonterminal}
use Rattle.vob_lr.proofs.DerivationLemmas.{has_rule}
use Rattle.vob_lr.proofs.DotLemmas.{IsBefore, complete_of, next_of, next_then, opening, opens, past}
use Rattle.vob_lr.proofs.EmptyLemmas.{BecomesEmpty-append}
use Rattle.vob_lr.proofs.FirstLemmas.{BeginsWith-append}
use Rattle.vob_lr.proofs.MemberLemmas.{member_advances, member_closed, moves_on}
use Rattle.vob_lr.proofs.PushedLemmas.{accepted_of, first_ahead, get_or-drop, token_at}

-- ---- what becomes nothing, and what begins

append_empty : (ts us : List ℕ) → ts ++ us ≡ [] → (ts ≡ []) × (us ≡ [])
append_empty [] us h = (refl, h)
append_empty (t ∷ ts) us h = absurd (cc)

module _ (rules : List Rule) where
  pub empty_becomes : {xs : List Symbol} {ts rs : List ℕ} → Becomes rules xs ts rs → ts ≡ [] →
      BecomesEmpty rules xs
  empty_becomes nothing h = empty_nothing
  empty_becomes (terminal b) h = absurd (cc)
  empty_becomes (by_rule r rule {xs} ts us rs ss is b b') h =
      let both = append_empty ts us h in
      empty_rule (has_rule rules r rule is) (empty_becomes b both.0) (empty_becomes b' both.1)

  first_of_parts : (ts us : List ℕ) (t : ℕ) (rest : List ℕ) → ts ++ us ≡ t ∷ rest →
      ((more : List ℕ) × (ts ≡ t ∷ more)) ⊎ ((ts ≡ []) × (us ≡ t ∷ rest))
  first_of_parts [] us t rest h = inr (refl, h)
  first_of_parts (x ∷ ts) us t rest h = let first : x ≡ t = cc in inl (ts, ap (λ y. y ∷ ts) first)

  pub first_becomes : {xs : List Symbol} {ts rs : List ℕ} → Becomes rules xs ts rs → (t : ℕ)
      (rest : List ℕ) → ts ≡ t ∷ rest → BeginsWith rules t xs
  first_becomes nothing t rest h = absurd (cc)
  first_becomes (terminal {t = u} {xs} b) t rest h =
      let first : u ≡ t = cc in
      subst (λ (n : ℕ). BeginsWith rules t (Terminal n ∷ xs)) (sym first) here
  first_becomes (by_rule r rule {xs} ts us rs ss is b b') t rest h =
      elim (first_of_parts ts us t rest h) [
        | inl own ↦ begins_rule (has_rule rules r rule is) (first_becomes b t own.0 own.1)
        | inr later ↦
            behind (empty_rule (has_rule rules r rule is) (empty_becomes b later.0) empty_nothing)
            (first_becomes b' t rest later.1)
      ]

  begin_behind : {t : ℕ} {xs : List Symbol} (ys : List Symbol) → BecomesEmpty rules xs →
      BeginsWith rules t ys → BeginsWith rules t (xs ++ ys)
  begin_behind ys empty_nothing begin = begin
  begin_behind ys (empty_rule has empty others) begin =
      behind (empty_rule has empty empty_nothing) (begin_behind ys others begin)

module _ (table : TableView) (tokens : List ℕ)
    (states : AreStates table.machine.grammar.rules.items table.machine.sets table.machine.moves)
    (done : AreDone table.machine table.cells) where
  abbrev m : Machine
  m = table.machine

  abbrev rules : List Rule
  rules = table.machine.grammar.rules.items

  -- an item of state q, behind whose rest these symbols may stand before terminal t
  record Goes (q i t : ℕ) (ys : List Symbol) : Type 0 where
    there : HasItem m.sets q i
    next : BeginsWith rules t ys ⊎ (BecomesEmpty rules ys × LooksAhead m t q i)

  -- the item whose dot passes a symbol
  goes_on : (q p i t : ℕ) (ys : List Symbol) (x : Symbol) → Goes q i t ys → HasNext rules i x →
      HasMove m.moves q x p → Goes p (i + 1) t ys
  goes_on q p i t ys x g next move = record {
    there = member_advances m states q i x p g.there next move;
    next = elim g.next [
      | inl begin ↦ inl begin
      | inr both ↦ inr (both.0, keeps both.1 next move)
    ];
  }

  -- trees by rules rs are grown above symbols of rule r, behind which ys stand, and tokens v are left
  record HasGrown (q n r : ℕ) (xs : List Symbol) (rs : List ℕ) (ys : List Symbol) (v : List ℕ) : Type 0 where
    trees : Trees
    to : ℕ
    state : ℕ
    item : ℕ
    grown : Grows table tokens q xs trees n to state
    reduced : reductions trees ≡ rs
    left : drop to tokens ≡ v
    dot : IsBefore rules item r ys
    goes : Goes state item (first_ahead v) ys

  -- what stands ahead once a nonterminal's tokens are read
  looks_on : (xs : List Symbol) (us ss : List ℕ) → Becomes rules xs us ss → (q i r a : ℕ)
      (ys : List Symbol) (v : List ℕ) → Goes q i (first_ahead v) ys →
      IsBefore rules i r (Nonterminal a ∷ (xs ++ ys)) → (k : ℕ) → Opens rules a k →
      LooksAhead m (first_ahead (us ++ v)) q k
  looks_on xs [] ss b q i r a ys v g dot k new =
      let empty = empty_becomes rules b refl in
      elim g.next [
        | inl begin ↦ begins g.there (next_then rules dot) (begin_behind rules ys empty begin) new
        | inr both ↦ passes both.1 (next_then rules dot) (BecomesEmpty-append ys empty both.0) new
      ]
  looks_on xs (t ∷ us) ss b q i r a ys v g dot k new =
      begins g.there (next_then rules dot) (BeginsWith-append ys (first_becomes rules b t us refl)) new

  begins_nothing : {t : ℕ} → BeginsWith rules t [] → ⊥
  begins_nothing h = elim h [ ]

  -- what symbols become is grown
  becomes_grown : {xs : List Symbol} {ts rs : List ℕ} → Becomes rules xs ts rs → (q n i r : ℕ)
      (ys : List Symbol) → IsBefore rules i r (xs ++ ys) → (v : List ℕ) → drop n tokens ≡ ts ++ v →
      Goes q i (first_ahead v) ys → HasGrown q n r xs rs ys v
  becomes_grown nothing q n i r ys dot v left g = record {
    trees = none;
    to = n;
    state = q;
    item = i;
    grown = no_growth;
    reduced = refl;
    left = left;
    dot = dot;
    goes = g;
  }
  becomes_grown (terminal {t = t} {xs} {ts} {rs} b) q n i r ys dot v left g =
      let here = token_at tokens n t (ts ++ v) left in
      let next = next_of rules dot in
      let (p, move) = moves_on m states q i (Terminal t) g.there next in
      let on = becomes_grown b p (n + 1) (i + 1) r ys (past rules dot) v here.rest
      (goes_on q p i (first_ahead v) ys (Terminal t) g next move) in
      record {
        trees = leaf t on.trees;
        to = on.to;
        state = on.state;
        item = on.item;
        grown = shifts here.less here.is (done.shifts q t p move) on.grown;
        reduced = on.reduced;
        left = on.left;
        dot = on.dot;
        goes = on.goes;
      }
  becomes_grown (by_rule s rule {xs} ts us rs ss is b b') q n i r ys dot v left g =
      let own : Replaces rules s rule.left rule.right.items = (rule, is, refl, refl) in
      let first = first_item rules s in
      let new = opens rules s rule.left _ own in
      let next = next_of rules dot in
      let t = first_ahead (us ++ v) in
      let inner : Goes q first t [] = record {
        there = member_closed m states q i rule.left first g.there next new;
        next = inr (empty_nothing, looks_on xs us ss b' q i r rule.left ys v g dot first new);
      } in
      let below = becomes_grown b q n first s []
      (subst (λ (zs : List Symbol). IsBefore rules first s zs) (sym (append-nil rule.right.items))
      (opening rules s rule.left _ own)) (us ++ v) (left ∙ append_assoc ts us v) inner in
      let ahead : LooksAhead m t below.state below.item = elim below.goes.next [
        | inl begin ↦ absurd (begins_nothing begin)
        | inr both ↦ both.1
      ] in
      let action = done.reduces below.state t s (below.item, complete_of rules below.dot, ahead) in
      let token : get_or tokens below.to 0 ≡ t = get_or-drop tokens below.to ∙ ap first_ahead below.left in
      let (p, move) = moves_on m states q i (Nonterminal rule.left) g.there next in
      let on = becomes_grown b' p below.to (i + 1) r ys (past rules dot) v below.left
      (goes_on q p i (first_ahead v) ys (Nonterminal rule.left) g next move) in
      record {
        trees = node s below.trees on.trees;
        to = on.to;
        state = on.state;
        item = on.item;
        grown = reduces is below.grown
            (ap (λ (u : ℕ). chosen_at table.cells below.state u) token ∙ action) move on.grown;
        reduced = ap (λ (ns : List ℕ). ns ++ s ∷ reductions on.trees) below.reduced
            ∙ ap (λ (ns : List ℕ). rs ++ s ∷ ns) on.reduced;
        left = on.left;
        dot = on.dot;
        goes = on.goes;
      }

  -- and accepted, if it stands before the end in rule 0
  pub becomes_accepted : (rule : Rule) → slice_get rules 0 ≡ Some rule → (xs : List Symbol) →
      rule.right.items ≡ xs ++ Terminal 0 ∷ [] → (rs : List ℕ) → Becomes rules xs tokens rs →
      AcceptsBy table tokens rs
  becomes_accepted rule is xs right rs b =
      let start : Goes 0 0 0 (Terminal 0 ∷ []) = record {
        there = (states.first.each 0).1 (inside refl);
        next = inl here;
      } in
      let h = becomes_grown b 0 0 0 0 (Terminal 0 ∷ []) (opening rules 0 rule.left _ (rule, is, refl, right)) []
      (sym (append-nil tokens)) start in
      let next = next_of rules h.dot in
      let (p, move) = moves_on m states h.state h.item (Terminal 0) h.goes.there next in
      subst (λ (ns : List ℕ). AcceptsBy table tokens ns) h.reduced
      (accepted_of table tokens rule is xs right h.grown h.left p (h.item + 1) (done.shifts h.state 0 p move)
      (past rules h.dot)
      (member_advances m states h.state h.item (Terminal 0) p h.goes.there next move))
