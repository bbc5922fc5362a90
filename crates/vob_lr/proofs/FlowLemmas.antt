-- What lookaheads flow to, item by item, and what comes of it.
use Rattle.std.proofs.Common.{◌≡◌, ◌↔◌, ℕ, ◌+◌, ◌<◌, ◌⊎◌, inl, inr, Bool, true, List, [], ◌∷◌, length, get_or, drop, Some, slice_get, refl, sym, ap, ◌∙◌, subst, arith}
use Rattle.std.specs.List.{All, Contains}
use Rattle.std.proofs.lemmas.Bool.{cases_eq, cases_lt, false≢true}
use Rattle.std.proofs.lemmas.List.Elements.{All-drop, Contains-get_or}
use Rattle.std.proofs.lemmas.Option.{get_or_from_slice_get, same_Some, slice_get-get_or, slice_get_within}
use Rattle.std.specs.declared.ops.Bound.TheVariants.{Unbounded}
use Rattle.vob.specs.Vobs.{AreOfLength}
use Rattle.vob_block.proofs.PackingLemmas.{true_inside}
use Rattle.vob_flow.proofs.FirstLemmas.{all_at}
use Rattle.vob_flow.specs.Draws.{IsIn}
use Rattle.vob_lr.specs.Behind.{IsOfTrailer, IsTrailer, StandsBehind}
use Rattle.vob_lr.specs.Equations.{AreEquations, AreSolved, GainEach, HasAt, Reaches, System}
use Rattle.vob_lr.specs.Equations.Reaches.{at_start, along}
use Rattle.vob_lr.specs.Expansions.{Expands, Has}
use Rattle.vob_lr.specs.Faults.{IsRuleOf, IsSymbol}
use Rattle.vob_lr.specs.Flows.{FlowsFrom, FlowsOf, FlowsTo, HasTables, HaveLookaheads, IsKept, IsKeptAt, IsKeptBy, IsOpened}
use Rattle.vob_lr.specs.Walked.{GainWalked, IsOfFirst, IsOfMember}
use Rattle.vob_lr.specs.ItemSets.{HasItem, Opens}
use Rattle.vob_lr.specs.Items.{HasNext, IsItem, item_total}
use Rattle.vob_lr.specs.Lookaheads.{HasNextThen, LooksAhead, Machine}
use Rattle.vob_lr.specs.Lookaheads.LooksAhead.{begins, passes, keeps}
use Rattle.vob_lr.specs.Nodes.{member_total, node}
use Rattle.vob_lr.specs.Grammar.{AreFirst, AreNullable}
use Rattle.vob_lr.specs.States.{AreStates}
use Rattle.vob_lr.proofs.FollowLemmas.{of_trailer}
use Rattle.vob_lr.proofs.ItemLemmas.{next_is, one_item}
use Rattle.vob_lr.proofs.MemberLemmas.{member_advances, member_closed}
use Rattle.vob_lr.proofs.NodeLemmas.{node_inside, one_node}
use Rattle.vob_lr.proofs.SetLemmas.{set_inside}
use Rattle.vob_lr.proofs.SolvedLemmas.{AreSolved-as}
use Rattle.vob_lr.specs.declared.grammar.Rule.{Rule}
use Rattle.vob_lr.specs.declared.grammar.Symbol.{Symbol}
use Rattle.vob_lr.specs.declared.grammar.Symbol.TheVariants.{Terminal, Nonterminal}
use Rattle.vob_lr.specs.declared.items.Item.{Item}
use Rattle.vob_lr.specs.declared.state.Move.{Move}
use Rattle.vob_walk.specs.Left.{AreMatches, is_left}
use Rattle.vob_walk.specs.Matches.{matches}
use Rattle.vob_walk.proofs.IndexLemmas.{first_value, left_all, left_none, left_other, matches_after, matches_all}

-- ---- what a walk over a set gives to others

module _ (Each : ℕ → ℕ → Symbol → Type 0) (set : List Bool) (before : System) where
  pub GainWalked-start : (left : List ℕ) → left ≡ matches set true Unbounded Unbounded →
      GainWalked Each set left before before
  GainWalked-start left all = record {
    matches = subst (λ (xs : List ℕ). AreMatches set true Unbounded Unbounded xs) (sym all)
        (matches_all set true Unbounded Unbounded);
    count = refl;
    places = refl;
    kept = λ n y there. there;
    done = λ j n y own gone has.
        let here = left_all set true Unbounded Unbounded j (true_inside set j own) refl own in
        absurd (false≢true (sym gone ∙ ap (λ (xs : List ℕ). is_left xs j) all ∙ here));
    only = λ n y there. inl there;
  }

  module _ (given : List ℕ) (mid : System) (h : GainWalked Each set given before mid) where
    pub walked_own : (j : ℕ) (left : List ℕ) → given ≡ j ∷ left → Has set j
    walked_own j left is =
        first_value set true Unbounded Unbounded j left
        (subst (λ (xs : List ℕ). AreMatches set true Unbounded Unbounded xs) is h.matches)

    -- one member more
    pub GainWalked-step : (j : ℕ) (left : List ℕ) → given ≡ j ∷ left → (after : System) →
        GainEach (Each j) mid after → GainWalked Each set left before after
    GainWalked-step j left is after g = record {
      matches = matches_after set true Unbounded Unbounded j left
          (subst (λ (xs : List ℕ). AreMatches set true Unbounded Unbounded xs) is h.matches);
      count = g.count ∙ h.count;
      places = g.places ∙ h.places;
      kept = λ n y there. (g.each n y).1 (inl (h.kept n y there));
      done = λ k n y own gone has. elim (cases_eq k j) [
        | inl same ↦ (g.each n y).1 (inr (subst (λ (i : ℕ). Each i n y) same has))
        | inr other ↦
            let still = ap (λ (xs : List ℕ). is_left xs k) is ∙ left_other j left k other ∙ gone in
            (g.each n y).1 (inl (h.done k n y own still has))
      ];
      only = λ n y there. elim ((g.each n y).0 there) [
        | inl old ↦ h.only n y old
        | inr new ↦ inr (j, walked_own j left is, new)
      ];
    }

    -- none is left
    pub GainEach-walked : given ≡ [] → GainEach (IsOfMember set Each) before mid
    GainEach-walked none = record {
      count = h.count;
      places = h.places;
      each = λ n y. (
        h.only n y,
        (λ a. elim a [
          | inl old ↦ h.kept n y old
          | inr new ↦
              let gone = ap (λ (xs : List ℕ). is_left xs new.0) none ∙ left_none new.0 in
              h.done new.0 n y new.1 gone new.2
        ]),
      );
    }

-- ---- what the first of some give

module _ (Each : ℕ → ℕ → Symbol → Type 0) where
  pub first_none : (n : ℕ) (y : Symbol) → ¬ IsOfFirst 0 Each n y
  first_none n y h = omega (arith, h.1)

  pub first_more : (k n : ℕ) (y : Symbol) →
      IsOfFirst (k + 1) Each n y ↔ (Each k n y ⊎ IsOfFirst k Each n y)
  first_more k n y = (
    (λ h. elim (cases_lt h.0 k) [
      | inl low ↦ inr (h.0, low, h.2)
      | inr past ↦
          let here : h.0 ≡ k = omega (arith, past, h.1) in
          inl (subst (λ (i : ℕ). Each i n y) here h.2)
    ]),
    (λ a. elim a [
      | inl here ↦ (k, omega arith, here)
      | inr low ↦ (low.0, omega (arith, low.1), low.2)
    ]),
  )

-- ---- what stands behind one dot

module _ (rules : List Rule) where
  pub one_next : (j : ℕ) (x y : Symbol) → HasNext rules j x → HasNext rules j y → x ≡ y
  one_next j x y h g = same_Some x y (sym h.next ∙ (next_is rules j h.item h.is y).1 g)

  pub one_rest : (j a : ℕ) (rest : List Symbol) → HasNextThen rules j a rest → (item : Item)
      (is : IsItem rules j item) → drop (item.dot + 1) is.rule.right.items ≡ rest
  one_rest j a rest h item is =
      let own = h.next in
      let same = one_item rules j own.item item own.is is in
      let there = subst (λ (z : Item). slice_get rules z.rule ≡ Some own.is.rule) same own.is.is in
      let rule = same_Some own.is.rule is.rule (sym there ∙ is.is) in
      ap (λ (r : Rule). drop (item.dot + 1) r.right.items) (sym rule)
      ∙ ap (λ (z : Item). drop (z.dot + 1) own.is.rule.right.items) (sym same)
      ∙ h.then_rest

  pub next_dot : (j : ℕ) (x : Symbol) (item : Item) (is : IsItem rules j item) →
      HasNext rules j x → item.dot < length is.rule.right.items
  next_dot j x item is next =
      slice_get_within is.rule.right.items item.dot x ((next_is rules j item is x).1 next)

  pub next_then : (j a : ℕ) (item : Item) (is : IsItem rules j item) →
      HasNext rules j (Nonterminal a) →
      HasNextThen rules j a (drop (item.dot + 1) is.rule.right.items)
  next_then j a item is next =
      let own : HasNext rules j (Nonterminal a) = record {
        item = item;
        is = is;
        next = (next_is rules j item is (Nonterminal a)).1 next;
      } in
      record { next = own; then_rest = refl }

-- a move with that symbol
pub move_at : (row : List Move) (move : Move) (x : Symbol) → x ≡ move.symbol →
    Contains row move → Contains row (record { symbol = x; state = move.state })
move_at row move x same there =
    subst (λ (z : Symbol). Contains row (record { symbol = z; state = move.state })) (sym same) there

-- ---- a grammar and its states

terminal_differs : (t a : ℕ) → Terminal t ≡ Nonterminal a → ⊥
terminal_differs t a same = cc

module _ (m : Machine) (nullable : List Bool) (first opens : List (List Bool))
    (h : HasTables m nullable first opens) where
  abbrev rules : List Rule
  rules = m.grammar.rules.items

  -- what stands behind a dot is there
  pub symbol_there : (j : ℕ) (x : Symbol) → HasNext rules j x →
      IsSymbol m.grammar.terminals m.grammar.nonterminals x
  symbol_there j x next =
      let rule = all_at (IsRuleOf m.grammar) rules h.rules next.item.rule next.is.rule next.is.is in
      all_at (IsSymbol m.grammar.terminals m.grammar.nonterminals) next.is.rule.right.items rule.1
      next.item.dot x next.next

  pub rest_there : (j : ℕ) (item : Item) (is : IsItem rules j item) →
      All (IsSymbol m.grammar.terminals m.grammar.nonterminals)
      (drop (item.dot + 1) is.rule.right.items)
  rest_there j item is =
      All-drop (IsSymbol m.grammar.terminals m.grammar.nonterminals) (item.dot + 1)
      is.rule.right.items (all_at (IsRuleOf m.grammar) rules h.rules item.rule is.rule is.is).1

  -- ---- what one item gives

  opened_to : (q j a : ℕ) (rest : List Symbol) (row starts : List Bool) (empty : Bool) →
      HasNextThen rules j a rest → ((i : ℕ) → Has row i ↔ Opens rules a i) →
      IsTrailer rules rest starts empty → (n : ℕ) (y : Symbol) →
      IsOfMember row (λ i n y. (node m.sets q i ≡ n)
      × IsOfTrailer (node m.sets q j) starts empty y) n y → IsOpened m q j n y
  opened_to q j a rest row starts empty next opened trailer n y (i, own, (at, of)) =
      let stands = (of_trailer rules (node m.sets q j) rest starts empty trailer y).0 of in
      (a, i, rest, next, (opened i).0 own, at, stands)

  opened_from : (q j a : ℕ) (rest : List Symbol) (row starts : List Bool) (empty : Bool) →
      HasNextThen rules j a rest → ((i : ℕ) → Has row i ↔ Opens rules a i) →
      IsTrailer rules rest starts empty → (n : ℕ) (y : Symbol) → IsOpened m q j n y →
      IsOfMember row (λ i n y. (node m.sets q i ≡ n)
      × IsOfTrailer (node m.sets q j) starts empty y) n y
  opened_from q j a rest row starts empty next opened trailer n y (b, i, others, ahead, op, at, st) =
      let named = one_next rules j (Nonterminal b) (Nonterminal a) ahead.next next.next in
      let same : b ≡ a = cc in
      let own = (opened i).1 (subst (λ (c : ℕ). Opens rules c i) same op) in
      let stands = subst (λ (xs : List Symbol). StandsBehind rules (node m.sets q j) xs y)
      (sym (one_rest rules j b others ahead next.next.item next.next.is) ∙ next.then_rest) st in
      (i, own, (at, (of_trailer rules (node m.sets q j) rest starts empty trailer y).1 stands))

  -- what it brings starts with what can begin the symbols behind, and draws from it
  pub opened_is : (q j a : ℕ) (rest : List Symbol) (row starts : List Bool) (empty : Bool) →
      HasNextThen rules j a rest → ((i : ℕ) → Has row i ↔ Opens rules a i) →
      IsTrailer rules rest starts empty → (n : ℕ) (y : Symbol) →
      IsOfMember row (λ i n y. (node m.sets q i ≡ n)
      × IsOfTrailer (node m.sets q j) starts empty y) n y ↔ IsOpened m q j n y
  opened_is q j a rest row starts empty next opened trailer n y = (
    opened_to q j a rest row starts empty next opened trailer n y,
    opened_from q j a rest row starts empty next opened trailer n y,
  )

  -- what all moves of a state keep
  pub kept_is : (q j : ℕ) (x : Symbol) → HasNext rules j x → (n : ℕ) (y : Symbol) →
      IsOfFirst (length (get_or m.moves q [])) (IsKeptAt m q j x) n y ↔ IsKept m q j n y
  kept_is q j x next n y = (
    (λ found.
        let (k, less, (move, is, (by, at, from))) = found in
        let here : Move = record { symbol = x; state = move.state } in
        let same = ap (λ (z : Symbol). let one : Move = record { symbol = z; state = move.state } in one) by in
        (x, move.state, next, (k, less, get_or_from_slice_get (get_or m.moves q []) k move here is ∙ same), at, from)),
    (λ found.
        let (z, p, ahead, (k, less, is), at, from) = found in
        let same = one_next rules j z x ahead next in
        let there = slice_get-get_or (get_or m.moves q []) k (record { symbol = z; state = p }) less in
        (k, less, (record { symbol = z; state = p }, there ∙ ap Some is, (same, at, from)))),
  )

  -- and one move more
  kept_at : (q j : ℕ) (x : Symbol) (k : ℕ) (move : Move) →
      slice_get (get_or m.moves q []) k ≡ Some move → (n : ℕ) (y : Symbol) →
      IsKeptAt m q j x k n y → IsKeptBy m q j x move n y
  kept_at q j x k move is n y (own, there, kept) =
      let same = same_Some own move (sym there ∙ is) in
      subst (λ (z : Move). IsKeptBy m q j x z n y) same kept

  pub kept_more : (q j : ℕ) (x : Symbol) (k : ℕ) (move : Move) →
      slice_get (get_or m.moves q []) k ≡ Some move → (n : ℕ) (y : Symbol) →
      IsOfFirst (k + 1) (IsKeptAt m q j x) n y
      ↔ (IsKeptBy m q j x move n y ⊎ IsOfFirst k (IsKeptAt m q j x) n y)
  kept_more q j x k move is n y =
      let more = first_more (IsKeptAt m q j x) k n y in (
        (λ h. elim (more.0 h) [
          | inl here ↦ inl (kept_at q j x k move is n y here)
          | inr low ↦ inr low
        ]),
        (λ a. elim a [
          | inl here ↦ more.1 (inl (move, is, here))
          | inr low ↦ more.1 (inr low)
        ]),
      )

  -- nothing comes of an item whose dot is behind all
  pub flows_nowhere : (q j : ℕ) → ((x : Symbol) → ¬ HasNext rules j x) → (n : ℕ) (y : Symbol) →
      ¬ FlowsFrom m q j n y
  flows_nowhere q j none n y (inl kept) = none kept.0 kept.2
  flows_nowhere q j none n y (inr opened) = none (Nonterminal opened.0) opened.3.next

  pub flows_kept : (q j t : ℕ) → HasNext rules j (Terminal t) → (n : ℕ) (y : Symbol) →
      IsKept m q j n y ↔ FlowsFrom m q j n y
  flows_kept q j t next n y = (
    (λ kept. inl kept),
    (λ a. elim a [
      | inl kept ↦ kept
      | inr opened ↦
          let named = one_next rules j (Terminal t) (Nonterminal opened.0) next opened.3.next in
          absurd (terminal_differs t opened.0 named)
    ]),
  )

  -- all items of a state
  pub flows_each : (q n : ℕ) (y : Symbol) →
      IsOfFirst (length (get_or m.sets q [])) (λ k. FlowsFrom m q (get_or (get_or m.sets q []) k 0)) n y
      ↔ FlowsOf m q n y
  flows_each q n y =
      let set = get_or m.sets q [] in (
        (λ found. (get_or set found.0 0, Contains-get_or set found.0 0 found.1, found.2)),
        (λ own.
            let (j, (k, less, is), flows) = own in
            let same = get_or_from_slice_get set k j 0 (slice_get-get_or set k j less ∙ ap Some is) in
            (k, less, subst (λ (i : ℕ). FlowsFrom m q i n y) (sym same) flows)),
      )

  pub flows_all : (n : ℕ) (y : Symbol) →
      IsOfFirst (length m.sets) (λ q n y. FlowsOf m q n y) n y ↔ FlowsTo m n y
  flows_all n y = (
    (λ found. (found.0, found.2)),
    (λ found.
        let own = found.1 in
        (found.0, set_inside m.sets found.0 own.0 own.1, own)),
  )

  -- ---- the least sets that flow so

  module _ (rows : List (List Bool)) (s : AreSolved (FlowsTo m) rows) where
    ahead_at : (t q j r i n : ℕ) → HasItem m.sets q j → HasItem m.sets r i → node m.sets q j ≡ n →
        node m.sets r i ≡ n → LooksAhead m t q j → LooksAhead m t r i
    ahead_at t q j r i n here there at other l =
        let same = one_node m.sets q r j i here there (at ∙ sym other) in
        subst (λ (k : ℕ). LooksAhead m t k i) same.0
        (subst (λ (k : ℕ). LooksAhead m t q k) same.1 l)

    ahead_sound : {t n : ℕ} → Reaches (FlowsTo m) t n → (r i : ℕ) → HasItem m.sets r i →
        node m.sets r i ≡ n → LooksAhead m t r i
    ahead_sound {t} {n} (at_start (q, (j, own, inl kept))) r i there at =
        absurd (terminal_differs t _ (sym kept.5))
    ahead_sound {t} {n} (at_start (q, (j, own, inr (a, k, rest, next, opens, to, st)))) r i there at =
        ahead_at t q k r i n (member_closed m h.states q j a k own next.next opens) there to at
        (begins own next st opens)
    ahead_sound {t} {n} (along {m = o} (q, (j, own, inl (x, p, next, move, to, named))) c) r i there at =
        let from : node m.sets q j ≡ o = cc in
        ahead_at t p (j + 1) r i n (member_advances m h.states q j x p own next move) there to at
        (keeps (ahead_sound c q j own from) next move)
    ahead_sound {t} {n} (along {m = o} (q, (j, own, inr (a, k, rest, next, opens, to, st))) c) r i there at =
        ahead_at t q k r i n (member_closed m h.states q j a k own next.next opens) there to at
        (passes (ahead_sound c q j own st.0) next st.1 opens)

    ahead_complete : {t q i : ℕ} → LooksAhead m t q i →
        HasItem m.sets q i × IsIn rows (node m.sets q i) t
    ahead_complete {t} (begins {q} {j} {a} {i} {rest} own next st opens) = (
      member_closed m h.states q j a i own next.next opens,
      s.starts (node m.sets q i) t (q, (j, own, inr (a, i, rest, next, opens, refl, st))),
    )
    ahead_complete {t} (passes {q} {j} {a} {i} {rest} l next empty opens) =
        let (own, there) = ahead_complete l in (
          member_closed m h.states q j a i own next.next opens,
          s.draws (node m.sets q i) (node m.sets q j) t
              (q, (j, own, inr (a, i, rest, next, opens, refl, (refl, empty)))) there,
        )
    ahead_complete {t} (keeps {q} {j} {p} {x} l next move) =
        let (own, there) = ahead_complete l in (
          member_advances m h.states q j x p own next move,
          s.draws (node m.sets p (j + 1)) (node m.sets q j) t
              (q, (j, own, inl (x, p, next, move, refl, refl))) there,
        )

  pub HaveLookaheads-solved : {system : System} (rows : List (List Bool)) →
      AreEquations (member_total m.sets) m.grammar.terminals (FlowsTo m) system →
      length rows ≡ length system.starts → AreOfLength system.places rows →
      AreSolved (HasAt system) rows → HaveLookaheads m rows
  HaveLookaheads-solved {system} rows e count long solved =
      let s = AreSolved-as (HasAt system) (FlowsTo m) e.each rows solved in
      record {
        count = count ∙ e.count;
        each = λ q i there.
            let less = node_inside m.sets q i there in record {
              len = long (node m.sets q i) [] (omega (arith, less, count, e.count)) ∙ e.width;
              each = λ t. (
                (λ bit. ahead_sound rows s (s.least (node m.sets q i) t bit) q i there refl),
                (λ l. (ahead_complete rows s l).1),
              );
            };
      }

-- ---- what lookaheads are found by

pub HasTables-of : (m : Machine) (nullable : List Bool) (first : List (List Bool)) (opens : System) →
    All (IsRuleOf m.grammar) m.grammar.rules.items →
    AreStates m.grammar.rules.items m.sets m.moves → AreNullable m.grammar nullable →
    AreFirst m.grammar first → AreEquations m.grammar.nonterminals
    (item_total m.grammar.rules.items) (Expands m.grammar.rules.items) opens →
    HasTables m nullable first opens.starts
HasTables-of m nullable first opens sound states empties firsts e = record {
  rules = sound;
  states = states;
  empties = empties;
  firsts = firsts;
  openings = record { count = e.count; each = λ a i. e.each a (Terminal i) };
}
