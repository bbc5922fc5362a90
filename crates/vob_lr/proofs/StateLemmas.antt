-- The states that were found, and the moves of each.
use Rattle.std.proofs.Common.{◌≡◌, ◌≢◌, ◌==◌, ℕ, suc, ◌+◌, ◌<◌, ◌≤◌, inl, inr, if◌then◌else◌, Some, slice_get, Bool, true, false, List, [], ◌∷◌, ◌++◌, length, get_or, map, Global, Vec, refl, sym, ap, ◌∙◌, subst, arith}
use Rattle.std.specs.List.{All, AllPairs, Any, Contains, list_any, position_or_len}
use Rattle.std.specs.Bool.{Decides}
use Rattle.std.specs.Cmp.Lexicographic.{pointwise}
use Rattle.indexmap.specs.IndexSet.{insert_key}
use Rattle.std.specs.declared.ops.Bound.TheVariants.{Unbounded}
use Rattle.std.proofs.lemmas.Bool.{cases_Bool, cases_eq, cases_lt, false≢true}
use Rattle.std.proofs.lemmas.Bool.Decides.{Decides-eqb}
use Rattle.std.proofs.lemmas.List.{append-nil, append_assoc, get_or-map, get_or_append_left, get_or_push, length-append, length-map, length_push, map-append}
use Rattle.std.proofs.lemmas.Grind.{flat_map-append}
use Rattle.std.proofs.lemmas.List.Concat.{flat_map-cons}
use Rattle.std.proofs.lemmas.List.Elements.{All-head, All-nil, All-push, All-tail}
use Rattle.std.proofs.lemmas.List.Folds.{Any-from_list_any, list_any_at}
use Rattle.std.proofs.lemmas.List.Quantifiers.{all_pairs_push}
use Rattle.std.proofs.lemmas.List.Sums.{fails_before_first, passes_at_first, position_or_len_is}
use Rattle.std.proofs.lemmas.Option.{get_or_from_slice_get, slice_get-get_or}
use Rattle.std.proofs.lemmas.Slice.Eq.{slice_eq-Decides}
use Rattle.vob_block.proofs.PackingLemmas.{true_inside}
use Rattle.vob_flow.specs.Lists.{lists_of}
use Rattle.vob_lr.specs.ItemSets.{InClosure, IsAdvanced, IsGoto}
use Rattle.vob_lr.specs.Ahead.{AreAhead, symbol_with}
use Rattle.vob_lr.specs.Nodes.{AreRising}
use Rattle.vob_lr.specs.Rounds.{AreMovesBut, AreMovesFrom, AreRounds, AreSome, Extends, HasEntered}
use Rattle.vob_lr.specs.States.{AreGiven, AreMoves, AreStates, IsAhead, IsMove, IsStart, IsState, Precedes, targets_of}
use Rattle.vob_lr.specs.States.IsState.{start, after}
use Rattle.vob_lr.specs.declared.grammar.Grammar.{Grammar}
use Rattle.vob_lr.specs.declared.grammar.Rule.{Rule}
use Rattle.vob_lr.specs.declared.grammar.Symbol.{Symbol}
use Rattle.vob_lr.specs.declared.state.Move.{Move}
use Rattle.vob_lr.proofs.AheadLemmas.{number_precedes}
use Rattle.vob_lr.proofs.SetLemmas.{same_those}
use Rattle.vob_walk.specs.Left.{AreMatches, is_left}
use Rattle.vob_walk.specs.Matches.{matches}
use Rattle.vob_walk.proofs.IndexLemmas.{first_value, left_all, left_none, left_other, matches_after, matches_all, matches_rise}

-- ---- sets of items

-- an element at another default
at_default : (sets : List (List ℕ)) (i : ℕ) (d : List ℕ) → i < length sets →
    get_or sets i d ≡ get_or sets i []
at_default sets i d less =
    get_or_from_slice_get sets i (get_or sets i []) d (slice_get-get_or sets i [] less)

pub state_rises : (rules : List Rule) {set : List ℕ} → IsState rules set → AllPairs (λ i j. i < j) set
state_rises rules (start h) = h.rise
state_rises rules (after x state ahead h) = h.rise

pub AreRising-states : (rules : List Rule) (sets : List (List ℕ)) → All (IsState rules) sets → AreRising sets
AreRising-states rules sets each = λ k d less. state_rises rules (each k d less)

-- ---- more sets

module _ (rules : List Rule) where
  pub Extends-itself : (sets : List (List ℕ)) → Extends sets sets
  Extends-itself sets = ([], sym (append-nil sets))

  Extends-both : (sets mid after : List (List ℕ)) → Extends sets mid → Extends mid after →
      Extends sets after
  Extends-both sets mid more (xs, one) (ys, two) =
      (xs ++ ys, two ∙ ap (λ zs. zs ++ ys) one ∙ append_assoc sets xs ys)

  extended_at : (sets more : List (List ℕ)) → Extends sets more → (i : ℕ) → i < length sets →
      (i < length more) × (get_or more i [] ≡ get_or sets i [])
  extended_at sets more (xs, is) i less = (
    omega (arith, less, ap length is, length-append sets xs),
    ap (λ zs. get_or zs i []) is ∙ get_or_append_left sets xs [] i less,
  )

  pub IsMove-extended : (sets more : List (List ℕ)) → Extends sets more → (set : List ℕ)
      (move : Move) → IsMove rules sets set move → IsMove rules more set move
  IsMove-extended sets more e set move h =
      let at = extended_at sets more e move.state h.inside in record {
        ahead = h.ahead;
        inside = at.0;
        goto = subst (λ (xs : List ℕ). IsGoto rules set move.symbol xs) (sym at.1) h.goto;
      }

  pub AreMoves-extended : (sets more : List (List ℕ)) → Extends sets more → (set : List ℕ)
      (moves : List Move) → AreMoves rules sets set moves → AreMoves rules more set moves
  AreMoves-extended sets more e set moves h = record {
    each = λ k d less. IsMove-extended sets more e set _ (h.each k d less);
    all = h.all;
    rise = h.rise;
  }

  -- a set that was entered
  module _ (sets : List (List ℕ)) (set : List ℕ) (more : List (List ℕ)) (p : ℕ)
      (h : HasEntered sets set more p) where
    Extends-entered : Extends sets more
    Extends-entered = elim h.added [
      | inl same ↦ ([], same ∙ sym (append-nil sets))
      | inr new ↦ (set ∷ [], new.0)
    ]

    AreSome-entered : AreSome rules sets → IsState rules set → AreSome rules more
    AreSome-entered some state = elim h.added [
      | inl same ↦ subst (λ (xs : List (List ℕ)). AreSome rules xs) (sym same) some
      | inr new ↦ subst (λ (xs : List (List ℕ)). AreSome rules xs) (sym new.0) record {
        each = All-push (IsState rules) sets set some.each state;
        once = all_pairs_push (λ one other. one ≢ other) sets set some.once
            (λ k d less. new.1 k d less);
      }
    ]

-- ---- numbers given one after another

given_append : (n : ℕ) (ps : List ℕ) (m : ℕ) (qs : List ℕ) (k : ℕ) → AreGiven n ps m →
    AreGiven m qs k → AreGiven n (ps ++ qs) k
given_append n [] m qs k h g = subst (λ (j : ℕ). AreGiven j qs k) (sym h) g
given_append n (p ∷ ps) m qs k h g = elim h [
  | inl low ↦ inl (low.0, given_append n ps m qs k low.1 g)
  | inr next ↦ inr (next.0, given_append (n + 1) ps m qs k next.1 g)
]

module _ (rules : List Rule) (sets : List (List ℕ)) (set : List ℕ) (more : List (List ℕ))
    (p : ℕ) (h : HasEntered sets set more p) where
  entered_given : AreGiven (length sets) (p ∷ []) (length more)
  entered_given = elim h.added [
    | inl same ↦ inl (omega (arith, h.inside, ap length same), sym (ap length same))
    | inr new ↦
        let long = ap length new.0 ∙ length_push sets set in
        let past : length sets ≤ p = elim (cases_lt p (length sets)) [
          | inl low ↦
              absurd (new.1 p [] low (sym (get_or_append_left sets (set ∷ []) [] p low)
              ∙ (sym (ap (λ zs. get_or zs p []) new.0) ∙ h.there)))
          | inr past ↦ past
        ] in
        inr (omega (arith, past, h.inside, long), sym long)
  ]

  -- the state that a move leads to is given
  pub one_given : (n : ℕ) (moves : List Move) →
      AreGiven n (map (λ move. move.state) moves) (length sets) → (move : Move) → move.state ≡ p →
      AreGiven n (map (λ move. move.state) (moves ++ move ∷ [])) (length more)
  one_given n moves given move is =
      let whole = map-append (λ (m : Move). m.state) moves (move ∷ []) in
      rw whole
      (given_append n (map (λ (m : Move). m.state) moves) (length sets) (move.state ∷ []) (length more)
      given (subst (λ (k : ℕ). AreGiven (length sets) (k ∷ []) (length more)) (sym is) entered_given))

targets_more : (moves : List (List Move)) (row : List Move) →
    targets_of (moves ++ row ∷ []) ≡ targets_of moves ++ map (λ move. move.state) row
targets_more moves row =
    flat_map-append (λ (ms : List Move). map (λ m. m.state) ms) moves (row ∷ [])
    ∙ ap (λ zs. targets_of moves ++ zs)
    (flat_map-cons (λ (ms : List Move). map (λ m. m.state) ms) row []
    ∙ append-nil (map (λ (m : Move). m.state) row))

-- the same of lists
HasEntered-found : (sets : List (Vec ℕ Global)) (items : List ℕ) (p : ℕ) → p < length sets →
    get_or (lists_of sets) p [] ≡ items → HasEntered (lists_of sets) items (lists_of sets) p
HasEntered-found sets items p less there = record {
  inside = omega (arith, less, length-map sets (λ v. v.items));
  there = there;
  added = inl refl;
}

HasEntered-pushed : (sets : List (Vec ℕ Global)) (set : Vec ℕ Global) →
    All (λ own. own ≢ set.items) (lists_of sets) → (p : ℕ) → p ≡ length sets →
    HasEntered (lists_of sets) set.items (lists_of (sets ++ set ∷ [])) p
HasEntered-pushed sets set none p last =
    let whole = map-append (λ (v : Vec ℕ Global). v.items) sets (set ∷ []) in
    let here : length (lists_of sets) ≡ p = omega (arith, last, length-map sets (λ v. v.items)) in
    rw whole record {
      inside = omega (arith, here, length_push (lists_of sets) set.items);
      there = get_or_push (lists_of sets) set.items [] p here;
      added = inr (refl, none);
    }

-- a set that is inserted among others
abbrev same_list : Vec ℕ Global → Vec ℕ Global → Bool
same_list v w = pointwise (λ m n. m == n) v.items w.items

same_decides : (v w : Vec ℕ Global) → Decides (same_list v w) (v.items ≡ w.items)
same_decides v w = slice_eq-Decides Decides-eqb v.items w.items (same_list v w) refl

pub HasEntered-inserted : (sets : List (Vec ℕ Global)) (set : Vec ℕ Global) (made : List (Vec ℕ Global)) (p : ℕ) →
    made ≡ insert_key same_list sets set → p ≡ position_or_len (same_list set) sets →
    HasEntered (lists_of sets) set.items (lists_of made) p
HasEntered-inserted sets set made p is at = elim (cases_Bool (list_any (same_list set) sets)) [
  | inl here ↦
      let (k, own, low, found, equal) = Any-from_list_any (same_list set) sets here in
      let less : p < length sets = elim (cases_lt p (length sets)) [
        | inl low ↦ low
        | inr past ↦ absurd (false≢true (sym (fails_before_first (same_list set) sets k own (omega (arith, low, past, at)))
            ∙ ap (same_list set) found ∙ equal))
      ] in
      let there = passes_at_first (same_list set) sets set (omega (arith, less, at)) in
      rw (is ∙ ap (λ b. if b then sets else sets ++ set ∷ []) here)
      (HasEntered-found sets set.items p less (get_or-map (λ (v : Vec ℕ Global). v.items) sets p set [] less
      ∙ ap (λ n. (get_or sets n set).items) at ∙ sym ((same_decides set (get_or sets (position_or_len (same_list set) sets) set)).0 there)))
  | inr none ↦
      let apart : (k : ℕ) (d : Vec ℕ Global) → k < length sets → same_list set (get_or sets k d) ≡ false =
      λ k d low. elim (cases_Bool (same_list set (get_or sets k d))) [
        | inl on ↦ absurd (false≢true (sym none ∙ list_any_at (same_list set) sets k d low on))
        | inr off ↦ off
      ] in
      rw (is ∙ ap (λ b. if b then sets else sets ++ set ∷ []) none)
      (HasEntered-pushed sets set
      (λ k d low same.
      let less : k < length sets = omega (arith, low, length-map sets (λ v. v.items)) in
      false≢true (sym (apart k set less)
      ∙ (same_decides set (get_or sets k set)).1 (sym (sym (get_or-map (λ (v : Vec ℕ Global). v.items) sets k set d less) ∙ same))))
      p (at ∙ position_or_len_is (same_list set) sets (length sets) set (omega arith) (λ k low. apart k set low)
      (λ low. absurd (omega (arith, low)))))
]

-- the first one
pub entered_first : {set : List ℕ} {made : List (List ℕ)} {p : ℕ} → HasEntered [] set made p → made ≡ set ∷ []
entered_first {made} h = elim h.added [
  | inl none ↦ absurd (omega (arith, h.inside, ap length none))
  | inr both ↦ both.0
]

pub still_there : (before sets : List (Vec ℕ Global)) → Extends (lists_of before) (lists_of sets) →
    (p : ℕ) → p < length before → p < length sets
still_there before sets (more, is) p less =
    omega (
      arith,
      less,
      ap length is,
      length-append (lists_of before) more,
      length-map before (λ v. v.items),
      length-map sets (λ v. v.items),
    )

-- a set that is read is a state, as it was before there were more
pub state_read : (rules : List Rule) (before sets : List (Vec ℕ Global)) →
    AreSome rules (lists_of sets) → Extends (lists_of before) (lists_of sets) → (p : ℕ) →
    p < length before → (set : Vec ℕ Global) → slice_get sets p ≡ Some set →
    (set.items ≡ get_or (lists_of before) p []) × IsState rules (get_or (lists_of before) p [])
state_read rules before sets some more p less set read =
    let at = extended_at rules (lists_of before) (lists_of sets) more p
    (omega (arith, less, length-map before (λ v. v.items))) in
    let low : p < length sets = omega (arith, at.0, length-map sets (λ v. v.items)) in
    let own = ap (λ (v : Vec ℕ Global). v.items) (sym (get_or_from_slice_get sets p set set read))
    ∙ sym (get_or-map (λ (v : Vec ℕ Global). v.items) sets p set [] low) in
    (own ∙ at.1, subst (λ (xs : List ℕ). IsState rules xs) at.1 (some.each p [] at.0))

-- ---- the moves of a state

Any-pushed : (P : Move → Type 0) (moves : List Move) (move : Move) → Any P moves →
    Any P (moves ++ move ∷ [])
Any-pushed P moves move (k, x, less, is, holds) = (
  k,
  x,
  omega (arith, less, length_push moves move),
  get_or_append_left moves (move ∷ []) x k less ∙ is,
  holds,
)

Any-last : (P : Move → Type 0) (moves : List Move) (move : Move) → P move →
    Any P (moves ++ move ∷ [])
Any-last P moves move holds = (
  length moves,
  move,
  omega (arith, length_push moves move),
  get_or_push moves move move (length moves) refl,
  holds,
)

module _ (grammar : Grammar) (set : List ℕ) (ahead : List Bool) (is : AreAhead grammar set ahead) where
  pub AreMovesBut-start : (sets : List (List ℕ)) (left : List ℕ) →
      left ≡ matches ahead true Unbounded Unbounded →
      AreMovesBut grammar sets set ahead left []
  AreMovesBut-start sets left all = record {
    matches = subst (λ (xs : List ℕ). AreMatches ahead true Unbounded Unbounded xs) (sym all)
        (matches_all ahead true Unbounded Unbounded);
    left_rises = subst (λ (xs : List ℕ). AllPairs (λ i j. i < j) xs) (sym all)
        (matches_rise ahead true Unbounded Unbounded);
    each = All-nil (IsMove grammar.rules.items sets set);
    rise = λ i j d less low. absurd (omega (arith, less, low));
    before = All-nil (λ (m : Move).
        All (λ k. Precedes m.symbol (symbol_with grammar.terminals k)) left);
    done = λ k there gone.
        let here = left_all ahead true Unbounded Unbounded k (true_inside ahead k there) refl there in
        absurd (false≢true (sym gone ∙ ap (λ (xs : List ℕ). is_left xs k) all ∙ here));
  }

  module _ (sets : List (List ℕ)) (given : List ℕ) (k : ℕ) (left : List ℕ)
      (e : given ≡ k ∷ left) (moves : List Move)
      (h : AreMovesBut grammar sets set ahead given moves) where
    now : AreMovesBut grammar sets set ahead (k ∷ left) moves
    now = subst (λ (xs : List ℕ). AreMovesBut grammar sets set ahead xs moves) e h

    -- the next symbol is ahead
    next_ahead : IsAhead grammar.rules.items set (symbol_with grammar.terminals k)
    next_ahead = is.only k (first_value ahead true Unbounded Unbounded k left now.matches)

    next_state : IsState grammar.rules.items set → (next : List ℕ) →
        IsGoto grammar.rules.items set (symbol_with grammar.terminals k) next →
        IsState grammar.rules.items next
    next_state state next goto = after (symbol_with grammar.terminals k) state next_ahead goto

    -- its move is one more
    AreMovesBut-step : (next : List ℕ) →
        IsGoto grammar.rules.items set (symbol_with grammar.terminals k) next →
        (more : List (List ℕ)) (p : ℕ) → HasEntered sets next more p → (move : Move) →
        move.symbol ≡ symbol_with grammar.terminals k → move.state ≡ p →
        AreMovesBut grammar more set ahead left (moves ++ move ∷ [])
    AreMovesBut-step next goto more p entered move symbol state =
        let extends = Extends-entered grammar.rules.items sets next more p entered in
        let own : IsMove grammar.rules.items more set move = record {
          ahead = subst (λ (x : Symbol). IsAhead grammar.rules.items set x) (sym symbol) next_ahead;
          inside = omega (arith, state, entered.inside);
          goto = subst (λ (x : Symbol). IsGoto grammar.rules.items set x (get_or more move.state []))
              (sym symbol)
              (subst (λ (xs : List ℕ).
              IsGoto grammar.rules.items set (symbol_with grammar.terminals k) xs)
              (sym (ap (λ n. get_or more n []) state ∙ entered.there)) goto);
        } in record {
          matches = matches_after ahead true Unbounded Unbounded k left now.matches;
          left_rises = λ i j d less low.
              now.left_rises (suc i) (suc j) d (omega (arith, less)) (omega (arith, low));
          rise = all_pairs_push (λ (m n : Move). Precedes m.symbol n.symbol) moves move now.rise
              (λ i d low. subst (λ (x : Symbol). Precedes (get_or moves i d).symbol x) (sym symbol)
              (All-head (λ j. Precedes (get_or moves i d).symbol (symbol_with grammar.terminals j)) k
              left (now.before i d low)));
          before = All-push
              (λ (m : Move). All (λ j. Precedes m.symbol (symbol_with grammar.terminals j)) left)
              moves move
              (λ i d low.
              All-tail (λ j. Precedes (get_or moves i d).symbol (symbol_with grammar.terminals j)) k
              left (now.before i d low))
              (λ i d low.
              subst (λ (x : Symbol). Precedes x (symbol_with grammar.terminals (get_or left i d)))
              (sym symbol)
              (number_precedes grammar.terminals k (get_or left i d)
              (now.left_rises 0 (suc i) d (omega arith) (omega (arith, low)))));
          each = All-push (IsMove grammar.rules.items more set) moves move
              (λ i d less.
              IsMove-extended grammar.rules.items sets more extends set _ (now.each i d less)) own;
          done = λ j there gone. elim (cases_eq j k) [
            | inl same ↦
                Any-last (λ m. m.symbol ≡ symbol_with grammar.terminals j) moves move
                (symbol ∙ ap (symbol_with grammar.terminals) (sym same))
            | inr other ↦
                Any-pushed (λ m. m.symbol ≡ symbol_with grammar.terminals j) moves move
                (now.done j there (left_other k left j other ∙ gone))
          ];
        }

  -- and what was found so far grows with it
  module _ (before : List (List ℕ)) (state : IsState grammar.rules.items set) where
    pub moves_go_on : (sets : List (List ℕ)) (given : List ℕ) (k : ℕ) (left : List ℕ) →
        given ≡ k ∷ left → (moves : List Move) → AreSome grammar.rules.items sets →
        Extends before sets → AreMovesBut grammar sets set ahead given moves →
        (own : List ℕ) → own ≡ set → (next : List ℕ) (move : Move) →
        IsGoto grammar.rules.items own move.symbol next →
        (more : List (List ℕ)) (p : ℕ) → HasEntered sets next more p →
        move.symbol ≡ symbol_with grammar.terminals k → move.state ≡ p →
        AreSome grammar.rules.items more × Extends before more
        × AreMovesBut grammar more set ahead left (moves ++ move ∷ [])
    moves_go_on sets given k left e moves some grown h own same next move to more p entered symbol at =
        let goto = subst (λ (xs : List ℕ).
        IsGoto grammar.rules.items xs (symbol_with grammar.terminals k) next) same
        (subst (λ (x : Symbol). IsGoto grammar.rules.items own x next) symbol to) in (
          AreSome-entered grammar.rules.items sets next more p entered some
              (next_state sets given k left e moves h state next goto),
          Extends-both grammar.rules.items before sets more grown
              (Extends-entered grammar.rules.items sets next more p entered),
          AreMovesBut-step sets given k left e moves h next goto more p entered move symbol at,
        )

  pub AreMoves-whole : (sets : List (List ℕ)) (left : List ℕ) → left ≡ [] →
      (moves : List Move) → AreMovesBut grammar sets set ahead left moves →
      AreMoves grammar.rules.items sets set moves
  AreMoves-whole sets left none moves h = record {
    each = h.each;
    rise = h.rise;
    all = λ x found.
        let (k, there, named) = is.each x found in
        let gone = ap (λ (xs : List ℕ). is_left xs k) none ∙ left_none k in
        subst (λ (y : Symbol). Any (λ (m : Move). m.symbol ≡ y) moves) named (h.done k there gone);
  }

-- ---- one state after another

module _ (rules : List Rule) where
  pub AreRounds-start : (set : List ℕ) → IsStart rules set → AreRounds rules (set ∷ []) []
  AreRounds-start set h = record {
    some = record {
      each = All-push (IsState rules) [] set (All-nil (IsState rules)) (start h);
      once = λ i j d less low. absurd (omega (arith, less, low));
    };
    inside = omega arith;
    first = h;
    count = omega arith;
    given = refl;
    moves_of = λ q less. absurd (omega (arith, less));
  }

module _ (grammar : Grammar) (sets : List (List ℕ)) (moves : List (List Move))
    (h : AreRounds grammar.rules.items sets moves) where
  pub AreRounds-step : length moves < length sets → (more : List (List ℕ)) (row : List Move) →
      AreMovesFrom grammar sets (length moves) more row →
      AreRounds grammar.rules.items more (moves ++ row ∷ [])
  AreRounds-step low more row m =
      let rules = grammar.rules.items in
      let first = extended_at rules sets more m.more 0 h.inside in
      let last = extended_at rules sets more m.more (length moves) low in record {
        some = m.some;
        inside = first.0;
        first = subst (λ (xs : List ℕ). IsStart rules xs) (sym first.1) h.first;
        count = omega (arith, last.0, length_push moves row);
        given = rw (targets_more moves row)
            (given_append 1 (targets_of moves) (length sets) (map (λ (n : Move). n.state) row)
            (length more) h.given m.given);
        moves_of = λ q less. elim (cases_lt q (length moves)) [
          | inl before ↦
              let at = extended_at rules sets more m.more q (omega (arith, before, low)) in
              subst (λ (xs : List ℕ).
              AreMoves rules more xs (get_or (moves ++ row ∷ []) q [])) (sym at.1)
              (subst (λ (ms : List Move). AreMoves rules more (get_or sets q []) ms)
              (sym (get_or_append_left moves (row ∷ []) [] q before))
              (AreMoves-extended rules sets more m.more _ _ (h.moves_of q before)))
          | inr past ↦
              let here : length moves ≡ q = omega (arith, past, less, length_push moves row) in
              subst (λ (n : ℕ).
              AreMoves rules more (get_or more n []) (get_or (moves ++ row ∷ []) n [])) here
              (subst (λ (xs : List ℕ).
              AreMoves rules more xs (get_or (moves ++ row ∷ []) (length moves) [])) (sym last.1)
              (subst (λ (ms : List Move). AreMoves rules more (get_or sets (length moves) []) ms)
              (sym (get_or_push moves row [] (length moves) refl)) m.moves_of))
        ];
      }

module _ (rules : List Rule) (sets : List (List ℕ)) (moves : List (List Move))
    (h : AreRounds rules sets moves) (all : length sets ≤ length moves) where
  -- each state is one of them
  state_found : {set : List ℕ} → IsState rules set → Contains sets set
  state_found {set} (start first) = (
    0,
    h.inside,
    at_default sets 0 set h.inside
        ∙ same_those (InClosure rules (λ i. i ≡ 0)) _ set h.first first,
  )
  state_found {set} (after {set = before} {next} x state ahead goto) =
      let (q, low, is) = state_found state in
      let row = h.moves_of q (omega (arith, low, all)) in
      let own : get_or sets q [] ≡ before = sym (at_default sets q before low) ∙ is in
      let there = subst (λ (xs : List ℕ). IsAhead rules xs x) (sym own) ahead in
      let (k, move, less, read, named) = row.all x there in
      let m = subst (λ (z : Move). IsMove rules sets (get_or sets q []) z) read
      (row.each k move less) in
      let to = subst (λ (y : Symbol). IsGoto rules (get_or sets q []) y (get_or sets move.state []))
      named m.goto in
      let reach = subst (λ (xs : List ℕ). IsGoto rules xs x (get_or sets move.state []))
      own to in (
        move.state,
        m.inside,
        at_default sets move.state next m.inside
            ∙ same_those (InClosure rules (IsAdvanced rules before x)) _ next reach goto,
      )

  pub AreStates-whole : AreStates rules sets moves
  AreStates-whole = record {
    first = h.first;
    each = h.some.each;
    all = λ set state. state_found state;
    once = h.some.once;
    order = h.given;
    count = omega (arith, h.count, all);
    moves_of = λ q less. h.moves_of q (omega (arith, less, all));
  }
