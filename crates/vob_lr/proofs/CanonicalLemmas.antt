-- LALR(1) merges the states of canonical LR(1) that have the same items.
use Rattle.std.proofs.Common.{◌≡◌, ℕ, ◌+◌, ◌<◌, ◌⊎◌, inl, inr, List, [], ◌∷◌, ◌++◌, length, get_or, drop, None, Option, Some, refl, sym, subst, arith}
use Rattle.std.specs.List.{All, Contains}
use Rattle.std.proofs.lemmas.Bool.{cases_lt}
use Rattle.std.proofs.lemmas.List.{append-nil, append_assoc}
use Rattle.std.proofs.lemmas.Option.{none-some, same_Some}
use Rattle.vob_lr.specs.Becoming.{Becomes}
use Rattle.vob_lr.specs.Canonical.{HasSameItems, IsProductive, IsValid, LeadsBy, LookaheadsAreMerged, StatesAreMerged}
use Rattle.vob_lr.specs.Canonical.IsValid.{start, begins, passes, keeps}
use Rattle.vob_lr.specs.Faults.{IsSymbol}
use Rattle.vob_lr.specs.Grammar.{BecomesEmpty, BeginsWith}
use Rattle.vob_lr.specs.ItemSets.{HasItem, InClosure, IsGoto}
use Rattle.vob_lr.specs.ItemSets.InClosure.{inside, expands}
use Rattle.vob_lr.specs.Lookaheads.{HasMove, HasNextThen, LooksAhead, Machine}
use Rattle.vob_lr.specs.Lookaheads.LooksAhead.{begins as state_begins, passes as state_passes, keeps as state_keeps}
use Rattle.vob_lr.specs.States.{IsState}
use Rattle.vob_lr.specs.States.IsState.{start as first_state, after as next_state}
use Rattle.vob_lr.specs.declared.grammar.Rule.{Rule}
use Rattle.vob_lr.specs.declared.grammar.Symbol.{Symbol}
use Rattle.vob_lr.specs.declared.state.Move.{Move}
use Rattle.vob_lr.proofs.CompleteLemmas.{empty_becomes, first_becomes}
use Rattle.vob_lr.proofs.LinkLemmas.{move_inside}
use Rattle.vob_lr.proofs.MemberLemmas.{member_advances, member_closed, move_leads, moves_on}
use Rattle.vob_lr.proofs.PrefixLemmas.{tail_own}
use Rattle.vob_lr.proofs.RightmostLemmas.{own_becomes}
use Rattle.vob_lr.proofs.SetLemmas.{same_rising, same_those, set_inside}
use Rattle.vob_lr.proofs.StateLemmas.{state_rises}

-- ---- one move more

module _ (moves : List (List Move)) where
  leads_further : (xs : List Symbol) (q n p : ℕ) (x : Symbol) → LeadsBy moves q xs n →
      HasMove moves n x p → LeadsBy moves q (xs ++ x ∷ []) p
  leads_further [] q n p x same move =
      (p, subst (λ (k : ℕ). HasMove moves k x p) (sym same) move, refl)
  leads_further (y ∷ xs) q n p x (k, first, rest) move =
      (k, first, leads_further xs k n p x rest move)

  leads_back : (xs : List Symbol) (q p : ℕ) (x : Symbol) → LeadsBy moves q (xs ++ x ∷ []) p →
      (n : ℕ) × LeadsBy moves q xs n × HasMove moves n x p
  leads_back [] q p x (n, move, same) =
      (q, refl, subst (λ (k : ℕ). HasMove moves q x k) same move)
  leads_back (y ∷ xs) q p x (k, first, rest) =
      let (n, way, move) = leads_back xs k p x rest in
      (n, (k, first, way), move)

module _ (m : Machine) (h : IsProductive m) where
  abbrev rules : List Rule
  rules = m.grammar.rules.items

  -- ---- what is valid after symbols is in the state to which they lead

  back : (xs ys : List Symbol) (x : Symbol) (q : ℕ) → ys ≡ xs ++ x ∷ [] → LeadsBy m.moves 0 ys q →
      (n : ℕ) × LeadsBy m.moves 0 xs n × HasMove m.moves n x q
  back xs ys x q same way =
      leads_back m.moves xs 0 q x (subst (λ (zs : List Symbol). LeadsBy m.moves 0 zs q) same way)

  valid_inside : {xs : List Symbol} {i : ℕ} {ahead : Option ℕ} → IsValid rules xs i ahead →
      (q : ℕ) → LeadsBy m.moves 0 xs q → HasItem m.sets q i
  valid_inside start q way =
      subst (λ (k : ℕ). HasItem m.sets k 0) way ((h.states.first.each 0).1 (inside refl))
  valid_inside (begins {j = j} {a = a} {i = i} v next b opens) q way =
      member_closed m h.states q j a i (valid_inside v q way) next.next opens
  valid_inside (passes {j = j} {a = a} {i = i} v next e opens) q way =
      member_closed m h.states q j a i (valid_inside v q way) next.next opens
  valid_inside (keeps {xs} {ys} {j} {x} v next same) q way =
      let (n, before, move) = back xs ys x q same way in
      member_advances m h.states n j x q (valid_inside v n before) next move

  pub valid_ahead : {xs : List Symbol} {i : ℕ} {ahead : Option ℕ} → IsValid rules xs i ahead →
      (t : ℕ) → ahead ≡ Some t → (q : ℕ) → LeadsBy m.moves 0 xs q → LooksAhead m t q i
  valid_ahead start t is q way = absurd (none-some t is)
  valid_ahead (begins {rest = rest} {t = u} v next b opens) t is q way =
      let own = subst (λ (n : ℕ). BeginsWith rules n rest) (same_Some u t is) b in
      state_begins (valid_inside v q way) next own opens
  valid_ahead (passes v next e opens) t is q way =
      state_passes (valid_ahead v t is q way) next e opens
  valid_ahead (keeps {xs} {ys} {j} {x} v next same) t is q way =
      let (n, before, move) = back xs ys x q same way in
      state_keeps (valid_ahead v t is n before) next move

  -- and moves lead by symbols after which an item is valid
  valid_led : {xs : List Symbol} {i : ℕ} {ahead : Option ℕ} → IsValid rules xs i ahead →
      (q : ℕ) × LeadsBy m.moves 0 xs q
  valid_led start = (0, refl)
  valid_led (begins v next b opens) = valid_led v
  valid_led (passes v next e opens) = valid_led v
  valid_led (keeps {xs} {ys} {j} {x} v next same) =
      let (q, way) = valid_led v in
      let (p, move) = moves_on m h.states q j x (valid_inside v q way) next in (
        p,
        subst (λ (zs : List Symbol). LeadsBy m.moves 0 zs p) (sym same)
            (leads_further m.moves xs 0 q p x way move),
      )

  -- ---- symbols lead to each state

  state_led : {set : List ℕ} → IsState rules set → (q : ℕ) × (q < length m.sets)
      × (get_or m.sets q [] ≡ set) × (xs : List Symbol) × LeadsBy m.moves 0 xs q
  state_led {set} (first_state first) =
      let there = (h.states.first.each 0).1 (inside refl) in
      (0, set_inside m.sets 0 0 there, same_those _ _ set h.states.first first, [], refl)
  state_led (next_state {next = next} x state (i, own, ahead) goto) =
      let (q, less, at, xs, way) = state_led state in
      let there = subst (λ (zs : List ℕ). Contains zs i) (sym at) own in
      let (p, move) = moves_on m h.states q i x there ahead in
      let to = move_leads m h.states q x p less move in
      let reach = subst (λ (zs : List ℕ). IsGoto rules zs x (get_or m.sets p [])) at to.goto in (
        p,
        to.inside,
        same_those _ _ next reach goto,
        xs ++ x ∷ [],
        leads_further m.moves xs 0 q p x way move,
      )

  -- states with the same items are one
  same_state : (q p : ℕ) → q < length m.sets → p < length m.sets →
      get_or m.sets q [] ≡ get_or m.sets p [] → q ≡ p
  same_state q p less low same = elim (cases_lt q p) [
    | inl before ↦ absurd (h.states.once q p [] before low same)
    | inr past ↦ elim (cases_lt p q) [
      | inl after ↦ absurd (h.states.once p q [] after less (sym same))
      | inr over ↦ omega (arith, past, over)
    ]
  ]

  led : (q : ℕ) → q < length m.sets → (xs : List Symbol) × LeadsBy m.moves 0 xs q
  led q less =
      let (p, low, same, xs, way) = state_led (h.states.each q [] less) in
      (xs, subst (λ (k : ℕ). LeadsBy m.moves 0 xs k) (same_state p q low less same) way)

  -- and each has an item
  state_some : {set : List ℕ} → IsState rules set → (i : ℕ) × Contains set i
  state_some (first_state first) = (0, (first.each 0).1 (inside refl))
  state_some (next_state x state (i, own, ahead) goto) =
      (i + 1, (goto.each (i + 1)).1 (inside (i, own, ahead, refl)))

  -- ---- what is in a state is valid after the symbols that lead to it

  -- symbols can become empty, or a terminal can begin them
  empty_or_begins : (ys : List Symbol) → All (IsSymbol m.grammar.terminals m.grammar.nonterminals) ys →
      BecomesEmpty rules ys ⊎ ((t : ℕ) × BeginsWith rules t ys)
  empty_or_begins ys own = let (ts, rs, b) = own_becomes m.grammar h.each ys own in by_first ts rs b
    where
      by_first : (ts rs : List ℕ) → Becomes rules ys ts rs →
          BecomesEmpty rules ys ⊎ ((t : ℕ) × BeginsWith rules t ys)
      by_first [] rs b = inl (empty_becomes rules b refl)
      by_first (t ∷ ts) rs b = inr (t, first_becomes rules b t ts refl)

  -- an item is valid, with a terminal ahead or nothing
  abbrev IsFound : List Symbol → ℕ → Type 0
  IsFound xs i = (ahead : Option ℕ) × IsValid rules xs i ahead

  found_closed : {Start : ℕ → Type 0} (xs : List Symbol) → ((i : ℕ) → Start i → IsFound xs i) →
      {i : ℕ} → InClosure rules Start i → IsFound xs i
  found_closed xs from (inside {i} there) = from i there
  found_closed xs from (expands {i} {j} {a} there next opens) =
      let (ahead, v) = found_closed xs from there in
      let d = next.item.dot + 1 in
      let then_it : HasNextThen rules j a (drop d next.is.rule.right.items) =
      record { next = next; then_rest = refl } in
      elim (empty_or_begins (drop d next.is.rule.right.items)
      (tail_own m.grammar h.rules j d next.item next.is)) [
        | inl empty ↦ (ahead, passes v then_it empty opens)
        | inr first ↦ (Some first.0, begins v then_it first.1 opens)
      ]

  found_along : (xs zs : List Symbol) (q p : ℕ) → ((i : ℕ) → HasItem m.sets q i → IsFound zs i) →
      LeadsBy m.moves q xs p → (i : ℕ) → HasItem m.sets p i → IsFound (zs ++ xs) i
  found_along [] zs q p from same i there =
      subst (λ (ys : List Symbol). IsFound ys i) (sym (append-nil zs))
      (from i (subst (λ (k : ℕ). HasItem m.sets k i) (sym same) there))
  found_along (x ∷ xs) zs q p from (n, move, way) i there =
      let to = move_leads m h.states q x n (move_inside m h.states q x n move) move in
      let ys = zs ++ x ∷ [] in
      subst (λ (ws : List Symbol). IsFound ws i) (append_assoc zs (x ∷ []) xs)
      (found_along xs ys n p (λ k own.
      found_closed ys (λ l (j, before, next, e).
      let (ahead, v) = from j before in
      (ahead, subst (λ (k : ℕ). IsValid rules ys k ahead) e (keeps v next refl)))
      ((to.goto.each k).0 own)) way i there)

  inside_valid : (xs : List Symbol) (q : ℕ) → LeadsBy m.moves 0 xs q → (i : ℕ) →
      HasItem m.sets q i → IsFound xs i
  inside_valid xs q way =
      found_along xs [] 0 q (λ i own.
      found_closed [] (λ k e. (None, subst (λ (n : ℕ). IsValid rules [] n None) (sym e) start))
      ((h.states.first.each i).0 own)) way

  same_items : (q : ℕ) (xs : List Symbol) → LeadsBy m.moves 0 xs q → HasSameItems m q xs
  same_items q xs way i = (inside_valid xs q way i, (λ found. valid_inside found.1 q way))

  -- so a lookahead is ahead in canonical LR(1)
  pub ahead_valid : {t q i : ℕ} → LooksAhead m t q i →
      (xs : List Symbol) × LeadsBy m.moves 0 xs q × IsValid rules xs i (Some t)
  ahead_valid (state_begins {q} {j} {a} {i} own next b opens) =
      let (xs, way) = led q (set_inside m.sets q j own) in
      let (ahead, v) = inside_valid xs q way j own in
      (xs, way, begins v next b opens)
  ahead_valid (state_passes l next e opens) =
      let (xs, way, v) = ahead_valid l in
      (xs, way, passes v next e opens)
  ahead_valid (state_keeps {q} {j} {p} {x} l next move) =
      let (xs, way, v) = ahead_valid l in
      (xs ++ x ∷ [], leads_further m.moves xs 0 q p x way move, keeps v next refl)

  -- symbols after which the items are those of a state lead to it
  led_there : (q i : ℕ) (xs : List Symbol) → HasSameItems m q xs → HasItem m.sets q i →
      LeadsBy m.moves 0 xs q
  led_there q i xs same own =
      let found = (same i).0 own in
      let (p, way) = valid_led found.1 in
      let there = same_items p xs way in
      let less = set_inside m.sets q i own in
      let low = set_inside m.sets p i ((there i).1 found) in
      let sets = same_rising (get_or m.sets p []) (get_or m.sets q [])
      (state_rises rules (h.states.each p [] low)) (state_rises rules (h.states.each q [] less)) (λ n. (
        (λ here. (same n).1 ((there n).0 here)),
        (λ here. (there n).1 ((same n).0 here)),
      )) in
      subst (λ (k : ℕ). LeadsBy m.moves 0 xs k) (same_state p q low less sets) way

pub states_are_merged : StatesAreMerged
states_are_merged m h q xs less = (
  same_items m h q xs,
  (λ same.
      let (i, own) = state_some m h (h.states.each q [] less) in led_there m h q i xs same own),
)

pub lookaheads_are_merged : LookaheadsAreMerged
lookaheads_are_merged m h q i t = (
  (λ l. let (xs, way, v) = ahead_valid m h l in (xs, same_items m h q xs way, v)),
  (λ (xs, same, v). valid_ahead m h v t refl q (led_there m h q i xs same ((same i).1 (Some t, v)))),
)
