-- Canonical LR(1) of a grammar of two rules, worked out by hand and then from the definitions. The
-- nonterminal 0 becomes A 0 A 1, and A, which is the nonterminal 1, becomes the terminal 2. After 2
-- the item of A is complete before 0, and after A 0 2 before 1. LALR(1) merges the two.
use Rattle.std.proofs.Common.{◌≡◌, ℕ, zero, suc, ◌+◌, ◌≤◌, List, [], ◌∷◌, ◌++◌, length, get_or, drop, None, Option, Some, slice_get, refl, sym, ap, ◌∙◌, subst, arith}
use Rattle.std.proofs.lemmas.Option.{none-some, same_Some}
use Rattle.vob_lr.specs.Canonical.{IsValid}
use Rattle.vob_lr.specs.Canonical.IsValid.{start, begins, passes, keeps}
use Rattle.vob_lr.specs.Grammar.{BecomesEmpty, BeginsWith}
use Rattle.vob_lr.specs.Grammar.BeginsWith.{here}
use Rattle.vob_lr.specs.ItemSets.{Opens}
use Rattle.vob_lr.specs.Items.{HasNext, first_item}
use Rattle.vob_lr.specs.Lookaheads.{HasNextThen}
use Rattle.vob_lr.specs.declared.grammar.Rule.{Rule}
use Rattle.vob_lr.specs.declared.grammar.Symbol.{Symbol}
use Rattle.vob_lr.specs.declared.grammar.Symbol.TheVariants.{Terminal, Nonterminal}
use Rattle.tables_tests.proofs.WorkedGrammar.{begins_terminal, terminal_stays}

abbrev right_0 : List Symbol
right_0 = Nonterminal 1 ∷ Terminal 0 ∷ Nonterminal 1 ∷ Terminal 1 ∷ []

abbrev right_1 : List Symbol
right_1 = Terminal 2 ∷ []

-- the symbols behind the dots of the items, by their numbers
abbrev nexts : List (Option Symbol)
nexts = Some (Nonterminal 1) ∷ Some (Terminal 0) ∷ Some (Nonterminal 1) ∷ Some (Terminal 1) ∷ None
    ∷ Some (Terminal 2) ∷ None ∷ []

-- the items that are valid
data IsKnown : List Symbol → ℕ → Option ℕ → Type 0 where
  at_0 : IsKnown [] 0 None
  before_0 : IsKnown [] 5 (Some 0)
  complete_0 : IsKnown (Terminal 2 ∷ []) 6 (Some 0)
  at_1 : IsKnown (Nonterminal 1 ∷ []) 1 None
  at_2 : IsKnown (Nonterminal 1 ∷ Terminal 0 ∷ []) 2 None
  before_1 : IsKnown (Nonterminal 1 ∷ Terminal 0 ∷ []) 5 (Some 1)
  complete_1 : IsKnown (Nonterminal 1 ∷ Terminal 0 ∷ Terminal 2 ∷ []) 6 (Some 1)
  at_3 : IsKnown (Nonterminal 1 ∷ Terminal 0 ∷ Nonterminal 1 ∷ []) 3 None
  at_4 : IsKnown right_0 4 None

module _ (a b : Rule) (a_left : a.left ≡ 0) (a_right : a.right.items ≡ right_0) (b_left : b.left ≡ 1)
    (b_right : b.right.items ≡ right_1) where
  abbrev rules : List Rule
  rules = a ∷ b ∷ []

  five : first_item rules 1 ≡ 5
  five = omega (arith, ap length a_right)

  -- ---- what is valid

  next_0 : (d n : ℕ) (rest : List Symbol) → d ≤ 4 → slice_get right_0 d ≡ Some (Nonterminal n) →
      drop (d + 1) right_0 ≡ rest → HasNextThen rules d n rest
  next_0 d n rest less at then_it = record {
    next = record {
      item = record { rule = 0; dot = d };
      is = record { rule = a; is = refl; dot = omega (arith, less, ap length a_right); number = omega arith };
      next = ap (λ (xs : List Symbol). slice_get xs d) a_right ∙ at;
    };
    then_rest = ap (drop (d + 1)) a_right ∙ then_it;
  }

  next_1 : HasNext rules 1 (Terminal 0)
  next_1 = record {
    item = record { rule = 0; dot = 1 };
    is = record { rule = a; is = refl; dot = omega (arith, ap length a_right); number = omega arith };
    next = ap (λ (xs : List Symbol). slice_get xs 1) a_right;
  }

  next_5 : HasNext rules 5 (Terminal 2)
  next_5 = record {
    item = record { rule = 1; dot = 0 };
    is = record { rule = b; is = refl; dot = omega arith; number = omega (arith, five) };
    next = ap (λ (xs : List Symbol). slice_get xs 0) b_right;
  }

  opens : Opens rules 1 5
  opens = (1, b, refl, b_left, five)

  after_2 : IsValid rules (Terminal 2 ∷ []) 6 (Some 0)
  after_2 = keeps (begins start (next_0 0 1 _ (omega arith) refl refl) here opens) next_5 refl

  after_A02 : IsValid rules (Nonterminal 1 ∷ Terminal 0 ∷ Terminal 2 ∷ []) 6 (Some 1)
  after_A02 =
      let one : IsValid rules (Nonterminal 1 ∷ []) 1 None =
      keeps start (next_0 0 1 _ (omega arith) refl refl).next refl in
      let two : IsValid rules (Nonterminal 1 ∷ Terminal 0 ∷ []) 2 None = keeps one next_1 refl in
      keeps (begins two (next_0 2 1 _ (omega arith) refl refl) here opens) next_5 refl

  -- ---- and nothing else is

  first_next : (d : ℕ) (x : Symbol) → slice_get right_0 d ≡ Some x → get_or nexts d None ≡ Some x
  first_next zero x at = at
  first_next (suc zero) x at = at
  first_next (suc (suc zero)) x at = at
  first_next (suc (suc (suc zero))) x at = at
  first_next (suc (suc (suc (suc d)))) x at = absurd (none-some x at)

  next_at : (r d j : ℕ) (rule : Rule) (x : Symbol) → slice_get rules r ≡ Some rule →
      first_item rules r + d ≡ j → slice_get rule.right.items d ≡ Some x → get_or nexts j None ≡ Some x
  next_at zero d j rule x is number at =
      let own = sym (ap (λ (xs : List Symbol). slice_get xs d) a_right)
      ∙ ap (λ (y : Rule). slice_get y.right.items d) (same_Some a rule is) ∙ at in
      let same : d ≡ j = omega (arith, number) in
      subst (λ (n : ℕ). get_or nexts n None ≡ Some x) same (first_next d x own)
  next_at (suc zero) zero j rule x is number at =
      let own = sym (ap (λ (xs : List Symbol). slice_get xs 0) b_right)
      ∙ ap (λ (y : Rule). slice_get y.right.items 0) (same_Some b rule is) ∙ at in
      let same : 5 ≡ j = omega (arith, number, five) in
      subst (λ (n : ℕ). get_or nexts n None ≡ Some x) same own
  next_at (suc zero) (suc d) j rule x is number at =
      absurd (none-some x (sym (ap (λ (xs : List Symbol). slice_get xs (suc d)) b_right)
      ∙ ap (λ (y : Rule). slice_get y.right.items (suc d)) (same_Some b rule is) ∙ at))
  next_at (suc (suc r)) d j rule x is number at = absurd (none-some rule is)

  next_is : (j : ℕ) (x : Symbol) → HasNext rules j x → get_or nexts j None ≡ Some x
  next_is j x h = next_at h.item.rule h.item.dot j h.is.rule x h.is.is h.is.number h.next

  rest_at : (r d j : ℕ) (rule : Rule) → slice_get rules r ≡ Some rule → first_item rules r + d ≡ j →
      j ≤ 4 → drop (d + 1) rule.right.items ≡ drop (j + 1) right_0
  rest_at zero d j rule is number less =
      let same : d ≡ j = omega (arith, number) in
      sym (ap (λ (y : Rule). drop (d + 1) y.right.items) (same_Some a rule is))
      ∙ ap (drop (d + 1)) a_right ∙ ap (λ (n : ℕ). drop (n + 1) right_0) same
  rest_at (suc zero) d j rule is number less = absurd (omega (arith, number, five, less))
  rest_at (suc (suc r)) d j rule is number less = absurd (none-some rule is)

  rest_is : (j n : ℕ) (rest : List Symbol) → HasNextThen rules j n rest → j ≤ 4 →
      rest ≡ drop (j + 1) right_0
  rest_is j n rest h less =
      sym h.then_rest
      ∙ rest_at h.next.item.rule h.next.item.dot j h.next.is.rule h.next.is.is h.next.is.number less

  opens_is : (n i : ℕ) → Opens rules n i → n ≡ 1 → i ≡ 5
  opens_is n i (zero, rule, is, left, number) one =
      let same = ap (λ (y : Rule). y.left) (same_Some a rule is) in
      absurd (omega (arith, same, left, a_left, one))
  opens_is n i (suc zero, rule, is, left, number) one = omega (arith, five, number)
  opens_is n i (suc (suc r), rule, is, left, number) one = absurd (none-some rule is)

  module _ (j n i : ℕ) (rest : List Symbol) (h : HasNextThen rules j n rest) (o : Opens rules n i) where
    -- before a terminal the items of A have it ahead
    opened : (t k : ℕ) (more : List Symbol) {xs : List Symbol} → IsKnown xs 5 (Some k) → n ≡ 1 →
        rest ≡ Terminal k ∷ more → BeginsWith rules t rest → IsKnown xs i (Some t)
    opened t k more {xs} known one is first =
        let same = begins_terminal (subst (λ (ys : List Symbol). BeginsWith rules t ys) is first) in
        subst (λ (m : ℕ). IsKnown xs m (Some t)) (sym (opens_is n i o one))
        (subst (λ (m : ℕ). IsKnown xs 5 (Some m)) (sym same) known)

    symbol : get_or nexts j None ≡ Some (Nonterminal n)
    symbol = next_is j (Nonterminal n) h.next

  known_begins : {xs : List Symbol} {j : ℕ} {ahead : Option ℕ} → IsKnown xs j ahead → (n i t : ℕ)
      (rest : List Symbol) → HasNextThen rules j n rest → Opens rules n i → BeginsWith rules t rest →
      IsKnown xs i (Some t)
  known_begins at_0 n i t rest h o first =
      let e = symbol 0 n i rest h o in
      opened 0 n i rest h o t 0 _ before_0 (cc e) (rest_is 0 n rest h (omega arith)) first
  known_begins at_2 n i t rest h o first =
      let e = symbol 2 n i rest h o in
      opened 2 n i rest h o t 1 _ before_1 (cc e) (rest_is 2 n rest h (omega arith)) first
  known_begins {j = j} other n i t rest h o first = absurd (cc (symbol j n i rest h o))

  known_passes : {xs : List Symbol} {j : ℕ} {ahead : Option ℕ} → IsKnown xs j ahead → (n i : ℕ)
      (rest : List Symbol) → HasNextThen rules j n rest → Opens rules n i → BecomesEmpty rules rest → ⊥
  known_passes at_0 n i rest h o empty =
      terminal_stays 0 _ (subst (λ (ys : List Symbol). BecomesEmpty rules ys)
      (rest_is 0 n rest h (omega arith)) empty)
  known_passes at_2 n i rest h o empty =
      terminal_stays 1 _ (subst (λ (ys : List Symbol). BecomesEmpty rules ys)
      (rest_is 2 n rest h (omega arith)) empty)
  known_passes {j = j} other n i rest h o empty = absurd (cc (symbol j n i rest h o))

  known_keeps : {xs : List Symbol} {j : ℕ} {ahead : Option ℕ} → IsKnown xs j ahead → (x : Symbol) →
      get_or nexts j None ≡ Some x → IsKnown (xs ++ x ∷ []) (j + 1) ahead
  known_keeps at_0 x e = subst (λ (y : Symbol). IsKnown (y ∷ []) 1 None) (same_Some _ x e) at_1
  known_keeps before_0 x e =
      subst (λ (y : Symbol). IsKnown (y ∷ []) 6 (Some 0)) (same_Some _ x e) complete_0
  known_keeps at_1 x e =
      subst (λ (y : Symbol). IsKnown (Nonterminal 1 ∷ y ∷ []) 2 None) (same_Some _ x e) at_2
  known_keeps at_2 x e =
      subst (λ (y : Symbol). IsKnown (Nonterminal 1 ∷ Terminal 0 ∷ y ∷ []) 3 None) (same_Some _ x e) at_3
  known_keeps before_1 x e =
      subst (λ (y : Symbol). IsKnown (Nonterminal 1 ∷ Terminal 0 ∷ y ∷ []) 6 (Some 1)) (same_Some _ x e)
      complete_1
  known_keeps at_3 x e =
      subst (λ (y : Symbol). IsKnown (Nonterminal 1 ∷ Terminal 0 ∷ Nonterminal 1 ∷ y ∷ []) 4 None)
      (same_Some _ x e) at_4
  known_keeps other x e = absurd (none-some x e)

  known : {xs : List Symbol} {i : ℕ} {ahead : Option ℕ} → IsValid rules xs i ahead → IsKnown xs i ahead
  known start = at_0
  known (begins {rest = rest} {j} {a = n} {i} {t} v next first o) =
      known_begins (known v) n i t rest next o first
  known (passes {rest = rest} {j} {a = n} {i} v next empty o) =
      absurd (known_passes (known v) n i rest next o empty)
  known (keeps {xs} {ys} {j} {x} {ahead} v next same) =
      subst (λ (zs : List Symbol). IsKnown zs (j + 1) ahead) (sym same)
      (known_keeps (known v) x (next_is j x next))

  -- so both states have the same item, and LALR(1) has one state in which 0 and 1 are ahead of it
  alone_after_2 : {xs : List Symbol} {i : ℕ} {ahead : Option ℕ} → IsKnown xs i ahead →
      xs ≡ Terminal 2 ∷ [] → (i ≡ 6) × (ahead ≡ Some 0)
  alone_after_2 complete_0 same = (refl, refl)
  alone_after_2 other same = absurd (cc)

  alone_after_A02 : {xs : List Symbol} {i : ℕ} {ahead : Option ℕ} → IsKnown xs i ahead →
      xs ≡ Nonterminal 1 ∷ Terminal 0 ∷ Terminal 2 ∷ [] → (i ≡ 6) × (ahead ≡ Some 1)
  alone_after_A02 complete_1 same = (refl, refl)
  alone_after_A02 other same = absurd (cc)

  only_after_2 : (i : ℕ) (ahead : Option ℕ) → IsValid rules (Terminal 2 ∷ []) i ahead →
      (i ≡ 6) × (ahead ≡ Some 0)
  only_after_2 i ahead v = alone_after_2 (known v) refl

  only_after_A02 : (i : ℕ) (ahead : Option ℕ) →
      IsValid rules (Nonterminal 1 ∷ Terminal 0 ∷ Terminal 2 ∷ []) i ahead → (i ≡ 6) × (ahead ≡ Some 1)
  only_after_A02 i ahead v = alone_after_A02 (known v) refl
