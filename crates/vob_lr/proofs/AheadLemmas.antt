-- The symbols behind the dots of a set of items, by number.
use Rattle.std.proofs.Common.{◌≡◌, ◌↔◌, ℕ, ◌+◌, ◌-◌, ◌<◌, ◌≤◌, inl, inr, Bool, false, nat_lt, ltb-true, cond, Some, List, length, replicate, refl, sym, ap, ◌∙◌, subst, arith}
use Rattle.std.specs.List.{All}
use Rattle.std.proofs.lemmas.Bool.{cases_lt, false_from_ne_true, lt-ltb}
use Rattle.std.proofs.lemmas.Option.{same_Some}
use Rattle.vob_flow.proofs.FirstLemmas.{all_at}
use Rattle.vob_lr.specs.Expansions.{Gains, IsByFirst}
use Rattle.vob_lr.specs.Faults.{IsRuleOf, IsSymbol}
use Rattle.vob_lr.specs.Items.{HasNext}
use Rattle.vob_lr.specs.Ahead.{AreAhead, HasAhead, number_of, symbol_with}
use Rattle.vob_lr.specs.States.{Precedes}
use Rattle.vob_lr.specs.declared.grammar.Grammar.{Grammar}
use Rattle.vob_lr.specs.declared.grammar.Symbol.{Symbol}
use Rattle.vob_lr.specs.declared.grammar.Symbol.TheVariants.{Terminal, Nonterminal}
use Rattle.vob_lr.proofs.ClosureLemmas.{by_first_all, none_true}

-- ---- symbols by number

module _ (terminals : ℕ) where
  number_back : (k : ℕ) → number_of terminals (symbol_with terminals k) ≡ k
  number_back k = elim (cases_lt k terminals) [
    | inl less ↦
        ap (λ b. number_of terminals (cond b (Terminal k) (Nonterminal (k - terminals))))
        (lt-ltb k terminals less)
    | inr past ↦
        let off : nat_lt k terminals ≡ false =
        false_from_ne_true (nat_lt k terminals) (λ on. omega (arith, past, ltb-true k terminals on)) in
        let sum : terminals + (k - terminals) ≡ k = omega (arith, past) in
        ap (λ b. number_of terminals (cond b (Terminal k) (Nonterminal (k - terminals)))) off ∙ sum
  ]

  symbol_low : (k : ℕ) → k < terminals → symbol_with terminals k ≡ Terminal k
  symbol_low k less =
      ap (λ b. cond b (Terminal k) (Nonterminal (k - terminals))) (lt-ltb k terminals less)

  symbol_high : (k : ℕ) → terminals ≤ k → symbol_with terminals k ≡ Nonterminal (k - terminals)
  symbol_high k past =
      let off : nat_lt k terminals ≡ false =
      false_from_ne_true (nat_lt k terminals) (λ on. omega (arith, past, ltb-true k terminals on)) in
      ap (λ b. cond b (Terminal k) (Nonterminal (k - terminals))) off

  -- symbols are in the order of their numbers
  pub number_precedes : (k j : ℕ) → k < j →
      Precedes (symbol_with terminals k) (symbol_with terminals j)
  number_precedes k j less = elim (cases_lt j terminals) [
    | inl low ↦
        let own : k < terminals = omega (arith, less, low) in
        subst (λ (x : Symbol). Precedes x (symbol_with terminals j)) (sym (symbol_low k own))
        (subst (λ (y : Symbol). Precedes (Terminal k) y) (sym (symbol_low j low)) less)
    | inr past ↦ elim (cases_lt k terminals) [
      | inl own ↦
          subst (λ (x : Symbol). Precedes x (symbol_with terminals j)) (sym (symbol_low k own))
          (subst (λ (y : Symbol). Precedes (Terminal k) y) (sym (symbol_high j past)) tt)
      | inr own ↦
          let apart : k - terminals < j - terminals = omega (arith, less, own, past) in
          subst (λ (x : Symbol). Precedes x (symbol_with terminals j)) (sym (symbol_high k own))
          (subst (λ (y : Symbol). Precedes (Nonterminal (k - terminals)) y)
          (sym (symbol_high j past)) apart)
    ]
  ]

  pub symbol_back : (nonterminals : ℕ) (x : Symbol) → IsSymbol terminals nonterminals x →
      symbol_with terminals (number_of terminals x) ≡ x
  symbol_back nonterminals (Terminal t) less =
      ap (λ b. cond b (Terminal t) (Nonterminal (t - terminals))) (lt-ltb t terminals less)
  symbol_back nonterminals (Nonterminal a) less =
      let off : nat_lt (terminals + a) terminals ≡ false =
      false_from_ne_true (nat_lt (terminals + a) terminals)
      (λ on. omega (arith, ltb-true (terminals + a) terminals on)) in
      let back : terminals + a - terminals ≡ a = omega arith in
      ap (λ b. cond b (Terminal (terminals + a)) (Nonterminal (terminals + a - terminals))) off
      ∙ ap Nonterminal back

  pub number_below : (nonterminals : ℕ) (x : Symbol) → IsSymbol terminals nonterminals x →
      number_of terminals x < terminals + nonterminals
  number_below nonterminals (Terminal t) less = omega (arith, less)
  number_below nonterminals (Nonterminal a) less = omega (arith, less)

-- ---- the symbols that are ahead

module _ (grammar : Grammar) (sound : All (IsRuleOf grammar) grammar.rules.items) where
  pub next_sound : (i : ℕ) (x : Symbol) → HasNext grammar.rules.items i x →
      IsSymbol grammar.terminals grammar.nonterminals x
  next_sound i x ahead =
      let rule = all_at (IsRuleOf grammar) grammar.rules.items sound ahead.item.rule ahead.is.rule
      ahead.is.is in
      all_at (IsSymbol grammar.terminals grammar.nonterminals) ahead.is.rule.right.items rule.1
      ahead.item.dot x ahead.next

  -- the number of the symbol behind a dot
  pub look_is : (j : ℕ) (symbol : Symbol) →
      ((x : Symbol) → (Some symbol ≡ Some x) ↔ HasNext grammar.rules.items j x) → (n : ℕ) →
      n ≡ number_of grammar.terminals symbol → (k : ℕ) → (n ≡ k) ↔ HasAhead grammar j k
  look_is j symbol is n number k = (
    (λ e.
        let back = symbol_back grammar.terminals grammar.nonterminals symbol
        (next_sound j symbol ((is symbol).0 refl)) in
        let same = ap (symbol_with grammar.terminals) (sym number ∙ e) in
        (is (symbol_with grammar.terminals k)).0 (ap Some (sym back ∙ same))),
    (λ ahead.
        let same = same_Some symbol (symbol_with grammar.terminals k)
        ((is (symbol_with grammar.terminals k)).1 ahead) in
        number ∙ ap (number_of grammar.terminals) same ∙ number_back grammar.terminals k),
  )

  pub AreAhead-gained : (set : List ℕ) (k : ℕ) → k ≡ length set → (places : ℕ) (ahead : List Bool) →
      Gains (IsByFirst (HasAhead grammar) set k) (replicate places false) ahead →
      AreAhead grammar set ahead
  AreAhead-gained set k all places ahead g = record {
    each = λ x found.
        let (i, own, next) = found in
        let back = symbol_back grammar.terminals grammar.nonterminals x (next_sound i x next) in
        let there = subst (λ (y : Symbol). HasNext grammar.rules.items i y) (sym back) next in
        let n = number_of grammar.terminals x in
        let by = by_first_all (HasAhead grammar) set k all n in
        (n, (g.each n).1 (inr (by.1 (i, own, there))), back);
    only = λ n there. elim ((g.each n).0 there) [
      | inl old ↦ absurd (none_true places n old)
      | inr found ↦ (by_first_all (HasAhead grammar) set k all n).0 found
    ];
  }
