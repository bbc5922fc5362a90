-- Nonterminals that become one other by a rule, by what the symbols of right sides weigh.
use Rattle.std.proofs.Common.{◌≡◌, ◌↔◌, ◌⊎◌, ℕ, zero, suc, ◌+◌, ◌<◌, inl, inr, Bool, List, [], ◌∷◌, ◌++◌, length, get_or, take, refl, sym, ap, ◌∙◌, subst, arith, cond}
use Rattle.std.specs.List.{Contains}
use Rattle.std.proofs.lemmas.Bool.{cases_Bool, cases_lt}
use Rattle.std.proofs.lemmas.List.{get_or_past, take_more}
use Rattle.std.proofs.lemmas.List.Elements.{All-contains, Contains-append_left, Contains-append_right, Contains-push, Contains-push_cases}
use Rattle.std.proofs.lemmas.List.Sums.{sum_by-append, sum_by-cons}
use Rattle.vob_lr.specs.Faults.{IsRuleOf, IsSymbol, IsWellFormed}
use Rattle.vob_lr.specs.Grammar.{AreNullable, BecomesEmpty}
use Rattle.vob_lr.specs.Grammar.BecomesEmpty.{nothing, by_rule}
use Rattle.vob_block.specs.Packing.{item}
use Rattle.vob_lr.specs.Passes.{IsNull}
use Rattle.vob_lr.specs.Units.{AreUnits, GainEdges, IsByOne, IsUnit, IsUnitBy, weight, total_weight}
use Rattle.vob_lr.specs.declared.grammar.Grammar.{Grammar}
use Rattle.vob_lr.specs.declared.grammar.Symbol.{Symbol}
use Rattle.vob_lr.specs.declared.grammar.Symbol.TheVariants.{Terminal, Nonterminal}
use Rattle.vob_lr.proofs.EmptyLemmas.{BecomesEmpty-append}

-- ---- what symbols weigh

pub weight_null : (nullable : List Bool) (x : Symbol) → IsNull nullable x → weight nullable x ≡ 0
weight_null nullable (Terminal t) null = absurd null
weight_null nullable (Nonterminal a) null = ap {B = ℕ} (λ (b : Bool). cond b 0 1) null

pub weight_full : (nullable : List Bool) (x : Symbol) → ¬ IsNull nullable x → weight nullable x ≡ 1
weight_full nullable (Terminal t) full = refl
weight_full nullable (Nonterminal a) full = elim (cases_Bool (item nullable a)) [
  | inl on ↦ absurd (full on)
  | inr off ↦ ap {B = ℕ} (λ (b : Bool). cond b 0 1) off
]

null_weight : (nullable : List Bool) (x : Symbol) → weight nullable x ≡ 0 → IsNull nullable x
null_weight nullable (Terminal t) light = absurd (omega (arith, light))
null_weight nullable (Nonterminal a) light = elim (cases_Bool (item nullable a)) [
  | inl on ↦ on
  | inr off ↦ absurd (omega (arith, light, ap {B = ℕ} (λ (b : Bool). cond b 0 1) off))
]

-- it names nonterminals that are there
pub unit_inside : (grammar : Grammar) → IsWellFormed grammar → {a b : ℕ} → IsUnit grammar.rules.items a b →
    (a < grammar.nonterminals) × (b < grammar.nonterminals)
unit_inside grammar sound {a} {b} u =
    let (rule, there, left, is) = u.rule in
    let own = All-contains (IsRuleOf grammar) grammar.rules.items rule sound there in
    let within = subst (λ (xs : List Symbol). Contains xs (Nonterminal b)) (sym is)
    (Contains-append_right u.before (Nonterminal b ∷ u.after) (Nonterminal b) (0, omega arith, refl)) in (
      omega (arith, left, own.0),
      All-contains (IsSymbol grammar.terminals grammar.nonterminals) rule.right.items (Nonterminal b) own.1 within,
    )

-- a list with one of its members apart
member_apart : {A : Type 0} (xs : List A) (x : A) (k : ℕ) → k < length xs → get_or xs k x ≡ x →
    (before : List A) × (after : List A) × (xs ≡ before ++ x ∷ after)
member_apart [] x k less is = absurd (omega (arith, less))
member_apart (y ∷ ys) x zero less is = ([], ys, ap (λ z. z ∷ ys) is)
member_apart (y ∷ ys) x (suc k) less is =
    let (before, after, e) = member_apart ys x k (omega (arith, less)) is in
    (y ∷ before, after, ap (λ zs. y ∷ zs) e)

module _ (grammar : Grammar) (nullable : List Bool) (n : AreNullable grammar nullable) where
  -- symbols that weigh nothing can become empty, and only those
  light_empty : (xs : List Symbol) → total_weight nullable xs ≡ 0 → BecomesEmpty grammar.rules.items xs
  light_empty [] light = nothing
  light_empty (Terminal t ∷ xs) light =
      absurd (omega (arith, light, sum_by-cons (weight nullable) (Terminal t) xs))
  light_empty (Nonterminal a ∷ xs) light =
      let all = sum_by-cons (weight nullable) (Nonterminal a) xs in
      let null = null_weight nullable (Nonterminal a) (omega (arith, light, all)) in
      BecomesEmpty-append xs ((n.each a).0 null) (light_empty xs (omega (arith, light, all)))

  empty_light : {xs : List Symbol} → BecomesEmpty grammar.rules.items xs → total_weight nullable xs ≡ 0
  empty_light nothing = refl
  empty_light (by_rule {a} {right} {rest} has inner others) =
      omega (
        arith,
        sum_by-cons (weight nullable) (Nonterminal a) rest,
        weight_null nullable (Nonterminal a) ((n.each a).1 (by_rule has inner nothing)),
        empty_light others,
      )

  apart_weight : (before after : List Symbol) (x : Symbol) → total_weight nullable (before ++ x ∷ after)
      ≡ total_weight nullable before + (weight nullable x + total_weight nullable after)
  apart_weight before after x = sum_by-append (weight nullable) before (x ∷ after)
      ∙ ap (λ k. total_weight nullable before + k) (sum_by-cons (weight nullable) x after)

  unit_by : (a b : ℕ) → IsByOne (IsUnitBy nullable) grammar.rules.items a b → IsUnit grammar.rules.items a b
  unit_by a b (rule, there, (x, (k, less, at), (left, is, light))) =
      let (before, after, e) = member_apart rule.right.items x k less at in
      let named = e ∙ ap (λ (y : Symbol). before ++ y ∷ after) is in
      let all = ap (total_weight nullable) e ∙ apart_weight before after x in
      record {
        before = before;
        after = after;
        rule = (rule, there, left, named);
        empty_before = light_empty before (omega (arith, all, light));
        empty_after = light_empty after (omega (arith, all, light));
      }

  by_unit : (a b : ℕ) → IsUnit grammar.rules.items a b → IsByOne (IsUnitBy nullable) grammar.rules.items a b
  by_unit a b u =
      let (rule, there, left, is) = u.rule in
      let all = ap (total_weight nullable) is ∙ apart_weight u.before u.after (Nonterminal b) in
      let total : total_weight nullable rule.right.items ≡ weight nullable (Nonterminal b) =
      omega (arith, all, empty_light u.empty_before, empty_light u.empty_after) in
      let within = subst (λ (xs : List Symbol). Contains xs (Nonterminal b)) (sym is)
      (Contains-append_right u.before (Nonterminal b ∷ u.after) (Nonterminal b) (0, omega arith, refl)) in
      (rule, there, (Nonterminal b, within, (left, refl, total)))

  pub units_of : (edges : List (ℕ × ℕ)) (next : List (List ℕ)) → IsWellFormed grammar →
      GainEdges (IsByOne (IsUnitBy nullable) grammar.rules.items) [] edges → length next ≡ grammar.nonterminals →
      ((a b : ℕ) → a < grammar.nonterminals → Contains (get_or next a []) b ↔ Contains edges (a, b)) →
      AreUnits grammar.rules.items next
  units_of edges next sound gained count each a b = elim (cases_lt a grammar.nonterminals) [
    | inl low ↦ (
      (λ edge. elim ((gained a b).0 ((each a b low).0 edge)) [
        | inl none ↦ absurd (omega (arith, none.1))
        | inr by ↦ unit_by a b by
      ]),
      (λ u. (each a b low).1 ((gained a b).1 (inr (by_unit a b u)))),
    )
    | inr past ↦ (
      (λ edge.
          let none = get_or_past next a [] (omega (arith, past, count)) in
          let within = subst (λ (xs : List ℕ). Contains xs b) none edge in
          absurd (omega (arith, within.1))),
      (λ u. absurd (omega (arith, past, (unit_inside grammar sound u).0))),
    )
  ]

-- ---- edges that are added one by one

-- no thing gives an edge
pub GainEdges-none : {A : Type 0} (Each : A → ℕ → ℕ → Type 0) (edges : List (ℕ × ℕ)) →
    GainEdges (IsByOne Each []) edges edges
GainEdges-none Each edges a b = (
  (λ old. inl old),
  (λ either. elim either [ inl old ↦ old | inr (x, there, by) ↦ absurd (omega (arith, there.1)) ]),
)

module _ {A : Type 0} (Each : A → ℕ → ℕ → Type 0) (xs : List A) where
  by_one_more : (k : ℕ) (x d : A) → k < length xs → x ≡ get_or xs k d → (a b : ℕ) →
      (IsByOne Each (take k xs) a b ⊎ Each x a b) ↔ IsByOne Each (take (k + 1) xs) a b
  by_one_more k x d less is a b =
      let more = take_more xs k d less ∙ ap (λ y. take k xs ++ y ∷ []) (sym is) in (
        (λ either. elim either [
          | inl (y, there, by) ↦ (
            y,
            subst (λ (ys : List A). Contains ys y) (sym more) (Contains-append_left (take k xs) (x ∷ []) y there),
            by,
          )
          | inr by ↦ (x, subst (λ (ys : List A). Contains ys x) (sym more) (Contains-push (take k xs) x), by)
        ]),
        (λ (y, there, by).
            elim (Contains-push_cases (take k xs) x y (subst (λ (ys : List A). Contains ys y) more there)) [
              | inl old ↦ inl (y, old, by)
              | inr same ↦ inr (subst (λ (z : A). Each z a b) (sym same) by)
            ]),
      )

  -- one thing more
  pub GainEdges-more : (k : ℕ) (x d : A) (before mid after : List (ℕ × ℕ)) → k < length xs → x ≡ get_or xs k d →
      GainEdges (IsByOne Each (take k xs)) before mid → GainEdges (Each x) mid after →
      GainEdges (IsByOne Each (take (k + 1) xs)) before after
  GainEdges-more k x d before mid after less is h g a b =
      let more = by_one_more k x d less is a b in (
        (λ there. elim ((g a b).0 there) [
          | inl held ↦ elim ((h a b).0 held) [ inl old ↦ inl old | inr by ↦ inr (more.0 (inl by)) ]
          | inr by ↦ inr (more.0 (inr by))
        ]),
        (λ either. elim either [
          | inl old ↦ (g a b).1 (inl ((h a b).1 (inl old)))
          | inr by ↦ elim (more.1 by) [
            | inl earlier ↦ (g a b).1 (inl ((h a b).1 (inr earlier)))
            | inr here ↦ (g a b).1 (inr here)
          ]
        ]),
      )
