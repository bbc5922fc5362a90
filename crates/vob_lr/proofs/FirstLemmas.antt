-- What stands first on right sides, and what can begin what the nonterminals become.
use Rattle.std.proofs.Common.{◌≡◌, ◌↔◌, ℕ, zero, suc, ◌+◌, ◌<◌, ◌⊎◌, inl, inr, Bool, List, [], ◌∷◌, ◌++◌, length, get_or, drop, refl, sym, ap, ◌∙◌, subst, arith}
use Rattle.std.specs.List.{All}
use Rattle.std.proofs.lemmas.List.{drop_more}
use Rattle.std.proofs.lemmas.List.Elements.{All-weaker}
use Rattle.vob.specs.Vobs.{AreOfLength}
use Rattle.vob_flow.specs.Draws.{IsIn}
use Rattle.vob_lr.specs.Behind.{IsStart}
use Rattle.vob_lr.specs.Equations.{AreEquations, AreSolved, HasAt, Reaches, System}
use Rattle.vob_lr.specs.Equations.Reaches.{at_start, along}
use Rattle.vob_lr.specs.Faults.{IsRuleOf, IsSymbol}
use Rattle.vob_lr.specs.Grammar.{AreFirst, AreNullable, BecomesEmpty, BeginsWith, HasRule}
use Rattle.vob_lr.specs.Grammar.BeginsWith.{here, by_rule, behind}
use Rattle.vob_lr.specs.Heads.{HasHead, HasPlace, IsHead}
use Rattle.vob_lr.specs.Passes.{IsNull}
use Rattle.vob_lr.proofs.SolvedLemmas.{AreSolved-as}
use Rattle.vob_lr.specs.declared.grammar.Grammar.{Grammar}
use Rattle.vob_lr.specs.declared.grammar.Rule.{Rule}
use Rattle.vob_lr.specs.declared.grammar.Symbol.{Symbol}
use Rattle.vob_lr.specs.declared.grammar.Symbol.TheVariants.{Terminal, Nonterminal}

pub BeginsWith-append : {rules : List Rule} {t : ℕ} {xs : List Symbol} (ys : List Symbol) →
    BeginsWith rules t xs → BeginsWith rules t (xs ++ ys)
BeginsWith-append ys here = here
BeginsWith-append ys (by_rule has begins) = by_rule has begins
BeginsWith-append ys (behind empty begins) = behind empty (BeginsWith-append ys begins)

-- ---- rules that have a head, by their places

pub head_of_rule : (nullable : List Bool) (rules : List Rule) (a : ℕ) (y : Symbol) →
    HasHead nullable rules a y →
    (right : List Symbol) × HasRule rules a right × IsHead nullable right y
head_of_rule nullable [] a y h = absurd h
head_of_rule nullable (rule ∷ rules) a y (inl first) =
    (rule.right.items, (rule, (0, omega arith, refl), first.0, refl), first.1)
head_of_rule nullable (rule ∷ rules) a y (inr later) =
    let (right, (r, (k, less, is), left, items), head) = head_of_rule nullable rules a y later in
    (right, (r, (suc k, omega (arith, less), is), left, items), head)

pub has_head_of_rule : (nullable : List Bool) (rules : List Rule) (k : ℕ) (rule : Rule)
    (y : Symbol) → k < length rules → get_or rules k rule ≡ rule → IsHead nullable rule.right.items y →
    HasHead nullable rules rule.left y
has_head_of_rule nullable [] k rule y less is head = absurd (omega (arith, less))
has_head_of_rule nullable (first ∷ rules) zero rule y less is head =
    inl (
      ap (λ (r : Rule). r.left) is,
      subst (λ (r : Rule). IsHead nullable r.right.items y) (sym is) head,
    )
has_head_of_rule nullable (first ∷ rules) (suc k) rule y less is head =
    inr (has_head_of_rule nullable rules k rule y (omega (arith, less)) is head)

module _ (nullable : List Bool) where
  -- heads of the first rule of some, or of the others
  pub rule_goes_on : (rules : List Rule) (k : ℕ) (rule : Rule) → k < length rules →
      rule ≡ get_or rules k rule → (a : ℕ) (y : Symbol) →
      HasHead nullable (drop k rules) a y ↔ (((rule.left ≡ a) × IsHead nullable rule.right.items y)
      ⊎ HasHead nullable (drop (k + 1) rules) a y)
  rule_goes_on rules k rule less is a y =
      rw (drop_more rules k rule less)
      (subst (λ (r : Rule). HasHead nullable (r ∷ drop (k + 1) rules) a y
      ↔ (((rule.left ≡ a) × IsHead nullable rule.right.items y)
      ⊎ HasHead nullable (drop (k + 1) rules) a y)) is ((λ h. h), (λ h. h)))

-- ---- rules that were read

pub rule_read : (grammar : Grammar) → All (IsRuleOf grammar) grammar.rules.items → (k : ℕ)
    (rule : Rule) → k < length grammar.rules.items → rule ≡ get_or grammar.rules.items k rule →
    IsRuleOf grammar rule
rule_read grammar all k rule less is =
    subst (λ (r : Rule). IsRuleOf grammar r) (sym is) (all k rule less)

has_place : (terminals nonterminals places : ℕ) → places ≡ terminals → (x : Symbol) →
    IsSymbol terminals nonterminals x → HasPlace places x
has_place terminals nonterminals places same (Terminal t) less = omega (arith, same, less)
has_place terminals nonterminals places same (Nonterminal a) less = tt

pub have_places : (terminals nonterminals places : ℕ) → places ≡ terminals → (xs : List Symbol) →
    All (IsSymbol terminals nonterminals) xs → All (HasPlace places) xs
have_places terminals nonterminals places same xs all =
    All-weaker (IsSymbol terminals nonterminals) (HasPlace places)
    (has_place terminals nonterminals places same) xs all

-- ---- heads and derivations

module _ (grammar : Grammar) (nullable : List Bool) (n : AreNullable grammar nullable) where
  pub empty_symbol : (x : Symbol) → IsNull nullable x → BecomesEmpty grammar.rules.items (x ∷ [])
  empty_symbol (Terminal t) none = absurd none
  empty_symbol (Nonterminal a) there = (n.each a).0 there

  pub null_symbol : (x : Symbol) → BecomesEmpty grammar.rules.items (x ∷ []) → IsNull nullable x
  null_symbol (Terminal t) none = elim none [ ]
  null_symbol (Nonterminal a) empty = (n.each a).1 empty

  -- what begins a head begins all of it
  head_begins : (t : ℕ) (xs : List Symbol) (y : Symbol) → IsHead nullable xs y →
      BeginsWith grammar.rules.items t (y ∷ []) → BeginsWith grammar.rules.items t xs
  head_begins t [] y h begins = absurd h
  head_begins t (x ∷ xs) y (inl first) begins =
      BeginsWith-append xs
      (subst (λ z. BeginsWith grammar.rules.items t (z ∷ [])) (sym first) begins)
  head_begins t (x ∷ xs) y (inr later) begins =
      behind (empty_symbol x later.0) (head_begins t xs y later.1 begins)

  module _ (rows : List (List Bool))
      (h : AreSolved (HasHead nullable grammar.rules.items) rows) where
    first_sound : {t a : ℕ} → Reaches (HasHead nullable grammar.rules.items) t a →
        BeginsWith grammar.rules.items t (Nonterminal a ∷ [])
    first_sound {t} {a} (at_start has) =
        let found = head_of_rule nullable grammar.rules.items a (Terminal t) has in
        by_rule found.1 (head_begins t found.0 (Terminal t) found.2 here)
    first_sound {t} {a} (along {m = m} has r) =
        let found = head_of_rule nullable grammar.rules.items a (Nonterminal m) has in
        by_rule found.1 (head_begins t found.0 (Nonterminal m) found.2 (first_sound r))

    in_row : (t a : ℕ) (y : Symbol) → HasHead nullable grammar.rules.items a y → IsStart rows y t →
        IsIn rows a t
    in_row t a (Terminal u) has start =
        h.starts a t (subst (λ v. HasHead nullable grammar.rules.items a (Terminal v)) start has)
    in_row t a (Nonterminal m) has start = h.draws a m t has start

    pub begins_head : {t : ℕ} {xs : List Symbol} → BeginsWith grammar.rules.items t xs →
        (y : Symbol) × IsHead nullable xs y × IsStart rows y t
    begins_head {t} here = (Terminal t, inl refl, refl)
    begins_head {t} (by_rule {a} (rule, (k, less, is), left, items) begins) =
        let found = begins_head begins in
        let has = has_head_of_rule nullable grammar.rules.items k rule found.0 less is
        (subst (λ (xs : List Symbol). IsHead nullable xs found.0) (sym items) found.1) in
        let row = in_row t a found.0
        (subst (λ b. HasHead nullable grammar.rules.items b found.0) left has) found.2 in
        (Nonterminal a, inl refl, row)
    begins_head {t} (behind {x} empty begins) =
        let found = begins_head begins in
        (found.0, inr (null_symbol x empty, found.1), found.2)

    only_head : (a t : ℕ) →
        (y : Symbol) × IsHead nullable (Nonterminal a ∷ []) y × IsStart rows y t → IsIn rows a t
    only_head a t (y, inl first, start) = subst (λ z. IsStart rows z t) (sym first) start
    only_head a t (y, inr later, start) = absurd later.1

    -- and what is in its row begins it
    pub first_each : (a t : ℕ) →
        IsIn rows a t ↔ BeginsWith grammar.rules.items t (Nonterminal a ∷ [])
    first_each a t = (
      (λ there. first_sound (h.least a t there)),
      (λ begins. only_head a t (begins_head begins)),
    )

  -- the least sets of the heads
  pub AreFirst-solved : {system : System} (rows : List (List Bool)) →
      AreEquations grammar.nonterminals grammar.terminals (HasHead nullable grammar.rules.items)
      system → length rows ≡ length system.starts → AreOfLength system.places rows →
      AreSolved (HasAt system) rows → AreFirst grammar rows
  AreFirst-solved {system} rows e count long solved = record {
    count = count ∙ e.count;
    long = rw e.width at long;
    each = first_each rows
        (AreSolved-as (HasAt system) (HasHead nullable grammar.rules.items) e.each rows solved);
  }
