-- What stands behind nonterminals on right sides, and what can follow them.
use Rattle.std.proofs.Common.{◌≡◌, ◌↔◌, ℕ, zero, suc, ◌+◌, ◌-◌, ◌<◌, ◌⊎◌, inl, inr, Bool, true, false, List, [], ◌∷◌, ◌++◌, length, get_or, drop, replicate, refl, sym, ap, ◌∙◌, subst, arith}
use Rattle.std.specs.List.{Contains}
use Rattle.std.proofs.lemmas.Bool.{cases_lt, false≢true}
use Rattle.std.proofs.lemmas.List.{drop_more, get_or-replicate, get_or_past, length-replicate}
use Rattle.vob_block.specs.Packing.{item}
use Rattle.vob.specs.Vobs.{AreOfLength}
use Rattle.vob_flow.specs.Draws.{IsIn}
use Rattle.vob_lr.specs.Behind.{HasBehind, IsBehind, IsOfTrailer, IsStart, IsTrailer, StandsBehind}
use Rattle.vob_lr.specs.Equations.{AreEquations, AreSolved, HasAt, Reaches, System}
use Rattle.vob_lr.specs.Equations.Reaches.{at_start, along}
use Rattle.vob_lr.specs.Grammar.{AreFirst, AreFollow, AreNullable, BecomesEmpty, BeginsWith, Follows, HasRule}
use Rattle.vob_lr.specs.Grammar.BecomesEmpty.{nothing, by_rule as by_empty}
use Rattle.vob_lr.specs.Grammar.BeginsWith.{here, by_rule, behind}
use Rattle.vob_lr.specs.Grammar.Follows.{in_rule, at_end}
use Rattle.vob_lr.specs.Passes.{IsNull}
use Rattle.vob_lr.specs.declared.grammar.Grammar.{Grammar}
use Rattle.vob_lr.specs.declared.grammar.Rule.{Rule}
use Rattle.vob_lr.specs.declared.grammar.Symbol.{Symbol}
use Rattle.vob_lr.specs.declared.grammar.Symbol.TheVariants.{Terminal, Nonterminal}
use Rattle.vob_lr.proofs.EmptyLemmas.{BecomesEmpty-append}
use Rattle.vob_lr.proofs.FirstLemmas.{BeginsWith-append, empty_symbol, null_symbol}
use Rattle.vob_lr.proofs.SolvedLemmas.{AreSolved-as}

-- ---- what can begin symbols, from the last one to the first

-- no bit is true
none_true : (n t : ℕ) → item (replicate n false) t ≡ true → ⊥
none_true n t there = elim (cases_lt t n) [
  | inl low ↦ false≢true (sym (get_or-replicate n t false false low) ∙ there)
  | inr past ↦
      false≢true (sym (get_or_past (replicate n false) t false
      (omega (arith, past, length-replicate n false))) ∙ there)
]

begins_nothing : {rules : List Rule} {t : ℕ} → BeginsWith rules t [] → ⊥
begins_nothing h = elim h [ ]

pub IsTrailer-nothing : (rules : List Rule) (n : ℕ) → IsTrailer rules [] (replicate n false) true
IsTrailer-nothing rules n = record {
  begins = λ t. ((λ there. absurd (none_true n t there)), (λ h. absurd (begins_nothing h)));
  ends = ((λ e. nothing), (λ e. refl));
}

module _ (grammar : Grammar) (nullable : List Bool) (rows : List (List Bool))
    (n : AreNullable grammar nullable) (f : AreFirst grammar rows) where
  begins_split : {t : ℕ} {x : Symbol} {rest : List Symbol} →
      BeginsWith grammar.rules.items t (x ∷ rest) →
      IsStart rows x t ⊎ (IsNull nullable x × BeginsWith grammar.rules.items t rest)
  begins_split here = inl refl
  begins_split {t} (by_rule {a} has begins) = inl ((f.each a t).1 (by_rule has begins))
  begins_split (behind {x} empty begins) = inr (null_symbol grammar nullable n x empty, begins)

  start_begins : (t : ℕ) (x : Symbol) → IsStart rows x t →
      BeginsWith grammar.rules.items t (x ∷ [])
  start_begins t (Terminal u) same =
      subst (λ v. BeginsWith grammar.rules.items t (Terminal v ∷ [])) (sym same) here
  start_begins t (Nonterminal a) there = (f.each a t).0 there

  empty_split : {x : Symbol} {rest : List Symbol} → BecomesEmpty grammar.rules.items (x ∷ rest) →
      IsNull nullable x × BecomesEmpty grammar.rules.items rest
  empty_split (by_empty {a} has empty others) = ((n.each a).1 (by_empty has empty nothing), others)

  pub IsTrailer-before : (x : Symbol) (rest : List Symbol) (starts after : List Bool)
      (empty ends : Bool) → IsTrailer grammar.rules.items rest starts empty →
      ((t : ℕ) → (item after t ≡ true)
      ↔ (IsStart rows x t ⊎ (IsNull nullable x × (item starts t ≡ true)))) →
      ((ends ≡ true) ↔ (IsNull nullable x × (empty ≡ true))) →
      IsTrailer grammar.rules.items (x ∷ rest) after ends
  IsTrailer-before x rest starts after empty ends h each last = record {
    begins = λ t. (
      (λ there. elim ((each t).0 there) [
        | inl start ↦ BeginsWith-append rest (start_begins t x start)
        | inr later ↦
            behind (empty_symbol grammar nullable n x later.0) ((h.begins t).0 later.1)
      ]),
      (λ begins. elim (begins_split begins) [
        | inl start ↦ (each t).1 (inl start)
        | inr later ↦ (each t).1 (inr (later.0, (h.begins t).1 later.1))
      ]),
    );
    ends = (
      (λ e.
          let both = last.0 e in
          BecomesEmpty-append rest (empty_symbol grammar nullable n x both.0) (h.ends.0 both.1)),
      (λ e.
          let both = empty_split e in
          last.1 (both.0, h.ends.1 both.1)),
    );
  }

-- the last symbols, and one more
pub last_more : (xs : List Symbol) (back i : ℕ) (x : Symbol) → back < length xs →
    i ≡ length xs - 1 - back → x ≡ get_or xs i x →
    drop (length xs - (back + 1)) xs ≡ x ∷ drop (length xs - back) xs
last_more xs back i x less at is =
    let here : i ≡ length xs - (back + 1) = omega (arith, at, less) in
    let next : i + 1 ≡ length xs - back = omega (arith, at, less) in
    ap (λ k. drop k xs) (sym here) ∙ drop_more xs i x (omega (arith, at, less))
    ∙ ap (λ z. z ∷ drop (i + 1) xs) (sym is) ∙ ap (λ k. x ∷ drop k xs) next

-- ---- what stands behind one symbol more

module _ (rules : List Rule) (left : ℕ) where
  pub of_trailer : (after : List Symbol) (starts : List Bool) (empty : Bool) →
      IsTrailer rules after starts empty → (y : Symbol) →
      IsOfTrailer left starts empty y ↔ StandsBehind rules left after y
  of_trailer after starts empty h (Terminal t) = h.begins t
  of_trailer after starts empty h (Nonterminal b) = (
    (λ both. (both.0, h.ends.0 both.1)),
    (λ both. (both.0, h.ends.1 both.1)),
  )

  pub behind_more : (x : Symbol) (after : List Symbol) (starts : List Bool) (empty : Bool) →
      IsTrailer rules after starts empty → (a : ℕ) (y : Symbol) →
      IsBehind rules left (x ∷ after) a y
      ↔ (((x ≡ Nonterminal a) × IsOfTrailer left starts empty y) ⊎ IsBehind rules left after a y)
  behind_more x after starts empty h a y =
      let is = of_trailer after starts empty h y in (
        (λ b. elim b [ inl this ↦ inl (this.0, is.1 this.1) | inr later ↦ inr later ]),
        (λ b. elim b [ inl this ↦ inl (this.0, is.0 this.1) | inr later ↦ inr later ]),
      )

  -- a place behind nonterminal a
  behind_place : (xs : List Symbol) (a : ℕ) (y : Symbol) → IsBehind rules left xs a y →
      (before : List Symbol) × (after : List Symbol) × (xs ≡ before ++ Nonterminal a ∷ after)
      × StandsBehind rules left after y
  behind_place [] a y h = absurd h
  behind_place (x ∷ xs) a y (inl this) = ([], xs, ap (λ z. z ∷ xs) this.0, this.1)
  behind_place (x ∷ xs) a y (inr later) =
      let (before, after, is, stands) = behind_place xs a y later in
      (x ∷ before, after, ap (λ zs. x ∷ zs) is, stands)

  place_behind : (before after : List Symbol) (a : ℕ) (y : Symbol) →
      StandsBehind rules left after y → IsBehind rules left (before ++ Nonterminal a ∷ after) a y
  place_behind [] after a y stands = inl (refl, stands)
  place_behind (x ∷ before) after a y stands = inr (place_behind before after a y stands)

module _ (rules : List Rule) where
  behind_rule : (more : List Rule) (a : ℕ) (y : Symbol) → HasBehind rules more a y →
      (rule : Rule) × Contains more rule × IsBehind rules rule.left rule.right.items a y
  behind_rule [] a y h = absurd h
  behind_rule (rule ∷ more) a y (inl this) = (rule, (0, omega arith, refl), this)
  behind_rule (rule ∷ more) a y (inr later) =
      let (r, (k, less, is), stands) = behind_rule more a y later in
      (r, (suc k, omega (arith, less), is), stands)

  rule_behind : (more : List Rule) (k : ℕ) (rule : Rule) (a : ℕ) (y : Symbol) → k < length more →
      get_or more k rule ≡ rule → IsBehind rules rule.left rule.right.items a y →
      HasBehind rules more a y
  rule_behind [] k rule a y less is stands = absurd (omega (arith, less))
  rule_behind (first ∷ more) zero rule a y less is stands =
      inl (subst (λ (r : Rule). IsBehind rules r.left r.right.items a y) (sym is) stands)
  rule_behind (first ∷ more) (suc k) rule a y less is stands =
      inr (rule_behind more k rule a y (omega (arith, less)) is stands)

  -- a rule where this stands behind a
  has_behind : (a b : ℕ) (before after : List Symbol) (y : Symbol) →
      HasRule rules b (before ++ Nonterminal a ∷ after) → StandsBehind rules b after y →
      HasBehind rules rules a y
  has_behind a b before after y (rule, (k, less, is), left, items) stands =
      rule_behind rules k rule a y less is
      (subst (λ (l : ℕ). IsBehind rules l rule.right.items a y) (sym left)
      (subst (λ (xs : List Symbol). IsBehind rules b xs a y) (sym items)
      (place_behind rules b before after a y stands)))

  of_rule : (a : ℕ) (y : Symbol) → HasBehind rules rules a y →
      (b : ℕ) × (before : List Symbol) × (after : List Symbol)
      × HasRule rules b (before ++ Nonterminal a ∷ after) × StandsBehind rules b after y
  of_rule a y h =
      let (rule, within, there) = behind_rule rules a y h in
      let (before, after, is, stands) = behind_place rules rule.left rule.right.items a y there in
      (rule.left, before, after, (rule, within, refl, is), stands)

  module _ (rows : List (List Bool)) (h : AreSolved (HasBehind rules rules) rows) where
    follow_sound : {t a : ℕ} → Reaches (HasBehind rules rules) t a → Follows rules t a
    follow_sound {t} {a} (at_start has) =
        let (b, before, after, rule, stands) = of_rule a (Terminal t) has in
        in_rule before after rule stands
    follow_sound {t} {a} (along {m = m} has r) =
        let (b, before, after, rule, stands) = of_rule a (Nonterminal m) has in
        at_end before after rule stands.1
        (subst (λ k. Follows rules t k) (sym stands.0) (follow_sound r))

    follow_complete : {t a : ℕ} → Follows rules t a → IsIn rows a t
    follow_complete {t} {a} (in_rule {b = b} before after has begins) =
        h.starts a t (has_behind a b before after (Terminal t) has begins)
    follow_complete {t} {a} (at_end {b = b} before after has empty f) =
        h.draws a b t (has_behind a b before after (Nonterminal b) has (refl, empty))
        (follow_complete f)

    follow_each : (a t : ℕ) → IsIn rows a t ↔ Follows rules t a
    follow_each a t = ((λ there. follow_sound (h.least a t there)), (λ f. follow_complete f))

-- the least sets of what stands behind
pub AreFollow-solved : (grammar : Grammar) {system : System} (rows : List (List Bool)) →
    AreEquations grammar.nonterminals grammar.terminals
    (HasBehind grammar.rules.items grammar.rules.items) system →
    length rows ≡ length system.starts → AreOfLength system.places rows →
    AreSolved (HasAt system) rows → AreFollow grammar rows
AreFollow-solved grammar {system} rows e count long solved = record {
  count = count ∙ e.count;
  long = rw e.width at long;
  each = follow_each grammar.rules.items rows
      (AreSolved-as (HasAt system) (HasBehind grammar.rules.items grammar.rules.items) e.each rows solved);
}
