-- A nonterminal derives itself exactly if an edge over units leads from it to one of its component.
use Rattle.std.proofs.Common.{◌≡◌, ◌<◌, ℕ, inl, inr, Option, None, Some, List, [], ◌∷◌, ◌++◌, length, refl, sym, ap, ◌∙◌, subst, arith}
use Rattle.std.specs.List.{Contains}
use Rattle.std.specs.Option.{IfNone}
use Rattle.std.proofs.lemmas.List.{append-nil, append_assoc}
use Rattle.std.proofs.lemmas.List.Elements.{Contains-push, Contains-push_cases}
use Rattle.vob_flow.specs.Closure.{IsEdge}
use Rattle.vob_flow.specs.Components.{AreComponents, AreConnected}
use Rattle.vob_flow.specs.Reach.{HasWay}
use Rattle.vob_flow.specs.Reach.Reaches.{at_start, along}
use Rattle.vob_flow.specs.declared.components.Components.{Components}
use Rattle.vob_lr.specs.Cycles.{DerivesItself, IsLowest}
use Rattle.vob_lr.specs.Derivations.{Derives, DerivesInOne}
use Rattle.vob_lr.specs.Derivations.DerivesInOne.{replaced}
use Rattle.vob_lr.specs.Derivations.Derives.{itself, further}
use Rattle.vob_lr.specs.Faults.{IsWellFormed}
use Rattle.vob_lr.specs.Grammar.{BecomesEmpty, HasRule}
use Rattle.vob_lr.specs.Grammar.BecomesEmpty.{nothing}
use Rattle.vob_lr.specs.Units.{AreUnits, IsUnit, LeadsBack}
use Rattle.vob_lr.specs.declared.grammar.Grammar.{Grammar}
use Rattle.vob_lr.specs.declared.grammar.Rule.{Rule}
use Rattle.vob_lr.specs.declared.grammar.Symbol.{Symbol}
use Rattle.vob_lr.specs.declared.grammar.Symbol.TheVariants.{Nonterminal}
use Rattle.vob_lr.proofs.DerivationLemmas.{after_that, between, cut, empty_before, empty_derived, empty_parts}
use Rattle.vob_lr.proofs.UnitLemmas.{unit_inside}

-- ---- ways

alone : (n m : ℕ) → Contains (n ∷ []) m → n ≡ m
alone n m within = elim (Contains-push_cases [] n m within) [
  | inl none ↦ absurd (omega (arith, none.1))
  | inr same ↦ same
]

module _ (next : List (List ℕ)) where
  way_none : (n : ℕ) → HasWay next n n
  way_none n = at_start (Contains-push [] n)

  way_edge : (n m : ℕ) → IsEdge next n m → HasWay next n m
  way_edge n m edge = along (way_none n) edge

  way_on : (n m : ℕ) → IsEdge next n m → {k : ℕ} → HasWay next m k → HasWay next n k
  way_on n m edge {k} (at_start start) = subst (HasWay next n) (alone m k start) (way_edge n m edge)
  way_on n m edge (along way more) = along (way_on n m edge way) more

-- ---- derivations and ways

-- a symbol is left alone once all beside it became empty
left_alone : (rules : List Rule) (before after : List Symbol) (x : Symbol) → BecomesEmpty rules before →
    BecomesEmpty rules after → Derives rules (before ++ x ∷ after) (x ∷ [])
left_alone rules before after x first last =
    let vanish = (empty_derived rules before).0 first in
    let rest = (empty_derived rules after).0 last in
    after_that (between [] (x ∷ after) vanish)
    (subst (λ (zs : List Symbol). Derives rules (x ∷ zs) (x ∷ [])) (append-nil after)
    (between (x ∷ []) [] rest))

module _ (rules : List Rule) (next : List (List ℕ)) (units : AreUnits rules next) where
  unit_derives : (a b : ℕ) → IsUnit rules a b → (form : List Symbol)
      × DerivesInOne rules (Nonterminal a ∷ []) form × Derives rules form (Nonterminal b ∷ [])
  unit_derives a b u = (
    (u.before ++ Nonterminal b ∷ u.after) ++ [],
    replaced [] [] u.rule refl refl,
    subst (λ (zs : List Symbol). Derives rules zs (Nonterminal b ∷ []))
        (sym (append-nil (u.before ++ Nonterminal b ∷ u.after)))
        (left_alone rules u.before u.after (Nonterminal b) u.empty_before u.empty_after),
  )

  way_derives : (a : ℕ) → {b : ℕ} → HasWay next a b → Derives rules (Nonterminal a ∷ []) (Nonterminal b ∷ [])
  way_derives a {b} (at_start start) =
      subst (λ (c : ℕ). Derives rules (Nonterminal a ∷ []) (Nonterminal c ∷ [])) (alone a b start) itself
  way_derives a (along {n = c} {m = b} way edge) =
      let (form, step, rest) = unit_derives c b ((units c b).0 edge) in
      after_that (way_derives a way) (after_that (further itself step) rest)

  -- all of a form but one nonterminal can become empty, and a way leads from that to nonterminal b
  record HasSpot (b : ℕ) (form : List Symbol) : Type 0 where
    before : List Symbol
    at : ℕ
    after : List Symbol
    is : form ≡ before ++ Nonterminal at ∷ after
    first : BecomesEmpty rules before
    last : BecomesEmpty rules after
    way : HasWay next at b

  -- a form has one if it has one a step later
  spot_before : (b : ℕ) (xs ys : List Symbol) → DerivesInOne rules xs ys → HasSpot b ys → HasSpot b xs
  spot_before b xs ys (replaced {a} {right} us vs has is becomes) s =
      elim (cut us (right ++ vs) s.before (Nonterminal s.at) s.after (sym becomes ∙ s.is)) [
        | inl left ↦ record {
          before = s.before;
          at = s.at;
          after = left.0 ++ Nonterminal a ∷ vs;
          is = is ∙ ap (λ zs. zs ++ Nonterminal a ∷ vs) left.1
              ∙ append_assoc s.before (Nonterminal s.at ∷ left.0) (Nonterminal a ∷ vs);
          first = s.first;
          last = empty_before (replaced left.0 vs has refl refl)
              (subst (λ (zs : List Symbol). BecomesEmpty rules zs) left.2 s.last);
          way = s.way;
        }
        | inr past ↦
            let outer = empty_parts us past.0 (subst (λ (zs : List Symbol). BecomesEmpty rules zs) past.1 s.first) in
            elim (cut right vs past.0 (Nonterminal s.at) s.after past.2) [
              | inl inside ↦
                  let inner = empty_parts inside.0 vs
                  (subst (λ (zs : List Symbol). BecomesEmpty rules zs) inside.2 s.last) in
                  let unit : IsUnit rules a s.at = record {
                    before = past.0;
                    after = inside.0;
                    rule = subst (λ (zs : List Symbol). HasRule rules a zs) inside.1 has;
                    empty_before = outer.1;
                    empty_after = inner.0;
                  } in
                  record {
                    before = us;
                    at = a;
                    after = vs;
                    is = is;
                    first = outer.0;
                    last = inner.1;
                    way = way_on next a s.at ((units a s.at).1 unit) s.way;
                  }
              | inr later ↦ record {
                before = us ++ Nonterminal a ∷ later.0;
                at = s.at;
                after = s.after;
                is = is ∙ ap (λ zs. us ++ Nonterminal a ∷ zs) later.2
                    ∙ sym (append_assoc us (Nonterminal a ∷ later.0) (Nonterminal s.at ∷ s.after));
                first = empty_before (replaced us later.0 has refl refl)
                    (subst (λ (zs : List Symbol). BecomesEmpty rules zs)
                    (past.1 ∙ ap (λ zs. us ++ zs) later.1) s.first);
                last = s.last;
                way = s.way;
              }
            ]
      ]

  spot_of : (b : ℕ) {xs ys : List Symbol} → Derives rules xs ys → HasSpot b ys → HasSpot b xs
  spot_of b itself s = s
  spot_of b {xs} (further {ys = ys} {zs = zs} d step) s = spot_of b d (spot_before b ys zs step s)

  -- one nonterminal becomes by a step what one of its rules has on the right side
  stepped : (a : ℕ) (form : List Symbol) → DerivesInOne rules (Nonterminal a ∷ []) form → HasRule rules a form
  stepped a form (replaced {a = c} {right} [] after has is becomes) =
      let same : c ≡ a = cc in
      let none : after ≡ [] = cc in
      subst (λ (n : ℕ). HasRule rules n form) same
      (subst (λ (zs : List Symbol). HasRule rules c zs)
      (sym (append-nil right) ∙ ap (λ zs. right ++ zs) (sym none) ∙ sym becomes) has)
  stepped a form (replaced (x ∷ []) after has is becomes) = absurd (cc)
  stepped a form (replaced (x ∷ y ∷ before) after has is becomes) = absurd (cc)

  pub itself_leads : (a : ℕ) → DerivesItself rules a →
      (b : ℕ) × IsUnit rules a b × HasWay next b a
  itself_leads a d =
      let whole : HasSpot a (Nonterminal a ∷ []) = record {
        before = [];
        at = a;
        after = [];
        is = refl;
        first = nothing;
        last = nothing;
        way = way_none next a;
      } in
      let s = spot_of a d.back whole in
      let unit : IsUnit rules a s.at = record {
        before = s.before;
        after = s.after;
        rule = subst (λ (zs : List Symbol). HasRule rules a zs) s.is (stepped a d.form d.step);
        empty_before = s.first;
        empty_after = s.last;
      } in
      (s.at, unit, s.way)

  pub leads_itself : (a b : ℕ) → IsUnit rules a b → HasWay next b a → DerivesItself rules a
  leads_itself a b u way =
      let (form, step, rest) = unit_derives a b u in
      record { form = form; step = step; back = after_that rest (way_derives b way) }

-- ---- what is found

-- what follows where there is none
pub if_none_then : {T : Type 0} (r : Option T) {P Q : Type 0} → (P → Q) → IfNone r P → IfNone r Q
if_none_then None f h = f h
if_none_then (Some x) f h = h

module _ (grammar : Grammar) (next : List (List ℕ)) (c : Components) (sound : IsWellFormed grammar)
    (units : AreUnits grammar.rules.items next) (count : length next ≡ grammar.nonterminals)
    (parts : AreComponents next c) where
  back_itself : (a : ℕ) → LeadsBack next c.roots.items a → DerivesItself grammar.rules.items a
  back_itself a (k, b, less, at, same) =
      let unit = (units a b).0 (k, less, at) in
      let inside = unit_inside grammar sound unit in
      let connected = (parts.same b a (omega (arith, inside.1, count)) (omega (arith, inside.0, count))).0 same in
      leads_itself grammar.rules.items next units a b unit connected.0

  itself_back : (a : ℕ) → DerivesItself grammar.rules.items a → (a < length next) × LeadsBack next c.roots.items a
  itself_back a d =
      let (b, unit, way) = itself_leads grammar.rules.items next units a d in
      let inside = unit_inside grammar sound unit in
      let edge = (units a b).1 unit in
      let connected : AreConnected next b a = (way, way_edge next a b edge) in
      let same = (parts.same b a (omega (arith, inside.1, count)) (omega (arith, inside.0, count))).1 connected in
      (omega (arith, inside.0, count), (edge.0, b, edge.1, edge.2, same))

  pub lowest_cycle : (a : ℕ) → IsLowest (LeadsBack next c.roots.items) a →
      IsLowest (DerivesItself grammar.rules.items) a
  lowest_cycle a h = record {
    holds = back_itself a h.holds;
    lower = λ b less d. h.lower b less (itself_back b d).1;
  }

  pub no_cycle : ((n : ℕ) → n < length next → ¬ LeadsBack next c.roots.items n) →
      (a : ℕ) → ¬ DerivesItself grammar.rules.items a
  no_cycle none a d = let (inside, back) = itself_back a d in none a inside back
