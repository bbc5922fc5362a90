-- What precedence leaves is part of what there was, so a table has no action of its own.
use Rattle.std.proofs.Common.{◌≡◌, ℕ, zero, suc, ◌<◌, inl, inr, List, [], ◌∷◌, get_or, length, None, Option, Some, slice_get, refl, sym, ap, ◌∙◌, subst, arith}
use Rattle.std.specs.List.{Contains}
use Rattle.std.proofs.lemmas.Bool.{cases_lt}
use Rattle.std.proofs.lemmas.List.{get_or_past}
use Rattle.std.proofs.lemmas.Option.{get_or_from_slice_get, none-some, slice_get-get_or, slice_get_within}
use Rattle.vob_lr.specs.Lookaheads.{Machine}
use Rattle.vob_lr.specs.Precedences.{against, beside, left_of, resolved}
use Rattle.vob_lr.specs.Tables.{AreRowsOfCells, AreSound, IsCell, action_of, chosen, stays_at}
use Rattle.vob_lr.specs.declared.precedence.Stays.{Stays}
use Rattle.vob_lr.specs.declared.precedence.Stays.TheVariants.{Shift as TheShift, Rule as TheRule, Nothing, Both}
use Rattle.vob_lr.specs.declared.precedence.Precedence.{Precedence}
use Rattle.vob_lr.specs.declared.table.Action.{Action}
use Rattle.vob_lr.specs.declared.table.Action.TheVariants.{Reduce, Shift}
use Rattle.vob_lr.specs.declared.table.Cell.{Cell}

record IsPart (shift : Option ℕ) (rules : List ℕ) (left : Option ℕ × List ℕ) : Type 0 where
  shifts : (p : ℕ) → left.0 ≡ Some p → shift ≡ Some p
  reduces : (r : ℕ) → Contains left.1 r → Contains rules r

none_contained : (r : ℕ) → Contains [] r → ⊥
none_contained r (k, less, is) = omega (arith, less)

contained_behind : (r : ℕ) (rs : List ℕ) (n : ℕ) → Contains rs n → Contains (r ∷ rs) n
contained_behind r rs n (k, less, is) = (suc k, omega (arith, less), is)

contained_cases : (r : ℕ) (rs ks : List ℕ) → ((n : ℕ) → Contains ks n → Contains rs n) → (n : ℕ) →
    Contains (r ∷ ks) n → Contains (r ∷ rs) n
contained_cases r rs ks part n (zero, less, is) = (0, omega arith, is)
contained_cases r rs ks part n (suc k, less, is) =
    contained_behind r rs n (part n (k, omega (arith, less), is))

module _ (shift : Option ℕ) where
  beside_part : (r : ℕ) (rs : List ℕ) (left : Option ℕ × List ℕ) → IsPart shift rs left →
      IsPart shift (r ∷ rs) (beside r left)
  beside_part r rs (None, []) h = record {
    shifts = h.shifts;
    reduces = λ n there. absurd (none_contained n there);
  }
  beside_part r rs (None, s ∷ ss) h = record {
    shifts = h.shifts;
    reduces = contained_cases r rs (s ∷ ss) h.reduces;
  }
  beside_part r rs (Some p, ss) h = record {
    shifts = h.shifts;
    reduces = contained_cases r rs ss h.reduces;
  }

  against_part : (stays : Stays) (r : ℕ) (rs : List ℕ) (left : Option ℕ × List ℕ) →
      IsPart shift rs left → IsPart shift (r ∷ rs) (against stays r rs left)
  against_part TheRule r rs left h = record {
    shifts = λ p same. absurd (none-some p same);
    reduces = λ n there. there;
  }
  against_part TheShift r rs left h = record {
    shifts = h.shifts;
    reduces = λ n there. contained_behind r rs n (h.reduces n there);
  }
  against_part Nothing r rs left h = record {
    shifts = λ p same. absurd (none-some p same);
    reduces = λ n there. absurd (none_contained n there);
  }
  against_part Both r rs left h = beside_part r rs left h

left_part : (which : ℕ → Stays) (p : ℕ) (rules : List ℕ) →
    IsPart (Some p) rules (left_of which p rules)
left_part which p [] = record { shifts = λ q same. same; reduces = λ n there. there }
left_part which p (r ∷ rs) =
    against_part (Some p) (which r) r rs (left_of which p rs) (left_part which p rs)

resolved_part : (which : ℕ → Stays) (shift : Option ℕ) (rules : List ℕ) →
    IsPart shift rules (resolved which shift rules)
resolved_part which None rules = record { shifts = λ q same. same; reduces = λ n there. there }
resolved_part which (Some p) rules = left_part which p rules

-- ---- the action that is chosen

pub chosen_shift : (shift : Option ℕ) (rules : List ℕ) (p : ℕ) → chosen shift rules ≡ Some (Shift p) →
    shift ≡ Some p
chosen_shift (Some q) rules p same = cc
chosen_shift None [] p same = absurd (none-some (Shift p) same)
chosen_shift None (r ∷ rules) p same = cc

chosen_rule : (shift : Option ℕ) (rules : List ℕ) (r : ℕ) → chosen shift rules ≡ Some (Reduce r) →
    Contains rules r
chosen_rule (Some q) rules r same = cc
chosen_rule None [] r same = absurd (none-some (Reduce r) same)
chosen_rule None (s ∷ rules) r same = (0, omega arith, cc)

module _ (m : Machine) (terminals rules : List (Option Precedence)) (cells : List (List Cell))
    (h : AreRowsOfCells m terminals rules (length m.sets) cells) where
  pub acts : (q t : ℕ) (action : Action) (cell : Option Cell) → action_of cell ≡ Some action →
      slice_get (get_or cells q []) t ≡ cell →
      (own : Cell) × IsCell m terminals rules q t own
      × (chosen own.shift own.reduces.items ≡ Some action)
  acts q t action None same is = absurd (none-some action same)
  acts q t action (Some own) same is =
      let low : q < length cells = elim (cases_lt q (length cells)) [
        | inl low ↦ low
        | inr past ↦
            absurd (none-some own
            (sym (ap (λ (row : List Cell). slice_get row t) (get_or_past cells q [] past)) ∙ is))
      ] in
      let within = slice_get_within (get_or cells q []) t own is in (
        own,
        subst (λ c. IsCell m terminals rules q t c)
            (get_or_from_slice_get (get_or cells q []) t own own is)
            ((h.each q low).each t own within),
        same,
      )

  pub AreSound-of : AreSound m cells
  AreSound-of = record {
    count = h.count;
    long = λ q d less.
        let same = get_or_from_slice_get cells q (get_or cells q []) d
        (slice_get-get_or cells q [] less) in
        subst (λ (row : List Cell). length row ≡ m.grammar.terminals) (sym same) (h.each q less).long;
    shifts = λ q t p same.
        let (own, is, act) = acts q t (Shift p) (slice_get (get_or cells q []) t) same refl in
        let part = resolved_part (stays_at terminals rules t) is.shift is.reduces in
        (is.all.shifts p).0 (part.shifts p (sym (ap (λ both. both.0) is.left)
        ∙ chosen_shift own.shift own.reduces.items p act));
    reduces = λ q t r same.
        let (own, is, act) = acts q t (Reduce r) (slice_get (get_or cells q []) t) same refl in
        let part = resolved_part (stays_at terminals rules t) is.shift is.reduces in
        (is.all.reduces.each r).0 (part.reduces r
        (subst (λ rs. Contains rs r) (ap (λ both. both.1) is.left)
        (chosen_rule own.shift own.reduces.items r act)));
  }
