-- Which actions of a state are left out of a cell.
use Rattle.std.proofs.Common.{◌≡◌, ◌↔◌, ◌⊎◌, inl, inr, ℕ, List, [], ◌∷◌, Bool, true, Option, None, Some, eqb, get_or, slice_get, refl, sym, ap, ◌∙◌, subst, arith}
use Rattle.std.specs.Bool.{IsTrue}
use Rattle.std.specs.List.{Contains}
use Rattle.std.specs.Option.{is_some, option_eq}
use Rattle.std.proofs.lemmas.Bool.{eqb-true, eq-eqb, false≢true}
use Rattle.std.proofs.lemmas.Option.{none-some, same_Some}
use Rattle.vob_lr.specs.Conflicts.{AreLeftOut, HasAction, HasActionAt, IsLeftOut}
use Rattle.vob_lr.specs.Lookaheads.{HasMove}
use Rattle.vob_lr.specs.Tables.{TableView, chosen}
use Rattle.vob_lr.specs.declared.grammar.Symbol.TheVariants.{Terminal}
use Rattle.vob_lr.specs.declared.table.Action.{Action}
use Rattle.vob_lr.specs.declared.table.Action.TheVariants.{Accept, Reduce, Shift}
use Rattle.vob_lr.specs.declared.table.Cell.{Cell}

module _ (cells : List (List Cell)) (q t : ℕ) (cell : Cell)
    (is : slice_get (get_or cells q []) t ≡ Some cell) where
  -- a bit that says whether the cell has an action
  pub has_at : (action : Action) (bit : Bool) → ((bit ≡ true) ↔ HasAction cell action) →
      IsTrue bit ↔ HasActionAt cells q t action
  has_at action bit same = (
    (λ on. (cell, is, same.0 on)),
    (λ (own, there, has). same.1 (subst (λ (x : Cell). HasAction x action) (same_Some own cell (sym there ∙ is)) has)),
  )

pub same_option : (a : Option ℕ) (p : ℕ) → (option_eq eqb a (Some p) ≡ true) ↔ (a ≡ Some p)
same_option None p = ((λ e. absurd (false≢true e)), (λ e. absurd (none-some p e)))
same_option (Some q) p = ((λ e. ap Some (eqb-true q p e)), (λ e. eq-eqb q p (same_Some q p e)))

-- the shift that is left out, by where the state moves
module _ (table : TableView) (q t : ℕ) (next : Option ℕ)
    (moves : (p : ℕ) → (next ≡ Some p) ↔ HasMove table.machine.moves q (Terminal t) p) where
  pub none_out : next ≡ None → (p : ℕ) → (None ≡ Some p) ↔ IsLeftOut table q t (Shift p)
  none_out none p = (
    (λ same. absurd (none-some p same)),
    (λ (move, out). absurd (none-some p (sym none ∙ (moves p).1 move))),
  )

  pub has_out : (to : ℕ) → next ≡ Some to → HasActionAt table.cells q t (Shift to) → (p : ℕ) →
      (None ≡ Some p) ↔ IsLeftOut table q t (Shift p)
  has_out to some own p = (
    (λ same. absurd (none-some p same)),
    (λ (move, out). absurd (out
        (subst (λ (n : ℕ). HasActionAt table.cells q t (Shift n)) (same_Some to p (sym some ∙ (moves p).1 move)) own))),
  )

  pub shift_out : (to : ℕ) → next ≡ Some to → (¬ HasActionAt table.cells q t (Shift to)) → (p : ℕ) →
      (Some to ≡ Some p) ↔ IsLeftOut table q t (Shift p)
  shift_out to some none p = (
    (λ same. (
      (moves p).0 (some ∙ same),
      subst (λ (n : ℕ). ¬ HasActionAt table.cells q t (Shift n)) (same_Some to p same) none,
    )),
    (λ (move, out). sym some ∙ (moves p).1 move),
  )

-- ---- a cell of what is left out has an action if precedence decided

some_chosen : (shift : Option ℕ) (rules : List ℕ) → is_some (chosen shift rules) ≡ true →
    ((p : ℕ) × (shift ≡ Some p)) ⊎ ((r : ℕ) × Contains rules r)
some_chosen (Some p) rules on = inl (p, refl)
some_chosen None [] on = absurd (false≢true on)
some_chosen None (r ∷ rules) on = inr (r, (0, omega arith, refl))

chosen_shift : (shift : Option ℕ) (rules : List ℕ) (p : ℕ) → shift ≡ Some p →
    is_some (chosen shift rules) ≡ true
chosen_shift None rules p is = absurd (none-some p is)
chosen_shift (Some q) rules p is = refl

chosen_rule : (shift : Option ℕ) (rules : List ℕ) (r : ℕ) → Contains rules r →
    is_some (chosen shift rules) ≡ true
chosen_rule (Some q) rules r there = refl
chosen_rule None [] r (k, less, is) = absurd (omega (arith, less))
chosen_rule None (s ∷ rules) r there = refl

module _ (table : TableView) (q t : ℕ) (cell : Cell) (h : AreLeftOut table q t cell) where
  has_some : (action : Action) → IsLeftOut table q t action →
      is_some (chosen cell.shift cell.reduces.items) ≡ true
  has_some Accept out = absurd out.0
  has_some (Shift p) out = chosen_shift cell.shift cell.reduces.items p ((h.shifts p).1 out)
  has_some (Reduce r) out = chosen_rule cell.shift cell.reduces.items r ((h.reduces.each r).1 out)

  pub decided_is : (is_some (chosen cell.shift cell.reduces.items) ≡ true)
      ↔ ((action : Action) × IsLeftOut table q t action)
  decided_is = (
    (λ on. elim (some_chosen cell.shift cell.reduces.items on) [
      | inl (p, is) ↦ (Shift p, (h.shifts p).0 is)
      | inr (r, there) ↦ (Reduce r, (h.reduces.each r).0 there)
    ]),
    (λ (action, out). has_some action out),
  )
