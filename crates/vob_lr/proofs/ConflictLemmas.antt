-- Where the answer to a question is yes, one cell after another.
use Rattle.std.proofs.Common.{◌≡◌, ◌↔◌, ◌⊎◌, ℕ, ◌+◌, ◌<◌, inl, inr, List, [], ◌∷◌, ◌++◌, get_or, length, Some, slice_get, sym, ap, ◌∙◌, subst, arith}
use Rattle.std.proofs.lemmas.Bool.{cases_eq, cases_lt}
use Rattle.std.proofs.lemmas.List.{get_or_past}
use Rattle.std.proofs.lemmas.Option.{slice_get_within}
use Rattle.vob_lr.specs.Conflicts.{ArePlacesBefore, ComesBefore, IsAt, MayTake}
use Rattle.vob_lr.specs.Stops.{IsSound}
use Rattle.vob_lr.specs.Tables.{TableView}
use Rattle.vob_lr.specs.Those.{AreInOrder}
use Rattle.vob_lr.specs.declared.conflicts.Question.{Question}
use Rattle.vob_lr.specs.declared.conflicts.Question.TheVariants.{Decided, Undecided}
use Rattle.vob_lr.specs.declared.grammar.Symbol.TheVariants.{Terminal}
use Rattle.vob_lr.specs.declared.table.Action.{Action}
use Rattle.vob_lr.specs.declared.table.Action.TheVariants.{Accept, Reduce, Shift}
use Rattle.vob_lr.specs.declared.table.Cell.{Cell}
use Rattle.vob_lr.specs.declared.table.Conflict.{Conflict}
use Rattle.vob_lr.proofs.DoneLemmas.{ahead_terminal, move_inside, move_terminal}
use Rattle.vob_lr.proofs.MemberLemmas.{ahead_inside}
use Rattle.vob_lr.proofs.SetLemmas.{set_inside}
use Rattle.vob_lr.proofs.TableLemmas.{AreInOrder-as, AreInOrder-more, AreInOrder-nothing}

abbrev place : ℕ → ℕ → Conflict
place q t = record { state = q; terminal = t }

one_place : (c : Conflict) (q t : ℕ) → c.state ≡ q → c.terminal ≡ t → c ≡ place q t
one_place c q t state terminal =
    ap (λ s. place s c.terminal) state ∙ ap (λ u. place q u) terminal

module _ (table : TableView) (question : Question) where
  pub no_places : ArePlacesBefore table question (place 0 0) []
  no_places =
      AreInOrder-nothing ComesBefore (λ c. ComesBefore c (place 0 0) × IsAt table question c)
      (λ c there. elim there.0 [
        | inl low ↦ absurd (omega (arith, low))
        | inr low ↦ absurd (omega (arith, low.1))
      ])

  module _ (q t : ℕ) (found : List Conflict) (h : ArePlacesBefore table question (place q t) found) where
    -- before the next terminal comes this one, and what comes before it
    before : (c : Conflict) → ComesBefore c (place q (t + 1))
        ↔ (ComesBefore c (place q t) ⊎ (place q t ≡ c))
    before c = (
      (λ there. elim there [
        | inl low ↦ inl (inl low)
        | inr same ↦ elim (cases_eq c.terminal t) [
          | inl own ↦ inr (sym (one_place c q t same.0 own))
          | inr other ↦ inl (inr (same.0, omega (arith, same.1, other)))
        ]
      ]),
      (λ there. elim there [
        | inl old ↦ elim old [
          | inl low ↦ inl low
          | inr same ↦ inr (same.0, omega (arith, same.1))
        ]
        | inr own ↦
            inr (
              sym (ap (λ (d : Conflict). d.state) own),
              omega (arith, ap (λ (d : Conflict). d.terminal) own),
            )
      ]),
    )

    pub places_with : IsAt table question (place q t) →
        ArePlacesBefore table question (place q (t + 1)) (found ++ place q t ∷ [])
    places_with own =
        AreInOrder-more ComesBefore (λ c. ComesBefore c (place q t) × IsAt table question c)
        (λ c. ComesBefore c (place q (t + 1)) × IsAt table question c) found (place q t) h
        (λ c there. there.0)
        (λ c. (
          (λ there. elim there [
            | inl old ↦ ((before c).1 (inl old.0), old.1)
            | inr same ↦ ((before c).1 (inr same), subst (λ d. IsAt table question d) same own)
          ]),
          (λ there. elim ((before c).0 there.0) [
            | inl old ↦ inl (old, there.1)
            | inr same ↦ inr same
          ]),
        ))

    pub places_without : (IsAt table question (place q t) → ⊥) →
        ArePlacesBefore table question (place q (t + 1)) found
    places_without none =
        AreInOrder-as ComesBefore (λ c. ComesBefore c (place q t) × IsAt table question c)
        (λ c. ComesBefore c (place q (t + 1)) × IsAt table question c)
        (λ c. (
          (λ there. ((before c).1 (inl there.0), there.1)),
          (λ there. elim ((before c).0 there.0) [
            | inl old ↦ (old, there.1)
            | inr same ↦ absurd (none (subst (λ d. IsAt table question d) (sym same) there.1))
          ]),
        )) found h

    -- behind the last terminal of a state comes the next state
    pub places_of_row : ((c : Conflict) → IsAt table question c → c.terminal < t) →
        ArePlacesBefore table question (place (q + 1) 0) found
    places_of_row inside =
        AreInOrder-as ComesBefore (λ c. ComesBefore c (place q t) × IsAt table question c)
        (λ c. ComesBefore c (place (q + 1) 0) × IsAt table question c)
        (λ c. (
          (λ there. elim there.0 [
            | inl low ↦ (inl (omega (arith, low)), there.1)
            | inr same ↦ (inl (omega (arith, same.0)), there.1)
          ]),
          (λ there. elim there.0 [
            | inl low ↦ elim (cases_eq c.state q) [
              | inl same ↦ (inr (same, inside c there.1), there.1)
              | inr other ↦ (inl (omega (arith, low, other)), there.1)
            ]
            | inr low ↦ absurd (omega (arith, low.1))
          ]),
        )) found h

  pub places_of_all : (q : ℕ) (found : List Conflict) →
      ((c : Conflict) → IsAt table question c → c.state < q) →
      ArePlacesBefore table question (place q 0) found → AreInOrder ComesBefore (IsAt table question) found
  places_of_all q found inside h =
      AreInOrder-as ComesBefore (λ c. ComesBefore c (place q 0) × IsAt table question c)
      (IsAt table question) (λ c. ((λ there. there.1), (λ there. (inl (inside c there), there)))) found h

-- ---- a state and a terminal of which the answer is yes are there

module _ (table : TableView) (sound : IsSound table) where
  may_inside : (q t : ℕ) (action : Action) → MayTake table.machine q t action →
      (q < length table.machine.sets) × (t < table.machine.grammar.terminals)
  may_inside q t Accept move = absurd move
  may_inside q t (Shift p) move = (
    move_inside table.machine sound.states sound.rules q (Terminal t) p move,
    move_terminal table.machine sound.states sound.rules q t p move,
  )
  may_inside q t (Reduce r) (i, complete, ahead) = (
    set_inside table.machine.sets q i (ahead_inside table.machine sound.states ahead),
    ahead_terminal table.machine sound.states sound.rules ahead,
  )

  cell_inside : (q t : ℕ) (cell : Cell) → slice_get (get_or table.cells q []) t ≡ Some cell →
      (q < length table.machine.sets) × (t < table.machine.grammar.terminals)
  cell_inside q t cell is =
      let inside = slice_get_within (get_or table.cells q []) t cell is in
      elim (cases_lt q (length table.cells)) [
        | inl low ↦ (omega (arith, low, sound.actions.count), omega (arith, inside, sound.actions.long q [] low))
        | inr past ↦ absurd (omega (arith, inside, ap length (get_or_past table.cells q [] past)))
      ]

  pub place_inside : (question : Question) (c : Conflict) → IsAt table question c →
      (c.state < length table.machine.sets) × (c.terminal < table.machine.grammar.terminals)
  place_inside Undecided c (cell, is, more) = cell_inside c.state c.terminal cell is
  place_inside Decided c (action, (may, out)) = may_inside c.state c.terminal action may
