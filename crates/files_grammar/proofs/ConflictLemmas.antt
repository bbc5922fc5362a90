-- Conflicts, one cell after another.
use Rattle.std.proofs.Common.{◌≡◌, ◌↔◌, ◌⊎◌, ℕ, ◌+◌, ◌<◌, inl, inr, Bool, true, false, List, [], ◌∷◌, ◌++◌, get_or, length, Option, None, Some, slice_get, refl, sym, ap, ◌∙◌, subst, arith}
use Rattle.std.proofs.lemmas.Bool.{cases_eq, cases_lt}
use Rattle.std.proofs.lemmas.List.{get_or_past}
use Rattle.std.proofs.lemmas.Option.{get_or_from_slice_get, none-some, same_Some, slice_get-get_or, slice_get_within}
use Rattle.std.specs.Prelude.{Contains, IfSome, IsTrue}
use Rattle.vob_lr.specs.Conflicts.{action_count}
use Rattle.vob_lr.specs.Entered.{IsEntered}
use Rattle.vob_lr.specs.Entered.IsEntered.{goes}
use Rattle.vob_lr.specs.Lookaheads.{Machine, Reduces}
use Rattle.vob_lr.specs.Stops.{IsSound}
use Rattle.vob_lr.specs.Tables.{TableView, action_of, chosen}
use Rattle.vob_lr.specs.Those.{AreThose}
use Rattle.vob_lr.specs.declared.grammar.Symbol.TheVariants.{Terminal}
use Rattle.vob_lr.specs.declared.table.Cell.{Cell}
use Rattle.files_grammar.specs.Conflicts.{AreConflicts, AreLeft, CanShift, Choice, ComesBefore, IsChoice, IsConflict, left_by_error, decision_in}
use Rattle.files_grammar.specs.ConflictsFound.{AreFoundBefore, ArePrintable, IsBefore}
use Rattle.files_grammar.specs.declared.file.GrammarFile.{GrammarFile}
use Rattle.files_grammar.proofs.OrderLemmas.{AreInOrder-as, AreInOrder-more, AreInOrder-nothing, same_those}

same_bool : (a b : Bool) → (a ≡ true → b ≡ true) → (b ≡ true → a ≡ true) → a ≡ b
same_bool true b on back = sym (on refl)
same_bool false true on back = back refl
same_bool false false on back = refl

abbrev made : (q t : ℕ) → Option ℕ → Bool → List ℕ → Choice
made q t shift is_error rules =
    record { state = q; terminal = t; shift = shift; is_error = is_error; rules = rules }

stands_at : (x : Choice) (q t : ℕ) → x.state ≡ q → x.terminal ≡ t → x ≡ made q t x.shift x.is_error x.rules
stands_at x q t state terminal =
    ap (λ s. made s x.terminal x.shift x.is_error x.rules) state
    ∙ ap (λ u. made q u x.shift x.is_error x.rules) terminal

module _ (file : GrammarFile) (table : TableView) where
  -- ---- a cell has one choice

  one_left : (q t : ℕ) (cell : Cell) (is_error : Bool) (rules others : List ℕ) →
      AreLeft file table q t cell is_error rules → AreLeft file table q t cell is_error others → rules ≡ others
  one_left q t cell false rules others is also = is ∙ sym also
  one_left q t cell true rules others (all, those, is) (all_too, those_too, also) =
      is ∙ ap (left_by_error (decision_in file t)) (same_those (Reduces table.machine q t) all all_too those those_too)
      ∙ sym also

  one_made : (q t : ℕ) (s u : Option ℕ) (e f : Bool) (rs ss : List ℕ) → IsChoice file table (made q t s e rs) →
      IsChoice file table (made q t u f ss) → made q t s e rs ≡ made q t u f ss
  one_made q t s u e f rs ss x y =
      let cells : x.cell ≡ y.cell = same_Some x.cell y.cell (sym x.is ∙ y.is) in
      let shifts : s ≡ u = x.shift ∙ ap (λ (c : Cell). c.shift) cells ∙ sym y.shift in
      let errors : e ≡ f = same_bool e f (λ is. y.error.1 (x.error.0 is)) (λ is. x.error.1 (y.error.0 is)) in
      let by_cell = subst (λ (c : Cell). AreLeft file table q t c e rs) cells x.rules in
      let left = subst (λ (b : Bool). AreLeft file table q t y.cell b rs) errors by_cell in
      ap (λ s. made q t s e rs) shifts ∙ ap (λ e. made q t u e rs) errors
      ∙ ap (λ rs. made q t u f rs) (one_left q t y.cell f rs ss left y.rules)

  pub one_choice : (q t : ℕ) (x y : Choice) → x.state ≡ q → x.terminal ≡ t → y.state ≡ q → y.terminal ≡ t →
      IsChoice file table x → IsChoice file table y → x ≡ y
  one_choice q t x y xq xt yq yt is also =
      let to_x = stands_at x q t xq xt in
      let to_y = stands_at y q t yq yt in
      to_x ∙ one_made q t x.shift y.shift x.is_error y.is_error x.rules y.rules
      (subst (λ z. IsChoice file table z) to_x is) (subst (λ z. IsChoice file table z) to_y also)
      ∙ sym to_y

  -- ---- what was found before a cell

  pub none_found : AreFoundBefore file table 0 0 []
  none_found =
      AreInOrder-nothing ComesBefore (λ c. IsBefore c 0 0 × IsConflict file table c)
      (λ c there. elim there.0 [
        | inl low ↦ absurd (omega (arith, low))
        | inr low ↦ absurd (omega (arith, low.1))
      ])

  module _ (q t : ℕ) (found : List Choice) (h : AreFoundBefore file table q t found) where
    before : (c : Choice) → IsBefore c q (t + 1) ↔ (IsBefore c q t ⊎ ((c.state ≡ q) × (c.terminal ≡ t)))
    before c = (
      (λ there. elim there [
        | inl low ↦ inl (inl low)
        | inr same ↦ elim (cases_eq c.terminal t) [
          | inl own ↦ inr (same.0, own)
          | inr other ↦ inl (inr (same.0, omega (arith, same.1, other)))
        ]
      ]),
      (λ there. elim there [
        | inl old ↦ elim old [
          | inl low ↦ inl low
          | inr same ↦ inr (same.0, omega (arith, same.1))
        ]
        | inr own ↦ inr (own.0, omega (arith, own.1))
      ]),
    )

    pub found_with : (choice : Choice) → IsConflict file table choice → choice.state ≡ q → choice.terminal ≡ t →
        AreFoundBefore file table q (t + 1) (found ++ choice ∷ [])
    found_with choice own state terminal =
        AreInOrder-more ComesBefore (λ c. IsBefore c q t × IsConflict file table c)
        (λ c. IsBefore c q (t + 1) × IsConflict file table c) found choice h
        (λ c there. elim there.0 [
          | inl low ↦ inl (omega (arith, low, state))
          | inr same ↦ inr (same.0 ∙ sym state, omega (arith, same.1, terminal))
        ])
        (λ c. (
          (λ there. elim there [
            | inl old ↦ ((before c).1 (inl old.0), old.1)
            | inr same ↦
                subst (λ d. IsBefore d q (t + 1) × IsConflict file table d) same
                ((before choice).1 (inr (state, terminal)), own)
          ]),
          (λ there. elim ((before c).0 there.0) [
            | inl old ↦ inl (old, there.1)
            | inr same ↦
                inr (one_choice q t choice c state terminal same.0 same.1 own.choice_is there.1.choice_is)
          ]),
        ))

    pub found_without : ((c : Choice) → c.state ≡ q → c.terminal ≡ t → ¬ IsConflict file table c) →
        AreFoundBefore file table q (t + 1) found
    found_without none =
        AreInOrder-as ComesBefore (λ c. IsBefore c q t × IsConflict file table c)
        (λ c. IsBefore c q (t + 1) × IsConflict file table c)
        (λ c. (
          (λ there. ((before c).1 (inl there.0), there.1)),
          (λ there. elim ((before c).0 there.0) [
            | inl old ↦ (old, there.1)
            | inr same ↦ absurd (none c same.0 same.1 there.1)
          ]),
        )) found h

    -- after the last terminal of a state comes the next state
    pub found_in_row : ((c : Choice) → IsConflict file table c → c.state ≡ q → c.terminal < t) →
        AreFoundBefore file table (q + 1) 0 found
    found_in_row inside =
        AreInOrder-as ComesBefore (λ c. IsBefore c q t × IsConflict file table c)
        (λ c. IsBefore c (q + 1) 0 × IsConflict file table c)
        (λ c. (
          (λ there. elim there.0 [
            | inl low ↦ (inl (omega (arith, low)), there.1)
            | inr same ↦ (inl (omega (arith, same.0)), there.1)
          ]),
          (λ there. elim there.0 [
            | inl low ↦ elim (cases_eq c.state q) [
              | inl same ↦ (inr (same, inside c there.1 same), there.1)
              | inr other ↦ (inl (omega (arith, low, other)), there.1)
            ]
            | inr low ↦ absurd (omega (arith, low.1))
          ]),
        )) found h

  pub found_in_all : (q : ℕ) (found : List Choice) → ((c : Choice) → IsConflict file table c → c.state < q) →
      AreFoundBefore file table q 0 found → AreConflicts file table found
  found_in_all q found inside h =
      AreInOrder-as ComesBefore (λ c. IsBefore c q 0 × IsConflict file table c)
      (IsConflict file table) (λ c. ((λ there. there.1), (λ there. (inl (inside c there), there)))) found h

-- ---- where cells are, and where shifts lead

module _ (table : TableView) (sound : IsSound table) where
  pub cell_inside : (q t : ℕ) (cell : Cell) → slice_get (get_or table.cells q []) t ≡ Some cell →
      (q < length table.machine.sets) × (t < table.machine.grammar.terminals)
  cell_inside q t cell is =
      let inside = slice_get_within (get_or table.cells q []) t cell is in
      elim (cases_lt q (length table.cells)) [
        | inl low ↦ (omega (arith, low, sound.actions.count), omega (arith, inside, sound.actions.long q [] low))
        | inr past ↦ absurd (omega (arith, inside, ap length (get_or_past table.cells q [] past)))
      ]

  -- a parser enters the state of a shift
  pub shift_entered : (q t : ℕ) (cell : Cell) (p : ℕ) → IsEntered table q →
      slice_get (get_or table.cells q []) t ≡ Some cell → cell.shift ≡ Some p → IsEntered table p
  shift_entered q t cell p entered is shift =
      let move = sound.actions.shifts q t p
      (ap action_of is ∙ ap (λ s. chosen s cell.reduces.items) shift) in
      goes entered (Terminal t, move, (cell, is, shift))

-- a rule by which a parser reduces is there
pub reduces_below : (m : Machine) (q t r : ℕ) → Reduces m q t r → r < length m.grammar.rules.items
reduces_below m q t r (i, complete, ahead) =
    omega (
      arith,
      complete.rule,
      slice_get_within m.grammar.rules.items complete.item.rule complete.is.rule complete.is.is,
    )

-- a state with a number is entered
pub number_entered : (table : TableView) (entered : List ℕ) → AreThose (IsEntered table) entered → (q n : ℕ) →
    slice_get entered n ≡ Some q → IsEntered table q
number_entered table entered are q n is =
    (are.each q).0 (n, slice_get_within entered n q is, get_or_from_slice_get entered n q q is)

-- ---- the choice of a cell

pub made_choice : (file : GrammarFile) (table : TableView) (q t : ℕ) (cell : Cell) (is_error : Bool) (rules : List ℕ) →
    slice_get (get_or table.cells q []) t ≡ Some cell →
    (IsTrue is_error ↔ ((chosen cell.shift cell.reduces.items ≡ None) × CanShift table.machine q t)) →
    AreLeft file table q t cell is_error rules → IsChoice file table (made q t cell.shift is_error rules)
made_choice file table q t cell is_error rules is error left =
    let own = ap action_of is in
    record {
      cell = cell;
      is = is;
      shift = refl;
      error = (
        (λ yes. let (none, can) = error.0 yes in (own ∙ none, can)),
        (λ (none, can). error.1 (sym own ∙ none, can)),
      );
      rules = left;
    }

-- ---- a cell without more than one thing to do has no conflict

module _ (file : GrammarFile) (table : TableView) (q t : ℕ) where
  pub no_cell : slice_get (get_or table.cells q []) t ≡ None → (c : Choice) → c.state ≡ q → c.terminal ≡ t →
      ¬ IsConflict file table c
  no_cell none c state terminal conflict =
      let choice = subst (λ z. IsChoice file table z) (stands_at c q t state terminal) conflict.choice_is in
      none-some choice.cell (sym none ∙ choice.is)

  pub no_more : (x : Choice) → IsChoice file table x → x.state ≡ q → x.terminal ≡ t →
      (¬ (1 < action_count x.shift x.rules)) → (c : Choice) → c.state ≡ q → c.terminal ≡ t →
      ¬ IsConflict file table c
  no_more x is xq xt few c state terminal conflict =
      let same = one_choice file table q t c x state terminal xq xt conflict.choice_is is in
      few (subst (λ z. 1 < action_count z.shift z.rules) same conflict.more)

  pub not_entered : (entered : List ℕ) → AreThose (IsEntered table) entered →
      ((n : ℕ) → ¬ (slice_get entered n ≡ Some q)) →
      (c : Choice) → IsConflict file table c → c.state ≡ q → ⊥
  not_entered entered are none c conflict state =
      let (k, less, is) = (are.each q).1 (subst (IsEntered table) state conflict.entered) in
      none k (slice_get-get_or entered k q less ∙ ap Some is)

-- ---- conflicts can be printed

pub printable : (file : GrammarFile) (table : TableView) → IsSound table → (entered : List ℕ) →
    AreThose (IsEntered table) entered → (c : Choice) → IsConflict file table c → ArePrintable entered c
printable file table sound entered are c conflict =
    let choice = conflict.choice_is in (
      (are.each c.state).1 conflict.entered,
      some_listed c.shift (λ p shift. (are.each p).1 (shift_entered table sound c.state c.terminal choice.cell p
          conflict.entered choice.is (sym choice.shift ∙ shift))),
    )
  where
    some_listed : (shift : Option ℕ) → ((p : ℕ) → shift ≡ Some p → Contains entered p) → IfSome shift (Contains entered)
    some_listed None gives = tt
    some_listed (Some p) gives = gives p refl
