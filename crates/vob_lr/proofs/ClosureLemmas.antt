-- Closures of items, and what the items of a set bring into them.
use Rattle.std.proofs.Common.{◌≡◌, ◌↔◌, ℕ, zero, suc, ◌+◌, ◌<◌, ◌⊎◌, ◌||◌, inl, inr, Bool, true, false, None, Option, Some, List, [], ◌∷◌, ◌++◌, get_or, length, replicate, slice_get, refl, sym, ap, ◌∙◌, subst, arith}
use Rattle.std.specs.List.{All, Contains}
use Rattle.std.proofs.lemmas.Bool.{cases_eq, cases_lt, false≢true}
use Rattle.std.proofs.lemmas.List.{get_or-replicate, length-replicate}
use Rattle.std.proofs.lemmas.List.Elements.{Contains-append_left, Contains-get_or, Contains-push, Contains-push_cases}
use Rattle.std.proofs.lemmas.Option.{get_or_from_slice_get, none-some, same_Some, slice_get-get_or, slice_get_within}
use Rattle.std.specs.declared.ops.Bound.TheVariants.{Unbounded}
use Rattle.vob_block.specs.Packing.{item}
use Rattle.vob.specs.Bits.{AreCombined, IsWritten}
use Rattle.vob.specs.Vobs.{AreOfLength}
use Rattle.vob_block.proofs.PackingLemmas.{true_inside}
use Rattle.vob.proofs.BitsLemmas.{or_true}
use Rattle.vob_flow.proofs.FirstLemmas.{all_at}
use Rattle.vob_flow.specs.Draws.{IsIn}
use Rattle.vob_lr.specs.Equations.{AreEquations, AreSolved, HasAt, Reaches, System}
use Rattle.vob_lr.specs.Equations.Reaches.{at_start, along}
use Rattle.vob_lr.specs.Expansions.{Adds, Advances, AreExpansions, Brings, Expands, Gains, Gives, Has, HasOpening, HasRow, IsBrought, IsByFirst, IsByMember, IsOpening}
use Rattle.vob_lr.specs.Faults.{IsRuleOf, IsSymbol}
use Rattle.vob_lr.specs.ItemSets.{InClosure, IsAdvanced, IsItemClosure, IsGoto}
use Rattle.vob_lr.specs.ItemSets.InClosure.{inside, expands}
use Rattle.vob_lr.specs.Items.{HasNext, IsItem, first_item, item_total}
use Rattle.vob_lr.specs.States.{IsStart}
use Rattle.vob_lr.specs.Those.{AreThose}
use Rattle.vob_lr.proofs.ItemLemmas.{next_inside, next_is}
use Rattle.vob_lr.proofs.SolvedLemmas.{AreSolved-as}
use Rattle.vob_lr.proofs.TableLemmas.{AreInOrder-as}
use Rattle.vob_lr.specs.declared.grammar.Grammar.{Grammar}
use Rattle.vob_lr.specs.declared.grammar.Rule.{Rule}
use Rattle.vob_lr.specs.declared.grammar.Symbol.{Symbol}
use Rattle.vob_lr.specs.declared.grammar.Symbol.TheVariants.{Terminal, Nonterminal}
use Rattle.vob_lr.specs.declared.items.Item.{Item}
use Rattle.vob_walk.specs.Matches.{matches}
use Rattle.vob_walk.proofs.IndexLemmas.{matches_exactly, matches_rise}

-- what comes to a set is in it
pub reaches_in : (Owns : ℕ → Symbol → Type 0) (rows : List (List Bool)) → AreSolved Owns rows →
    {i a : ℕ} → Reaches Owns i a → IsIn rows a i
reaches_in Owns rows h {i} {a} (at_start has) = h.starts a i has
reaches_in Owns rows h {i} {a} (along {m = m} has r) = h.draws a m i has (reaches_in Owns rows h r)

module _ {rules : List Rule} where
  -- an item that was brought brings more
  brought_on : {j a b i : ℕ} → Reaches (Expands rules) j b → HasNext rules j (Nonterminal a) →
      Reaches (Expands rules) i a → Reaches (Expands rules) i b
  brought_on {j} (at_start opens) next r = along (j, opens, next) r
  brought_on (along has s) next r = along has (brought_on s next r)

  module _ {Start : ℕ → Type 0} where
    -- what the items bring is in their closure
    brought : {i a : ℕ} → Reaches (Expands rules) i a → (j : ℕ) → InClosure rules Start j →
        HasNext rules j (Nonterminal a) → InClosure rules Start i
    brought (at_start opens) j h next = expands h next opens
    brought (along has r) j h next = brought r has.0 (expands h next has.1) has.2

    -- and nothing else
    closure_parts : {i : ℕ} → InClosure rules Start i →
        Start i ⊎ ((j : ℕ) × Start j × Brings rules j i)
    closure_parts (inside start) = inl start
    closure_parts (expands {i} {j} {a} h next opens) = elim (closure_parts h) [
      | inl start ↦ inr (j, start, (a, next, at_start opens))
      | inr found ↦
          let (b, ahead, r) = found.2 in
          inr (found.0, found.1, (b, ahead, brought_on r next (at_start opens)))
    ]

    pub closure_is : (i : ℕ) →
        InClosure rules Start i ↔ (Start i ⊎ ((j : ℕ) × Start j × Brings rules j i))
    closure_is i = (
      closure_parts,
      (λ h. elim h [
        | inl start ↦ inside start
        | inr found ↦
            let (a, ahead, r) = found.2 in
            brought r found.0 (inside found.1) ahead
      ]),
    )

  -- the closure of the same items in other words
  pub closure_as : {Start Given : ℕ → Type 0} → ((i : ℕ) → Start i → Given i) → {i : ℕ} →
      InClosure rules Start i → InClosure rules Given i
  closure_as to (inside start) = inside (to _ start)
  closure_as to (expands h next opens) = expands (closure_as to h) next opens

-- ---- sets that gain

module _ (before after : List Bool) where
  pub Gains-as : (P Q : ℕ → Type 0) → ((i : ℕ) → P i ↔ Q i) → Gains P before after →
      Gains Q before after
  Gains-as P Q same g = record {
    len = g.len;
    each = λ i. (
      (λ there. elim ((g.each i).0 there) [ inl old ↦ inl old | inr new ↦ inr ((same i).0 new) ]),
      (λ a. elim a [
        | inl old ↦ (g.each i).1 (inl old)
        | inr new ↦ (g.each i).1 (inr ((same i).1 new))
      ]),
    );
  }

  pub Gains-or : (row : List Bool) → AreCombined ◌||◌ before row after → Gains (Has row) before after
  Gains-or row h = record { len = h.len; each = λ i. or_true before row after i h }

  pub Gains-set : (index : ℕ) → IsWritten before index true after →
      Gains (λ i. index ≡ i) before after
  Gains-set index w = record {
    len = w.len;
    each = λ i. elim (cases_eq i index) [
      | inl same ↦ (
        (λ there. inr (sym same)),
        (λ a. ap (item after) same ∙ w.there),
      )
      | inr other ↦ (
        (λ there. inl (sym (w.others i other) ∙ there)),
        (λ a. elim a [
          | inl old ↦ w.others i other ∙ old
          | inr new ↦ absurd (other (sym new))
        ]),
      )
    ];
  }

pub Gains-none : (P : ℕ → Type 0) (set : List Bool) → ((i : ℕ) → ¬ P i) → Gains P set set
Gains-none P set none = record {
  len = refl;
  each = λ i. (
    (λ there. inl there),
    (λ a. elim a [ inl old ↦ old | inr new ↦ absurd (none i new) ]),
  );
}

-- no bit is true
pub none_true : (n i : ℕ) → ¬ Has (replicate n false) i
none_true n i there =
    let within = true_inside (replicate n false) i there in
    let low : i < n = omega (arith, within, length-replicate n false) in
    false≢true (sym (get_or-replicate n i false false low) ∙ there)

-- ---- one gain after another

module _ (A B C P Q R : ℕ → Type 0) (is : (i : ℕ) → (P i ⊎ Q i) ↔ R i) (g : (i : ℕ) → B i ↔ (A i ⊎ P i))
    (h : (i : ℕ) → C i ↔ (B i ⊎ Q i)) (i : ℕ) where
  gained : C i → A i ⊎ R i
  gained there = elim ((h i).0 there) [
    | inl old ↦ elim ((g i).0 old) [
      | inl first ↦ inl first
      | inr new ↦ inr ((is i).0 (inl new))
    ]
    | inr new ↦ inr ((is i).0 (inr new))
  ]

  gains : A i ⊎ R i → C i
  gains a = elim a [
    | inl first ↦ (h i).1 (inl ((g i).1 (inl first)))
    | inr own ↦ elim ((is i).1 own) [
      | inl new ↦ (h i).1 (inl ((g i).1 (inr new)))
      | inr new ↦ (h i).1 (inr new)
    ]
  ]

pub Gains-both : (before mid after : List Bool) (P Q R : ℕ → Type 0) → ((i : ℕ) → (P i ⊎ Q i) ↔ R i) →
    Gains P before mid → Gains Q mid after → Gains R before after
Gains-both before mid after P Q R is g h = record {
  len = h.len ∙ g.len;
  each = λ i. (
    gained (Has before) (Has mid) (Has after) P Q R is g.each h.each i,
    gains (Has before) (Has mid) (Has after) P Q R is g.each h.each i,
  );
}

-- the same of lists
pub Adds-both : (before mid after : List ℕ) (P Q R : ℕ → Type 0) → ((i : ℕ) → (P i ⊎ Q i) ↔ R i) →
    Adds P before mid → Adds Q mid after → Adds R before after
Adds-both before mid after P Q R is g h = λ i. (
  gained (Contains before) (Contains mid) (Contains after) P Q R is g h i,
  gains (Contains before) (Contains mid) (Contains after) P Q R is g h i,
)

pub Adds-as : (before after : List ℕ) (P Q : ℕ → Type 0) → ((i : ℕ) → P i ↔ Q i) → Adds P before after →
    Adds Q before after
Adds-as before after P Q same g = λ i. (
  (λ there. elim ((g i).0 there) [ inl old ↦ inl old | inr new ↦ inr ((same i).0 new) ]),
  (λ a. elim a [ inl old ↦ (g i).1 (inl old) | inr new ↦ (g i).1 (inr ((same i).1 new)) ]),
)

pub Adds-none : (P : ℕ → Type 0) (list : List ℕ) → ((i : ℕ) → ¬ P i) → Adds P list list
Adds-none P list none = λ i. (
  (λ there. inl there),
  (λ a. elim a [ inl old ↦ old | inr new ↦ absurd (none i new) ]),
)

pub Adds-push : (list : List ℕ) (n : ℕ) → Adds (λ i. n ≡ i) list (list ++ n ∷ [])
Adds-push list n = λ i. (
  (λ there. Contains-push_cases list n i there),
  (λ a. elim a [
    | inl old ↦ Contains-append_left list (n ∷ []) i old
    | inr same ↦ subst (λ (m : ℕ). Contains (list ++ n ∷ []) m) same (Contains-push list n)
  ]),
)

-- ---- what the first numbers of a list give

module _ (Each : ℕ → ℕ → Type 0) (list : List ℕ) where
  pub by_first_none : (i : ℕ) → ¬ IsByFirst Each list 0 i
  by_first_none i h = omega (arith, h.1)

  pub by_first_more : (k i : ℕ) →
      (IsByFirst Each list k i ⊎ Each (get_or list k 0) i) ↔ IsByFirst Each list (k + 1) i
  by_first_more k i = (
    (λ a. elim a [
      | inl low ↦ (low.0, omega (arith, low.1), low.2)
      | inr here ↦ (k, omega arith, here)
    ]),
    (λ h. elim (cases_lt h.0 k) [
      | inl low ↦ inl (h.0, low, h.2)
      | inr past ↦
          let at : h.0 ≡ k = omega (arith, past, h.1) in
          inr (subst (λ (q : ℕ). Each (get_or list q 0) i) at h.2)
    ]),
  )

  pub by_first_all : (k : ℕ) → k ≡ length list → (i : ℕ) →
      IsByFirst Each list k i ↔ IsByMember Each list i
  by_first_all k all i = (
    (λ h. (get_or list h.0 0, Contains-get_or list h.0 0 (omega (arith, h.1, all)), h.2)),
    (λ h.
        let (j, (q, less, is), each) = h in
        let same = get_or_from_slice_get list q j 0 (slice_get-get_or list q j less ∙ ap Some is) in
        (q, omega (arith, less, all), subst (λ (n : ℕ). Each n i) (sym same) each)),
  )

-- ---- sets as lists, and closures

pub AreThose-matches : (set : List Bool) (list : List ℕ) → list ≡ matches set true Unbounded Unbounded →
    AreThose (Has set) list
AreThose-matches set list is =
    rw is record {
      each = λ i.
          let e = matches_exactly set true Unbounded Unbounded i in
          ((λ there. (e.0 there).2), (λ own. e.1 (true_inside set i own, refl, own)));
      rise = matches_rise set true Unbounded Unbounded;
    }

pub IsItemClosure-gained : (rules : List Rule) (set : List ℕ) (k : ℕ) → k ≡ length set → (n : ℕ)
    (made : List Bool) → Gains (IsByFirst (Gives rules) set k) (replicate n false) made →
    (closure : List ℕ) → AreThose (Has made) closure → IsItemClosure rules set closure
IsItemClosure-gained rules set k all n made g closure h =
    AreInOrder-as (λ i j. i < j) (Has made) (InClosure rules (Contains set))
    (λ i.
    let each = g.each i in
    let is = closure_is {rules = rules} {Start = Contains set} i in
    let by = by_first_all (Gives rules) set k all i in (
      (λ there. elim (each.0 there) [
        | inl old ↦ absurd (none_true n i old)
        | inr new ↦
            let (j, own, gives) = by.0 new in
            elim gives [
              | inl same ↦ is.1 (inl (subst (λ (m : ℕ). Contains set m) same own))
              | inr brings ↦ is.1 (inr (j, own, brings))
            ]
      ]),
      (λ closed. elim (is.0 closed) [
        | inl own ↦ each.1 (inr (by.1 (i, own, inl refl)))
        | inr found ↦ each.1 (inr (by.1 (found.0, found.1, inr found.2)))
      ]),
    ))
    closure h

-- ---- where the dot passes a symbol

module _ (rules : List Rule) (set : List ℕ) (x : Symbol) (made : List ℕ) where
  pub IsAdvanced-added : (k : ℕ) → k ≡ length set →
      Adds (IsByFirst (Advances rules x) set k) [] made →
      (i : ℕ) → Contains made i ↔ IsAdvanced rules set x i
  IsAdvanced-added k all g i =
      let by = by_first_all (Advances rules x) set k all i in (
        (λ there. elim ((g i).0 there) [
          | inl none ↦ absurd (omega (arith, none.1))
          | inr new ↦ let (j, own, (next, at)) = by.0 new in (j, own, next, at)
        ]),
        (λ (j, own, next, at). (g i).1 (inr (by.1 (j, own, (next, at))))),
      )

  module _ (is : (i : ℕ) → Contains made i ↔ IsAdvanced rules set x i) where
    pub advanced_inside : All (λ i. i < item_total rules) made
    advanced_inside = λ k d less.
        let (j, own, next, at) = (is (get_or made k d)).0 (Contains-get_or made k d less) in
        omega (arith, next_inside rules j x next, at)

    pub IsGoto-closed : (next : List ℕ) → IsItemClosure rules made next → IsGoto rules set x next
    IsGoto-closed next h =
        AreInOrder-as (λ i j. i < j) (InClosure rules (Contains made))
        (InClosure rules (IsAdvanced rules set x))
        (λ i. (
          (λ there. closure_as (λ j. (is j).0) there),
          (λ there. closure_as (λ j. (is j).1) there),
        ))
        next h

-- item 0 alone, and its closure
pub first_inside : (rules : List Rule) → 0 < item_total rules → All (λ i. i < item_total rules) (0 ∷ [])
first_inside rules less zero d low = less
first_inside rules less (suc k) d low = absurd (omega (arith, low))

pub IsStart-closed : (rules : List Rule) (set : List ℕ) → IsItemClosure rules (0 ∷ []) set → IsStart rules set
IsStart-closed rules set h =
    AreInOrder-as (λ i j. i < j) (InClosure rules (Contains (0 ∷ []))) (InClosure rules (λ i. i ≡ 0))
    (λ i. (
      (λ there. closure_as (λ j own. alone j own) there),
      (λ there. closure_as (λ j same. subst (λ (n : ℕ). Contains (0 ∷ []) n) (sym same) (0, omega arith, refl)) there),
    ))
    set h
  where
    alone : (j : ℕ) → Contains (0 ∷ []) j → j ≡ 0
    alone j (zero, less, is) = sym is
    alone j (suc k, less, is) = absurd (omega (arith, less))

-- ---- what a symbol behind a dot brings

module _ (grammar : Grammar) (rows : List (List Bool)) (h : AreExpansions grammar rows) where
  -- it has a row
  pub next_row : (i : ℕ) (next : Option Symbol) →
      ((x : Symbol) → (next ≡ Some x) ↔ HasNext grammar.rules.items i x) →
      HasRow (length rows) next
  next_row i None is = tt
  next_row i (Some (Terminal t)) is = tt
  next_row i (Some (Nonterminal a)) is =
      let ahead = (is (Nonterminal a)).0 refl in
      let rule = all_at (IsRuleOf grammar) grammar.rules.items h.rules ahead.item.rule ahead.is.rule
      ahead.is.is in
      let low = all_at (IsSymbol grammar.terminals grammar.nonterminals) ahead.is.rule.right.items
      rule.1 ahead.item.dot (Nonterminal a) ahead.next in
      omega (arith, low, h.count)

  pub brought_is : (j : ℕ) (next : Option Symbol) →
      ((x : Symbol) → (next ≡ Some x) ↔ HasNext grammar.rules.items j x) → (i : ℕ) →
      IsBrought rows next i ↔ Brings grammar.rules.items j i
  brought_is j None is i = (
    (λ none. absurd none),
    (λ found.
        let (a, ahead, r) = found in
        absurd (none-some (Nonterminal a) ((is (Nonterminal a)).1 ahead))),
  )
  brought_is j (Some (Terminal t)) is i = (
    (λ none. absurd none),
    (λ found.
        let (a, ahead, r) = found in
        let same = same_Some (Terminal t) (Nonterminal a) ((is (Nonterminal a)).1 ahead) in cc),
  )
  brought_is j (Some (Nonterminal b)) is i = (
    (λ there. (b, (is (Nonterminal b)).0 refl, h.solved.least b i there)),
    (λ found.
        let (a, ahead, r) = found in
        let named = same_Some (Nonterminal b) (Nonterminal a) ((is (Nonterminal a)).1 ahead) in
        let same : a ≡ b = cc in
        subst (λ (n : ℕ). IsIn rows n i) same
        (reaches_in (Expands grammar.rules.items) rows h.solved r)),
  )

  -- so what it adds is what the item brings
  pub Gains-brought : (j : ℕ) (next : Option Symbol) →
      ((x : Symbol) → (next ≡ Some x) ↔ HasNext grammar.rules.items j x) →
      (before after : List Bool) → Gains (IsBrought rows next) before after →
      Gains (Brings grammar.rules.items j) before after
  Gains-brought j next is before after g =
      Gains-as before after (IsBrought rows next) (Brings grammar.rules.items j)
      (brought_is j next is) g

-- ---- the first items of rules

module _ (rules : List Rule) where
  pub HasOpening-none : (a : ℕ) (x : Symbol) → ¬ HasOpening rules 0 a x
  HasOpening-none a x h = omega (arith, h.1)

  -- one rule more
  pub HasOpening-more : (k : ℕ) (rule : Rule) → slice_get rules k ≡ Some rule → (a : ℕ)
      (x : Symbol) → HasOpening rules (k + 1) a x
      ↔ (((rule.left ≡ a) × IsOpening (first_item rules k) rule.right.items x)
      ⊎ HasOpening rules k a x)
  HasOpening-more k rule is a x = (
    (λ h.
        let (r, less, own, there, left, opening) = h in
        elim (cases_lt r k) [
          | inl low ↦ inr (r, low, own, there, left, opening)
          | inr past ↦
              let here : r ≡ k = omega (arith, past, less) in
              let same = same_Some own rule
              (sym there ∙ ap (slice_get rules) here ∙ is) in
              inl (
                sym (ap (λ (z : Rule). z.left) same) ∙ left,
                subst (λ (z : Rule). IsOpening (first_item rules k) z.right.items x) same
                    (subst (λ (n : ℕ). IsOpening (first_item rules n) own.right.items x) here opening),
              )
        ]),
    (λ a. elim a [
      | inl here ↦ (k, omega arith, rule, is, here.0, here.1)
      | inr low ↦ (low.0, omega (arith, low.1), low.2, low.3, low.4, low.5)
    ]),
  )

  -- what stands behind the first dot of a rule
  first_next : (r : ℕ) (rule : Rule) → slice_get rules r ≡ Some rule → (x : Symbol) →
      (slice_get rule.right.items 0 ≡ Some x) ↔ HasNext rules (first_item rules r) x
  first_next r rule is x =
      let item : Item = record { rule = r; dot = 0 } in
      let first : IsItem rules (first_item rules r) item =
      record { rule = rule; is = is; dot = omega arith; number = omega arith } in
      next_is rules (first_item rules r) item first x

  pub HasOpening-all : (k : ℕ) → k ≡ length rules → (a : ℕ) (x : Symbol) →
      HasOpening rules k a x ↔ Expands rules a x
  HasOpening-all k all a (Terminal i) = (
    (λ h. (h.0, h.2, h.3, h.4, h.5)),
    (λ h.
        let less = slice_get_within rules h.0 h.1 h.2 in
        (h.0, omega (arith, less, all), h.1, h.2, h.3, h.4)),
  )
  HasOpening-all k all a (Nonterminal b) = (
    (λ h. (
      first_item rules h.0,
      (h.0, h.2, h.3, h.4, refl),
      (first_next h.0 h.2 h.3 (Nonterminal b)).0 h.5,
    )),
    (λ h.
        let (i, (r, rule, is, left, first), ahead) = h in
        let less = slice_get_within rules r rule is in
        let there = subst (λ (n : ℕ). HasNext rules n (Nonterminal b)) (sym first) ahead in
        (r, omega (arith, less, all), rule, is, left, (first_next r rule is (Nonterminal b)).1 there)),
  )

pub AreExpansions-solved : (grammar : Grammar) {system : System} (rows : List (List Bool)) →
    All (IsRuleOf grammar) grammar.rules.items → AreEquations grammar.nonterminals
    (item_total grammar.rules.items) (Expands grammar.rules.items) system →
    length rows ≡ length system.starts → AreOfLength system.places rows →
    AreSolved (HasAt system) rows → AreExpansions grammar rows
AreExpansions-solved grammar {system} rows sound e count long solved = record {
  rules = sound;
  count = count ∙ e.count;
  long = rw e.width at long;
  solved = AreSolved-as (HasAt system) (Expands grammar.rules.items) e.each rows solved;
}
