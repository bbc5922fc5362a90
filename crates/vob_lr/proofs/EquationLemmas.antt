-- Sets that gain symbols to start with and to draw from, one after another.
use Rattle.std.proofs.Common.{◌≡◌, ◌↔◌, ℕ, ◌<◌, ◌⊎◌, ◌||◌, inl, inr, Bool, true, false, List, [], ◌∷◌, ◌++◌, length, get_or, set, replicate, refl, sym, ap, ◌∙◌, subst, arith}
use Rattle.std.proofs.lemmas.Bool.{cases_eq, cases_lt, false≢true}
use Rattle.std.proofs.lemmas.List.{get_or-replicate, get_or-set_same, get_or-set_other, get_or_past, length-replicate, length-set}
use Rattle.std.proofs.lemmas.List.Elements.{Contains-append_left, Contains-push, Contains-push_cases}
use Rattle.vob_block.specs.Packing.{item}
use Rattle.vob_block.specs.Pointwise.{pointwise}
use Rattle.vob.proofs.BitsLemmas.{AreCombined-pointwise, or_true}
use Rattle.vob_flow.specs.Draws.{IsIn}
use Rattle.vob_lr.specs.Equations.{AreEquations, At, GainEach, GainEachRest, HasAt, IsTerminalOf, System}
use Rattle.vob_lr.specs.declared.grammar.Symbol.{Symbol}
use Rattle.vob_lr.specs.declared.grammar.Symbol.TheVariants.{Terminal, Nonterminal}

-- ---- one set starts with more, or draws from one more

-- a row changes, and no other
row_gains : (rows : List (List Bool)) (n : ℕ) (row : List Bool) (P : ℕ → Type 0) → n < length rows →
    ((t : ℕ) → (item row t ≡ true) ↔ (IsIn rows n t ⊎ P t)) → (k t : ℕ) →
    IsIn (set rows n row) k t ↔ (IsIn rows k t ⊎ ((n ≡ k) × P t))
row_gains rows n row P inside each k t = elim (cases_eq k n) [
  | inl here ↦ rw (here, get_or-set_same rows n row [] inside) (
    (λ e. elim ((each t).0 e) [ inl old ↦ inl old | inr new ↦ inr (refl, new) ]),
    (λ a. (each t).1 (elim a [ inl old ↦ inl old | inr new ↦ inr new.1 ])),
  )
  | inr other ↦ rw (get_or-set_other rows n k row [] other) (
    (λ e. inl e),
    (λ a. elim a [ inl old ↦ old | inr new ↦ absurd (other (sym new.0)) ]),
  )
]

module _ (before after : System) (n : ℕ) where
  starts_each : (row : List Bool) (P : Symbol → Type 0) → n < length before.starts →
      after.starts ≡ set before.starts n row → after.edges ≡ before.edges →
      ((t : ℕ) → (item row t ≡ true) ↔ (IsIn before.starts n t ⊎ P (Terminal t))) →
      ((a : ℕ) → ¬ P (Nonterminal a)) → (k : ℕ) (x : Symbol) →
      HasAt after k x ↔ (HasAt before k x ⊎ At n P k x)
  starts_each row P inside put edges each none k (Terminal t) =
      rw put (row_gains before.starts n row (λ u. P (Terminal u)) inside each k t)
  starts_each row P inside put edges each none k (Nonterminal a) = rw edges (
    (λ e. inl e),
    (λ h. elim h [ inl old ↦ old | inr new ↦ absurd (none a new.1) ]),
  )

  pub GainEach-starts : (row : List Bool) (P : Symbol → Type 0) → n < length before.starts →
      after.starts ≡ set before.starts n row → after.places ≡ before.places →
      after.edges ≡ before.edges →
      ((t : ℕ) → (item row t ≡ true) ↔ (IsIn before.starts n t ⊎ P (Terminal t))) →
      ((a : ℕ) → ¬ P (Nonterminal a)) → GainEach (At n P) before after
  GainEach-starts row P inside put places edges each none = record {
    count = ap length put ∙ length-set before.starts n row;
    places = places;
    each = starts_each row P inside put edges each none;
  }

  pub GainEach-terminal : (t : ℕ) → n < length before.starts →
      t < length (get_or before.starts n []) →
      after.starts ≡ set before.starts n (set (get_or before.starts n []) t true) →
      after.places ≡ before.places → after.edges ≡ before.edges →
      GainEach (At n (λ x. Terminal t ≡ x)) before after
  GainEach-terminal t inside low put places edges =
      let row = get_or before.starts n [] in
      GainEach-starts (set row t true) (λ x. Terminal t ≡ x) inside put places edges (λ u. elim (cases_eq u t) [
        | inl here ↦ rw here (
          (λ e. inr refl),
          (λ a. get_or-set_same row t true false low),
        )
        | inr other ↦ rw (get_or-set_other row t u true false other) (
          (λ e. inl e),
          (λ a. elim a [
            | inl old ↦ old
            | inr same ↦
                let e : t ≡ u = cc in
                absurd (other (sym e))
          ]),
        )
      ])
      (λ a same. cc)

  pub GainEach-terminals : (bits : List Bool) → n < length before.starts →
      length (get_or before.starts n []) ≡ length bits →
      after.starts ≡ set before.starts n (pointwise ◌||◌ (get_or before.starts n []) bits) →
      after.places ≡ before.places → after.edges ≡ before.edges →
      GainEach (At n (IsTerminalOf bits)) before after
  GainEach-terminals bits inside same put places edges =
      let row = get_or before.starts n [] in
      GainEach-starts (pointwise ◌||◌ row bits) (IsTerminalOf bits) inside put places edges
      (λ t. or_true row bits _ t (AreCombined-pointwise ◌||◌ row bits same refl))
      (λ a none. none)

  edge_each : (a : ℕ) → after.starts ≡ before.starts →
      after.edges ≡ before.edges ++ ((n, a) ∷ []) → (k : ℕ) (x : Symbol) →
      HasAt after k x ↔ (HasAt before k x ⊎ At n (λ y. Nonterminal a ≡ y) k x)
  edge_each a starts push k (Terminal t) = rw starts (
    (λ e. inl e),
    (λ h. elim h [ inl old ↦ old | inr new ↦ absurd (let same = new.1 in cc) ]),
  )
  edge_each a starts push k (Nonterminal b) = rw push (
    (λ there. elim (Contains-push_cases before.edges (n, a) (k, b) there) [
      | inl old ↦ inl old
      | inr same ↦ inr (ap (λ edge. edge.0) same, ap (λ edge. Nonterminal edge.1) same)
    ]),
    (λ h. elim h [
      | inl old ↦ Contains-append_left before.edges ((n, a) ∷ []) (k, b) old
      | inr new ↦
          let named = new.1 in
          let from : a ≡ b = cc in
          rw (sym new.0, sym from) (Contains-push before.edges (n, a))
    ]),
  )

  pub GainEach-edge : (a : ℕ) → after.starts ≡ before.starts → after.places ≡ before.places →
      after.edges ≡ before.edges ++ ((n, a) ∷ []) →
      GainEach (At n (λ x. Nonterminal a ≡ x)) before after
  GainEach-edge a starts places push = record {
    count = ap length starts;
    places = places;
    each = edge_each a starts push;
  }

-- ---- gains one after another

-- what is left, what is gained of it, and what is left then
module _ {A B C P Rest Q Next : Type 0} (h : (B ⊎ Rest) ↔ (A ⊎ P)) (g : C ↔ (B ⊎ Q))
    (r : Rest ↔ (Q ⊎ Next)) where
  rest_step : (C ⊎ Next) ↔ (A ⊎ P)
  rest_step = (
    (λ c. elim c [
      | inl now ↦ elim (g.0 now) [
        | inl old ↦ h.0 (inl old)
        | inr new ↦ h.0 (inr (r.1 (inl new)))
      ]
      | inr next ↦ h.0 (inr (r.1 (inr next)))
    ]),
    (λ a. elim (h.1 a) [
      | inl old ↦ inl (g.1 (inl old))
      | inr rest ↦ elim (r.0 rest) [
        | inl new ↦ inl (g.1 (inr new))
        | inr next ↦ inr next
      ]
    ]),
  )

-- nothing is left
rest_end : {A B P Rest : Type 0} → ((B ⊎ Rest) ↔ (A ⊎ P)) → ¬ Rest → B ↔ (A ⊎ P)
rest_end h none = (
  (λ b. h.0 (inl b)),
  (λ a. elim (h.1 a) [ inl b ↦ b | inr rest ↦ absurd (none rest) ]),
)

pub GainEachRest-start : (P : ℕ → Symbol → Type 0) (system : System) →
    GainEachRest P P system system
GainEachRest-start P system = record {
  count = refl;
  places = refl;
  each = λ n x. ((λ h. h), (λ h. h));
}

module _ {P Rest : ℕ → Symbol → Type 0} {before mid : System} (h : GainEachRest P Rest before mid) where
  pub GainEachRest-step : {Q : ℕ → Symbol → Type 0} (Next : ℕ → Symbol → Type 0) {after : System} →
      GainEach Q mid after → ((n : ℕ) (x : Symbol) → Rest n x ↔ (Q n x ⊎ Next n x)) →
      GainEachRest P Next before after
  GainEachRest-step Next g r = record {
    count = g.count ∙ h.count;
    places = g.places ∙ h.places;
    each = λ n x. rest_step (h.each n x) (g.each n x) (r n x);
  }

  -- nothing is left
  pub GainEachRest-end : ((n : ℕ) (x : Symbol) → ¬ Rest n x) → GainEach P before mid
  GainEachRest-end none = record {
    count = h.count;
    places = h.places;
    each = λ n x. rest_end (h.each n x) (none n x);
  }

-- what was gained before, and then more
pub GainEach-both : {P Q : ℕ → Symbol → Type 0} (Next : ℕ → Symbol → Type 0)
    {before mid after : System} → GainEach Q mid after → GainEach P before mid →
    ((n : ℕ) (x : Symbol) → Next n x ↔ (Q n x ⊎ P n x)) → GainEach Next before after
GainEach-both Next g h r = record {
  count = g.count ∙ h.count;
  places = g.places ∙ h.places;
  each = λ n x. (
    (λ a. elim ((g.each n x).0 a) [
      | inl b ↦ elim ((h.each n x).0 b) [
        | inl c ↦ inl c
        | inr p ↦ inr ((r n x).1 (inr p))
      ]
      | inr q ↦ inr ((r n x).1 (inl q))
    ]),
    (λ a. elim a [
      | inl c ↦ (g.each n x).1 (inl ((h.each n x).1 (inl c)))
      | inr next ↦ elim ((r n x).0 next) [
        | inl q ↦ (g.each n x).1 (inr q)
        | inr p ↦ (g.each n x).1 (inl ((h.each n x).1 (inr p)))
      ]
    ]),
  );
}

-- in other words
pub GainEach-as : {P : ℕ → Symbol → Type 0} (Q : ℕ → Symbol → Type 0) {before after : System} →
    GainEach P before after → ((n : ℕ) (x : Symbol) → P n x ↔ Q n x) → GainEach Q before after
GainEach-as Q g same = record {
  count = g.count;
  places = g.places;
  each = λ n x. (
    (λ there. elim ((g.each n x).0 there) [ inl old ↦ inl old | inr new ↦ inr ((same n x).0 new) ]),
    (λ a. (g.each n x).1 (elim a [ inl old ↦ inl old | inr new ↦ inr ((same n x).1 new) ])),
  );
}

pub GainEach-none : (P : ℕ → Symbol → Type 0) (system : System) →
    ((n : ℕ) (x : Symbol) → ¬ P n x) → GainEach P system system
GainEach-none P system none = record {
  count = refl;
  places = refl;
  each = λ n x. (
    (λ a. inl a),
    (λ a. elim a [ inl old ↦ old | inr new ↦ absurd (none n x new) ]),
  );
}

-- ---- equations that had nothing

none_in : (count places n t : ℕ) →
    item (get_or (replicate count (replicate places false)) n []) t ≡ true → ⊥
none_in count places n t there = elim (cases_lt n count) [
  | inl inside ↦
      let row = get_or-replicate count n (replicate places false) [] inside in
      let bit : item (replicate places false) t ≡ true =
      subst (λ (bits : List Bool). item bits t ≡ true) row there in
      elim (cases_lt t places) [
        | inl low ↦ false≢true (sym (get_or-replicate places t false false low) ∙ bit)
        | inr past ↦
            false≢true (sym (get_or_past (replicate places false) t false
            (omega (arith, past, length-replicate places false))) ∙ bit)
      ]
  | inr past ↦
      let row = get_or_past (replicate count (replicate places false)) n []
      (omega (arith, past, length-replicate count (replicate places false))) in
      let bit : item [] t ≡ true = subst (λ (bits : List Bool). item bits t ≡ true) row there in
      false≢true bit
]

nothing_at : (before : System) (total places : ℕ) →
    before.starts ≡ replicate total (replicate places false) → before.edges ≡ [] → (n : ℕ)
    (x : Symbol) → ¬ HasAt before n x
nothing_at before total places starts edges n (Terminal t) h = none_in total places n t (rw starts at h)
nothing_at before total places starts edges n (Nonterminal a) h =
    let there = rw edges at h in
    omega (arith, there.1)

-- they have what they gained
pub AreEquations-gained : {P : ℕ → Symbol → Type 0} (total places : ℕ) {before after : System} →
    before.starts ≡ replicate total (replicate places false) → before.places ≡ places →
    before.edges ≡ [] → GainEach P before after → AreEquations total places P after
AreEquations-gained total places {before} starts width edges g = record {
  count = g.count ∙ ap length starts ∙ length-replicate total (replicate places false);
  width = g.places ∙ width;
  each = λ n x. (
    (λ a. elim ((g.each n x).0 a) [
      | inl old ↦ absurd (nothing_at before total places starts edges n x old)
      | inr new ↦ new
    ]),
    (λ new. (g.each n x).1 (inr new)),
  );
}
