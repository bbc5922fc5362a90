-- Sets on the way to the least ones, turn after turn.
use Rattle.std.proofs.Common.{◌≡◌, ◌≢◌, ℕ, ◌<◌, ◌⊎◌, Bool, true, false, inl, inr}
use Rattle.std.proofs.Common.{List, [], length, get_or, Some, slice_get, refl, sym, ap, ◌∙◌, subst, arith}
use Rattle.std.specs.List.{Contains}
use Rattle.std.proofs.lemmas.Bool.{cases_eq, cases_Bool, false≢true}
use Rattle.std.proofs.lemmas.List.{get_or_default}
use Rattle.std.proofs.lemmas.Option.{same_Some}
use Rattle.vob_block.specs.Packing.{item}
use Rattle.vob_flow.specs.Draws.{IsIn, IsDrawn, IsTurn, Comes, HaveShape, AreLeast}
use Rattle.vob_flow.specs.Draws.Comes.{starts_in, drawn}
use Rattle.vob_flow.specs.Turns.{IsOrder}
use Rattle.vob_flow.specs.Gains.{HasGained}
use Rattle.vob_flow.specs.Passes.{HasAllOf, AreUnderway}
use Rattle.vob_flow.proofs.AnyLemmas.{Any-contained, edge_inside}

-- an element is one element
pub same_at : {X : Type 0} (xs : List X) (n k : ℕ) (a b : X) → n ≡ k → slice_get xs n ≡ Some a →
    slice_get xs k ≡ Some b → a ≡ b
same_at xs n k a b e p q = same_Some a b (sym p ∙ ap (slice_get xs) e ∙ q)

-- ---- shapes

pub HaveShape-refl : (sets : List (List Bool)) → HaveShape sets sets
HaveShape-refl sets = record { count = refl; long = λ n. refl }

pub HaveShape-trans : {sets mid after : List (List Bool)} → HaveShape sets mid →
    HaveShape mid after → HaveShape sets after
HaveShape-trans a b = record { count = b.count ∙ a.count; long = λ n. b.long n ∙ a.long n }

-- ---- an order

module _ {count : ℕ} {order : List ℕ} (one : IsOrder count order) (k : ℕ) (inside : k < count) where
  -- a set's place is in the order
  pub place_inside : one.place k < length order
  place_inside =
      let found = one.whole k inside in
      let is : get_or order found.0 0 ≡ k = get_or_default order found.0 0 k found.1 ∙ found.2 in
      omega (arith, found.1, one.places found.0 found.1, ap one.place is)

  -- and the set is there
  pub at_place : get_or order (one.place k) 0 ≡ k
  at_place =
      let found = one.whole k inside in
      let is : get_or order found.0 0 ≡ k = get_or_default order found.0 0 k found.1 ∙ found.2 in
      let there : one.place k ≡ found.0 = ap one.place (sym is) ∙ one.places found.0 found.1 in
      ap (λ j. get_or order j 0) there ∙ is

  -- another set has another place
  pub place_other : (i n : ℕ) → get_or order i 0 ≡ n → k ≢ n → one.place k ≢ i
  place_other i n is other there = other (sym at_place ∙ ap (λ j. get_or order j 0) there ∙ is)

-- ---- a look

module _ {place : ℕ → ℕ} {next : List (List ℕ)} {mask : ℕ → ℕ → Bool}
    {starts sets after : List (List Bool)} {pending : List Bool} {n : ℕ} {grew : Bool}
    (h : AreUnderway place next mask starts sets pending)
    (d : HasGained sets n (IsDrawn next mask sets n) after grew) where
  -- v in set k, which isn't set n
  other_in : (k v : ℕ) → k ≢ n → IsIn after k v → IsIn sets k v
  other_in k v other e = sym (ap (λ row. item row v) (d.others k other)) ∙ e

  kept_in : (k v : ℕ) → IsIn sets k v → IsIn after k v
  kept_in k v e = elim (cases_eq k n) [
    | inl same ↦ subst (λ j. IsIn after j v) (sym same)
        ((d.here v).1 (inl (subst (λ j. IsIn sets j v) same e)))
    | inr other ↦ ap (λ row. item row v) (d.others k other) ∙ e
  ]

  comes_here : (v : ℕ) → IsIn after n v → Comes next mask starts n v
  comes_here v e = elim ((d.here v).0 e) [
    | inl old ↦ h.comes n v old
    | inr new ↦
        let of = new.1 in
        drawn new.0 (of.0, of.2, of.3) (h.comes of.1 v of.4)
  ]

  comes_after : (k v : ℕ) → IsIn after k v → Comes next mask starts k v
  comes_after k v e = elim (cases_eq k n) [
    | inl same ↦ subst (λ j. Comes next mask starts j v) (sym same)
        (comes_here v (subst (λ j. IsIn after j v) same e))
    | inr other ↦ h.comes k v (other_in k v other e)
  ]

  -- the set that was looked at has all that it draws
  done_here : (m : ℕ) → Contains (get_or next n []) m → HasAllOf after n (mask n) m
  done_here m within v through = elim (cases_eq m n) [
    | inl own ↦ subst (λ j. IsIn after j v) own through.1
    | inr other ↦ (d.here v).1 (inr (
      through.0,
      Any-contained (λ j. IsIn sets j v) (get_or next n []) m
          within (other_in m v other through.1),
    ))
  ]

  -- another one waits still, and where that set grew, each that draws from it
  module _ (pending' : List Bool) {i : ℕ} (apart : (k : ℕ) → k < length next → k ≢ n → place k ≢ i)
      (kept : (p : ℕ) → p ≢ i → item pending p ≡ true → item pending' p ≡ true)
      (users : grew ≡ true → (k : ℕ) → Contains (get_or next k []) n → item pending' (place k) ≡ true) where
    waits_other : (k m : ℕ) → Contains (get_or next k []) m → k ≢ n →
        HasAllOf sets k (mask k) m ⊎ (item pending (place k) ≡ true) →
        HasAllOf after k (mask k) m ⊎ (item pending' (place k) ≡ true)
    waits_other k m within other (inr on) =
        inr (kept (place k) (apart k (edge_inside next k m within) other) on)
    waits_other k m within other (inl done) = elim (cases_eq m n) [
      | inl same ↦ elim (cases_Bool grew) [
        | inl up ↦ inr (users up k (subst (λ j. Contains (get_or next k []) j) same within))
        | inr quiet ↦ inl (subst (λ (xs : List (List Bool)). HasAllOf xs k (mask k) m)
            (sym (d.same quiet)) done)
      ]
      | inr apart_m ↦ inl (λ v through.
          kept_in k v (done v (through.0, other_in m v apart_m through.1)))
    ]

    waits_after : (k m : ℕ) → Contains (get_or next k []) m →
        HasAllOf after k (mask k) m ⊎ (item pending' (place k) ≡ true)
    waits_after k m within = elim (cases_eq k n) [
      | inl same ↦
          let done = done_here m (subst (λ j. Contains (get_or next j []) m) same within) in
          inl (subst (λ j. HasAllOf after j (mask j) m) (sym same) done)
      | inr other ↦ waits_other k m within other (h.waits k m within)
    ]

    pub AreUnderway-look : AreUnderway place next mask starts after pending'
    AreUnderway-look = record {
      shape = HaveShape-trans h.shape d.shape;
      kept = λ m v e. kept_in m v (h.kept m v e);
      comes = comes_after;
      waits = waits_after;
    }

-- a look is a turn
pub IsTurn-look : {next : List (List ℕ)} {mask : ℕ → ℕ → Bool} {sets after : List (List Bool)} {n : ℕ}
    {grew : Bool} → HasGained sets n (IsDrawn next mask sets n) after grew → IsTurn next mask n sets after
IsTurn-look d = record { shape = d.shape; here = d.here; others = d.others }

-- and so is none at a set that doesn't wait
pub IsTurn-skipped : {place : ℕ → ℕ} {next : List (List ℕ)} {mask : ℕ → ℕ → Bool}
    {starts sets : List (List Bool)} {pending : List Bool} (n : ℕ) →
    AreUnderway place next mask starts sets pending → item pending (place n) ≡ false →
    IsTurn next mask n sets sets
IsTurn-skipped {sets = sets} n h off = record {
  shape = HaveShape-refl sets;
  here = λ v. (
    (λ e. inl e),
    (λ either. elim either [
      | inl old ↦ old
      | inr new ↦
          let of = new.1 in
          elim (h.waits n of.1 (of.0, of.2, of.3)) [
            | inl done ↦ done v (new.0, of.4)
            | inr on ↦ absurd (false≢true (sym off ∙ on))
          ]
    ]),
  );
  others = λ k other. refl;
}

-- ---- a pass

-- at first all wait
pub AreUnderway-start : (place : ℕ → ℕ) (next : List (List ℕ)) (mask : ℕ → ℕ → Bool)
    (starts : List (List Bool)) (pending : List Bool) →
    ((k : ℕ) → k < length next → item pending (place k) ≡ true) →
    AreUnderway place next mask starts starts pending
AreUnderway-start place next mask starts pending all = record {
  shape = HaveShape-refl starts;
  kept = λ n v e. e;
  comes = λ n v e. starts_in e;
  waits = λ k m within. inr (all k (edge_inside next k m within));
}

-- none waits: all are done
pub AreUnderway-done : {place : ℕ → ℕ} {next : List (List ℕ)} {mask : ℕ → ℕ → Bool}
    {starts sets : List (List Bool)} {pending : List Bool} →
    AreUnderway place next mask starts sets pending →
    ((k : ℕ) → k < length next → item pending (place k) ≡ false) →
    (k m : ℕ) → Contains (get_or next k []) m → HasAllOf sets k (mask k) m
AreUnderway-done {next = next} h none k m within = elim (h.waits k m within) [
  | inl done ↦ done
  | inr on ↦ absurd (false≢true (sym (none k (edge_inside next k m within)) ∙ on))
]

module _ {place : ℕ → ℕ} {next : List (List ℕ)} {mask : ℕ → ℕ → Bool} {starts sets : List (List Bool)}
    {pending : List Bool} (h : AreUnderway place next mask starts sets pending)
    (done : (k m : ℕ) → Contains (get_or next k []) m → HasAllOf sets k (mask k) m) where
  all_in : {n v : ℕ} → Comes next mask starts n v → IsIn sets n v
  all_in (starts_in e) = h.kept _ _ e
  all_in (drawn keeps within c) = done _ _ within _ (keeps, all_in c)

  drawn_in : (n v : ℕ) → Comes next mask starts n v → IsIn starts n v ⊎ IsDrawn next mask sets n v
  drawn_in n v (starts_in e) = inl e
  drawn_in n v (drawn keeps (k, less, e) c) = inr (keeps, (k, _, less, e, all_in c))

  pub AreLeast-done : AreLeast next mask starts sets
  AreLeast-done = record {
    solution = record {
      shape = h.shape;
      meets = λ n v. (
        (λ e. drawn_in n v (h.comes n v e)),
        (λ either. elim either [
          | inl start ↦ h.kept n v start
          | inr new ↦
              let of = new.1 in
              done n of.1 (of.0, of.2, of.3) v (new.0, of.4)
        ]),
      );
    };
    least = h.comes;
  }

-- no sets draw nothing
pub AreLeast-none : (next : List (List ℕ)) (mask : ℕ → ℕ → Bool) → length next ≡ 0 →
    AreLeast next mask [] []
AreLeast-none next mask none = record {
  solution = record {
    shape = HaveShape-refl [];
    meets = λ n v. (
      (λ e. inl e),
      (λ either. elim either [
        | inl e ↦ e
        | inr new ↦ absurd (omega (arith, none, edge_inside next n new.1.1 (new.1.0, new.1.2, new.1.3)))
      ]),
    );
  };
  least = λ n v e. starts_in e;
}
