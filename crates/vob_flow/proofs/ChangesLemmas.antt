-- Sets that are changed one after another.
use Rattle.std.proofs.Common.{◌≡◌, ◌↔◌, ◌⊎◌, ℕ, ◌+◌, ◌<◌, Bool, true, inl, inr, List, [], length, get_or, set, refl, sym, ap, ◌∙◌, arith}
use Rattle.std.proofs.lemmas.Bool.{cases_eq}
use Rattle.std.proofs.lemmas.List.{length-set, get_or-set_same, get_or-set_other}
use Rattle.vob_block.specs.Packing.{item}
use Rattle.vob_flow.specs.Changes.{Becomes, EachBecomes, EachGets, Gets}
use Rattle.vob_flow.specs.Draws.{HaveShape, IsIn}
use Rattle.vob_flow.proofs.UnderwayLemmas.{HaveShape-refl, HaveShape-trans}

-- one set changed to a list as long
HaveShape-set : (sets : List (List Bool)) (n : ℕ) (row : List Bool) → n < length sets
    → length row ≡ length (get_or sets n []) → HaveShape sets (set sets n row)
HaveShape-set sets n row inside len = record {
  count = length-set sets n row;
  long = λ k. elim (cases_eq k n) [
    | inl here ↦ ap (λ j. length (get_or (set sets n row) j [])) here
        ∙ ap length (get_or-set_same sets n row [] inside) ∙ len
        ∙ ap (λ j. length (get_or sets j [])) (sym here)
    | inr other ↦ ap length (get_or-set_other sets n k row [] other)
  ];
}

-- ---- places that sets get

pub Gets-none : (sets : List (List Bool)) (n : ℕ) (P : ℕ → Type 0) → ((v : ℕ) → ¬ P v)
    → Gets sets n P sets
Gets-none sets n P none = record {
  shape = HaveShape-refl sets;
  here = λ v. (
    (λ e. inl e),
    (λ either. elim either [ inl old ↦ old | inr new ↦ absurd (none v new) ]),
  );
  others = λ k other. refl;
}

pub Gets-row : {sets after : List (List Bool)} (n : ℕ) (P : ℕ → Type 0) (row : List Bool) → n < length sets
    → after ≡ set sets n row → length row ≡ length (get_or sets n [])
    → ((v : ℕ) → (item row v ≡ true) ↔ (IsIn sets n v ⊎ P v)) → Gets sets n P after
Gets-row {sets} {after} n P row inside put len bits = rw put record {
  shape = HaveShape-set sets n row inside len;
  here = λ v. rw (get_or-set_same sets n row [] inside) (bits v);
  others = λ k other. get_or-set_other sets n k row [] other;
}

-- in other words
pub Gets-as : {sets after : List (List Bool)} {n : ℕ} {P : ℕ → Type 0} (Q : ℕ → Type 0)
    → Gets sets n P after → ((v : ℕ) → P v ↔ Q v) → Gets sets n Q after
Gets-as Q h same = record {
  shape = h.shape;
  here = λ v. (
    (λ e. elim ((h.here v).0 e) [ inl old ↦ inl old | inr new ↦ inr ((same v).0 new) ]),
    (λ either. (h.here v).1 (elim either [ inl old ↦ inl old | inr new ↦ inr ((same v).1 new) ])),
  );
  others = h.others;
}

-- first some places, and then others
pub Gets-more : {sets mid after : List (List Bool)} {n : ℕ} {P Q : ℕ → Type 0} (R : ℕ → Type 0)
    → Gets sets n P mid → Gets mid n Q after → ((v : ℕ) → R v ↔ (P v ⊎ Q v)) → Gets sets n R after
Gets-more R g h both = record {
  shape = HaveShape-trans g.shape h.shape;
  here = λ v. (
    (λ e. elim ((h.here v).0 e) [
      | inl before ↦ elim ((g.here v).0 before) [
        | inl start ↦ inl start
        | inr p ↦ inr ((both v).1 (inl p))
      ]
      | inr q ↦ inr ((both v).1 (inr q))
    ]),
    (λ either. elim either [
      | inl start ↦ (h.here v).1 (inl ((g.here v).1 (inl start)))
      | inr r ↦ elim ((both v).0 r) [
        | inl p ↦ (h.here v).1 (inl ((g.here v).1 (inr p)))
        | inr q ↦ (h.here v).1 (inr q)
      ]
    ]),
  );
  others = λ k other. h.others k other ∙ g.others k other;
}

pub EachGets-none : (sets : List (List Bool)) (P : ℕ → ℕ → Type 0) → EachGets sets P sets 0
EachGets-none sets P = record {
  shape = HaveShape-refl sets;
  below = λ n v less. absurd (omega (arith, less));
  above = λ n past. refl;
}

-- one set more
pub EachGets-next : {sets mid after : List (List Bool)} (P : ℕ → ℕ → Type 0) {k : ℕ}
    → EachGets sets P mid k → Gets mid k (P k) after → EachGets sets P after (k + 1)
EachGets-next {sets} {mid} {after} P {k} h g = record {
  shape = HaveShape-trans h.shape g.shape;
  below = λ n v less. elim (cases_eq n k) [
    | inl here ↦ rw here (rw (h.above k (omega arith)) at g.here v)
    | inr other ↦ rw (g.others n other) (h.below n v (omega (arith, less, other)))
  ];
  above = λ n past. g.others n (λ e. omega (arith, past, e)) ∙ h.above n (omega (arith, past));
}

-- all of them, of which none had any
pub EachGets-all : {sets after : List (List Bool)} (P : ℕ → ℕ → Type 0) {k : ℕ}
    → EachGets sets P after k → length sets ≡ k → ((n v : ℕ) → ¬ IsIn sets n v)
    → ((n v : ℕ) → P n v → n < k) → ((n v : ℕ) → IsIn after n v → n < k)
    → (n v : ℕ) → IsIn after n v ↔ P n v
EachGets-all P h whole none few low n v = (
  (λ e. elim ((h.below n v (low n v e)).0 e) [ inl old ↦ absurd (none n v old) | inr new ↦ new ]),
  (λ p. (h.below n v (few n v p)).1 (inr p)),
)

-- ---- what sets become

pub Becomes-row : {sets after : List (List Bool)} (n : ℕ) (P : ℕ → Type 0) (row : List Bool)
    → n < length sets → after ≡ set sets n row → length row ≡ length (get_or sets n [])
    → ((v : ℕ) → v < length (get_or sets n []) → (item row v ≡ true) ↔ P v) → Becomes sets n P after
Becomes-row {sets} {after} n P row inside put len bits = rw put record {
  shape = HaveShape-set sets n row inside len;
  here = λ v less. rw (get_or-set_same sets n row [] inside) (bits v less);
  others = λ k other. get_or-set_other sets n k row [] other;
}

-- in other words
pub Becomes-as : {sets after : List (List Bool)} {n : ℕ} {P : ℕ → Type 0} (Q : ℕ → Type 0)
    → Becomes sets n P after → ((v : ℕ) → P v ↔ Q v) → Becomes sets n Q after
Becomes-as Q h same = record {
  shape = h.shape;
  here = λ v less.
      let is = h.here v less in
      let means = same v in
      ((λ e. means.0 (is.0 e)), (λ q. is.1 (means.1 q)));
  others = h.others;
}

-- a set that changes twice
pub Becomes-again : {sets mid after : List (List Bool)} {n : ℕ} {P Q : ℕ → Type 0} (R : ℕ → Type 0)
    → Becomes sets n P mid → Becomes mid n Q after
    → ((v : ℕ) → v < length (get_or sets n []) → (IsIn mid n v ↔ P v) → R v ↔ Q v)
    → Becomes sets n R after
Becomes-again {n = n} R g h same = record {
  shape = HaveShape-trans g.shape h.shape;
  here = λ v less.
      let then = h.here v (omega (arith, less, g.shape.long n)) in
      let means = same v less (g.here v less) in
      ((λ e. means.1 (then.0 e)), (λ r. then.1 (means.0 r)));
  others = λ k other. h.others k other ∙ g.others k other;
}

pub EachBecomes-none : (sets : List (List Bool)) (P : ℕ → ℕ → Type 0) → EachBecomes sets P sets 0
EachBecomes-none sets P = record {
  shape = HaveShape-refl sets;
  below = λ n v less. absurd (omega (arith, less));
  above = λ n past. refl;
}

-- one set more
pub EachBecomes-next : {sets mid after : List (List Bool)} (P : ℕ → ℕ → Type 0) {Q : ℕ → Type 0} {k : ℕ}
    → EachBecomes sets P mid k → Becomes mid k Q after
    → (get_or mid k [] ≡ get_or sets k [] → (v : ℕ) → P k v ↔ Q v) → EachBecomes sets P after (k + 1)
EachBecomes-next {sets} {mid} {after} P {Q} {k} h g same = record {
  shape = HaveShape-trans h.shape g.shape;
  below = λ n v less inside. elim (cases_eq n k) [
    | inl here ↦
        let row = h.above k (omega arith) in
        let then = g.here v (omega (arith, rw here at inside, ap length row)) in
        let means = same row v in
        rw here ((λ e. means.1 (then.0 e)), (λ p. then.1 (means.0 p)))
    | inr other ↦ rw (g.others n other) (h.below n v (omega (arith, less, other)) inside)
  ];
  above = λ n past. g.others n (λ e. omega (arith, past, e)) ∙ h.above n (omega (arith, past));
}
