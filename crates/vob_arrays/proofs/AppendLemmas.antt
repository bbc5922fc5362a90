-- Entries that are appended.
use Rattle.std.proofs.Common.{◌≡◌, ◌↔◌, ◌⊎◌, ℕ, ◌+◌, ◌<◌, List, [], ◌∷◌, ◌++◌, get_or, refl, sym, ap, ◌∙◌, subst, inl, inr, arith}
use Rattle.std.specs.List.{Contains}
use Rattle.std.proofs.lemmas.Bool.{cases_lt}
use Rattle.std.proofs.lemmas.List.{append-nil, append_assoc}
use Rattle.std.proofs.lemmas.List.Elements.{Contains-append_left, Contains-append_right, Contains-append_cases}
use Rattle.vob_arrays.specs.Building.{Appends}
use Rattle.vob_arrays.specs.declared.build.Entry.{Entry}

-- two rows one after the other have what either has
pub appends_both : {P Q R : ℕ → ℕ → Type 0} {xs ys zs : List Entry} → Appends P xs ys → Appends Q ys zs →
    ((x a : ℕ) → R x a ↔ (P x a ⊎ Q x a)) → Appends R xs zs
appends_both {P} {Q} {R} {xs} {ys} {zs} one other all = record {
  row = one.row ++ other.row;
  is = other.is ∙ ap (λ (es : List Entry). es ++ other.row) one.is ∙ append_assoc xs one.row other.row;
  each = λ x a. let e : Entry = record { symbol = x; action = a } in (
    (λ has. (all x a).1 (elim (Contains-append_cases one.row other.row e has) as (λ _. P x a ⊎ Q x a) [
      | inl own ↦ inl ((one.each x a).0 own)
      | inr own ↦ inr ((other.each x a).0 own)
    ])),
    (λ is. elim ((all x a).0 is) as (λ _. Contains (one.row ++ other.row) e) [
      | inl own ↦ Contains-append_left one.row other.row e ((one.each x a).1 own)
      | inr own ↦ Contains-append_right one.row other.row e ((other.each x a).1 own)
    ]),
  );
}

-- nothing is appended
pub appends_none : {P : ℕ → ℕ → Type 0} (xs : List Entry) → ((x a : ℕ) → ¬ P x a) → Appends P xs xs
appends_none xs none = record {
  row = [];
  is = sym (append-nil xs);
  each = λ x a. ((λ (k, less, _). absurd (omega (arith, less))), (λ is. absurd (none x a is)));
}

-- a list of one thing has that
pub one_of : {X : Type 0} (e d : X) → Contains (e ∷ []) d ↔ (d ≡ e)
one_of e d = (
  (λ (k, less, is). let zero : k ≡ 0 = omega (arith, less) in
      sym is ∙ ap (λ (n : ℕ). get_or (e ∷ []) n d) zero),
  (λ same. (0, omega arith, sym same)),
)

-- one entry is
pub appends_one : {P : ℕ → ℕ → Type 0} (xs : List Entry) (s b : ℕ) →
    ((x a : ℕ) → P x a ↔ ((x ≡ s) × (a ≡ b))) →
    Appends P xs (xs ++ (record { symbol = s; action = b }) ∷ [])
appends_one xs s b all = record {
  row = (record { symbol = s; action = b }) ∷ [];
  is = refl;
  each = λ x a. let own : Entry = record { symbol = s; action = b } in
      let other : Entry = record { symbol = x; action = a } in (
        (λ has. let same = (one_of own other).0 has in
            (all x a).1 (ap (λ (e : Entry). e.symbol) same, ap (λ (e : Entry). e.action) same)),
        (λ is. let parts = (all x a).0 is in let same : other ≡ own = cc in (one_of own other).1 same),
      );
}

-- the same of the same facts
pub appends_same : {P Q : ℕ → ℕ → Type 0} {xs ys : List Entry} → Appends P xs ys →
    ((x a : ℕ) → Q x a ↔ P x a) → Appends Q xs ys
appends_same one all = record {
  row = one.row;
  is = one.is;
  each = λ x a. ((λ has. (all x a).1 ((one.each x a).0 has)), (λ is. (one.each x a).1 ((all x a).0 is)));
}

-- what is below the next number is below this one, or is this one
pub below_next : (A : ℕ → ℕ → Type 0) (t x a : ℕ) →
    ((x < t + 1) × A x a) ↔ (((x < t) × A x a) ⊎ ((x ≡ t) × A t a))
below_next A t x a = (
  (λ (low, is). elim (cases_lt x t) as (λ _. ((x < t) × A x a) ⊎ ((x ≡ t) × A t a)) [
    | inl less ↦ inl (less, is)
    | inr not_less ↦
        let same : x ≡ t = omega (arith, low, not_less) in
        inr (same, subst (λ (n : ℕ). A n a) same is)
  ]),
  (λ either. elim either as (λ _. (x < t + 1) × A x a) [
    | inl (less, is) ↦ (omega (arith, less), is)
    | inr (same, is) ↦ (omega (arith, same), subst (λ (n : ℕ). A n a) (sym same) is)
  ]),
)
