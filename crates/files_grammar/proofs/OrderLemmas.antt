-- Lists of all things with a property, in an order.
use Rattle.std.proofs.Common.{◌≡◌, ◌↔◌, ◌⊎◌, ℕ, zero, suc, ◌+◌, ◌<◌, inl, inr, List, [], ◌∷◌, ◌++◌, get_or, sym, ap, ◌∙◌, refl, subst, arith}
use Rattle.std.specs.List.{AllPairs, Contains}
use Rattle.std.proofs.lemmas.Bool.{cases_eq}
use Rattle.std.proofs.lemmas.List.Elements.{Contains-append_left, Contains-get_or, Contains-push, Contains-push_cases}
use Rattle.std.proofs.lemmas.List.Quantifiers.{all_pairs_push}
use Rattle.vob_lr.specs.Those.{AreInOrder, AreThose}

module _ {X : Type 0} (Before : X → X → Type 0) where
  pub AreInOrder-nothing : (P : X → Type 0) → ((x : X) → P x → ⊥) → AreInOrder Before P []
  AreInOrder-nothing P none = record {
    each = λ x. ((λ (k, less, is). absurd (omega (arith, less))), (λ there. absurd (none x there)));
    rise = λ i j d less low. absurd (omega (arith, less, low));
  }

  pub AreInOrder-as : (P Q : X → Type 0) → ((x : X) → P x ↔ Q x) → (xs : List X) →
      AreInOrder Before P xs → AreInOrder Before Q xs
  AreInOrder-as P Q same xs h = record {
    each = λ x. (
      (λ there. (same x).0 ((h.each x).0 there)),
      (λ there. (h.each x).1 ((same x).1 there)),
    );
    rise = h.rise;
  }

  -- one more after the others
  pub AreInOrder-more : (P Q : X → Type 0) (xs : List X) (y : X) → AreInOrder Before P xs →
      ((x : X) → P x → Before x y) → ((x : X) → (P x ⊎ (y ≡ x)) ↔ Q x) →
      AreInOrder Before Q (xs ++ y ∷ [])
  AreInOrder-more P Q xs y h below with_one = record {
    each = λ x. (
      (λ there. (with_one x).0 (elim (Contains-push_cases xs y x there) [
        | inl old ↦ inl ((h.each x).0 old)
        | inr new ↦ inr new
      ])),
      (λ there. elim ((with_one x).1 there) [
        | inl old ↦ Contains-append_left xs (y ∷ []) x ((h.each x).1 old)
        | inr new ↦ subst (λ z. Contains (xs ++ y ∷ []) z) new (Contains-push xs y)
      ]),
    );
    rise = all_pairs_push Before xs y h.rise
        (λ k d less. below (get_or xs k d)
        ((h.each (get_or xs k d)).0 (Contains-get_or xs k d less)));
  }

-- ---- the numbers below k of which P holds

abbrev pub Below : (ℕ → Type 0) → ℕ → ℕ → Type 0
Below P k n = (n < k) × P n

module _ (P : ℕ → Type 0) where
  pub below_none : AreThose (Below P 0) []
  below_none = AreInOrder-nothing (λ i j. i < j) (Below P 0) (λ n there. omega (arith, there.0))

  pub below_with : (k : ℕ) (ns : List ℕ) → AreThose (Below P k) ns → P k → AreThose (Below P (k + 1)) (ns ++ k ∷ [])
  below_with k ns h own =
      AreInOrder-more (λ i j. i < j) (Below P k) (Below P (k + 1)) ns k h (λ n there. there.0)
      (λ n. (
        (λ there. elim there [
          | inl old ↦ (omega (arith, old.0), old.1)
          | inr same ↦ (omega (arith, same), subst P same own)
        ]),
        (λ there. elim (cases_eq k n) [
          | inl same ↦ inr same
          | inr other ↦ inl (omega (arith, there.0, other), there.1)
        ]),
      ))

  pub below_without : (k : ℕ) (ns : List ℕ) → AreThose (Below P k) ns → (P k → ⊥) → AreThose (Below P (k + 1)) ns
  below_without k ns h not =
      AreInOrder-as (λ i j. i < j) (Below P k) (Below P (k + 1))
      (λ n. (
        (λ there. (omega (arith, there.0), there.1)),
        (λ there. elim (cases_eq k n) [
          | inl same ↦ absurd (not (subst P (sym same) there.1))
          | inr other ↦ (omega (arith, there.0, other), there.1)
        ]),
      )) ns h

  pub below_all : (k : ℕ) (ns : List ℕ) → ((n : ℕ) → P n → n < k) → AreThose (Below P k) ns → AreThose P ns
  below_all k ns inside h =
      AreInOrder-as (λ i j. i < j) (Below P k) P (λ n. ((λ there. there.1), (λ there. (inside n there, there)))) ns h

-- ---- lists that rise and have the same numbers are equal

none_there : (n : ℕ) → ¬ Contains [] n
none_there n h = omega (arith, h.1)

module _ (x : ℕ) (xs : List ℕ) where
  head_or : (n : ℕ) → Contains (x ∷ xs) n → (x ≡ n) ⊎ Contains xs n
  head_or n (zero, less, is) = inl is
  head_or n (suc k, less, is) = inr (k, omega (arith, less), is)

  at_head : Contains (x ∷ xs) x
  at_head = (0, omega arith, refl)

  behind : (n : ℕ) → Contains xs n → Contains (x ∷ xs) n
  behind n (k, less, is) = (suc k, omega (arith, less), is)

  module _ (rise : AllPairs (λ i j. i < j) (x ∷ xs)) where
    head_least : (n : ℕ) → Contains xs n → x < n
    head_least n (k, less, is) =
        let low : x < get_or xs k n = rise 0 (suc k) n (omega arith) (omega (arith, less)) in
        omega (arith, low, is)

    tail_rises : AllPairs (λ i j. i < j) xs
    tail_rises = λ i j d less low. rise (suc i) (suc j) d (omega (arith, less)) (omega (arith, low))

same_rising : (xs ys : List ℕ) → AllPairs (λ i j. i < j) xs → AllPairs (λ i j. i < j) ys →
    ((n : ℕ) → Contains xs n ↔ Contains ys n) → xs ≡ ys
same_rising [] [] up other same = refl
same_rising [] (y ∷ ys) up other same = absurd (none_there y ((same y).1 (at_head y ys)))
same_rising (x ∷ xs) [] up other same = absurd (none_there x ((same x).0 (at_head x xs)))
same_rising (x ∷ xs) (y ∷ ys) up other same =
    let heads : x ≡ y = elim (head_or y ys x ((same x).0 (at_head x xs))) [
      | inl is ↦ sym is
      | inr past ↦ elim (head_or x xs y ((same y).1 (at_head y ys))) [
        | inl is ↦ is
        | inr over ↦ absurd (omega (arith, head_least y ys other x past, head_least x xs up y over))
      ]
    ] in
    let tails = same_rising xs ys (tail_rises x xs up) (tail_rises y ys other) (λ n. (
      (λ there. elim (head_or y ys n ((same n).0 (behind x xs n there))) [
        | inl is ↦ absurd (omega (arith, head_least x xs up n there, heads, is))
        | inr past ↦ past
      ]),
      (λ there. elim (head_or x xs n ((same n).1 (behind y ys n there))) [
        | inl is ↦ absurd (omega (arith, head_least y ys other n there, heads, is))
        | inr past ↦ past
      ]),
    )) in
    ap (λ (z : ℕ). z ∷ xs) heads ∙ ap (λ (zs : List ℕ). y ∷ zs) tails

pub same_those : (P : ℕ → Type 0) (xs ys : List ℕ) → AreThose P xs → AreThose P ys → xs ≡ ys
same_those P xs ys h g =
    same_rising xs ys h.rise g.rise (λ n. (
      (λ there. (g.each n).1 ((h.each n).0 there)),
      (λ there. (h.each n).1 ((g.each n).0 there)),
    ))
