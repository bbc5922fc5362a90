-- What lists hold that are put together of others, and in which order.
use Rattle.std.specs.Prelude.{◌↔◌, AllPairs, All, Contains}
use Rattle.std.proofs.Common.{◌≡◌, zero, suc, ◌⊎◌, inl, inr, List, [], ◌∷◌, ◌++◌, get_or, map, refl, sym, ap, ◌∙◌, subst, arith}
use Rattle.std.proofs.lemmas.List.Elements.{Contains-append_cases, Contains-get_or}
use Rattle.std.proofs.lemmas.List.Kept.{AllPairs-cons}

module _ {X : Type 0} where
  pub nothing : (y : X) → Contains [] y → ⊥
  nothing y (k, less, same) = omega (arith, less)

  pub first_or_later : (x : X) (xs : List X) (y : X) → Contains (x ∷ xs) y → (x ≡ y) ⊎ Contains xs y
  first_or_later x xs y (zero, less, same) = inl same
  first_or_later x xs y (suc k, less, same) = inr (k, omega (arith, less), same)

  pub first : (x : X) (xs : List X) → Contains (x ∷ xs) x
  first x xs = (0, omega arith, refl)

  pub later : (x : X) (xs : List X) (y : X) → Contains xs y → Contains (x ∷ xs) y
  later x xs y (k, less, same) = (suc k, omega (arith, less), same)

  all_from : (P : X → Type 0) (xs : List X) → ((y : X) → Contains xs y → P y) → All P xs
  all_from P xs each k d less = each (get_or xs k d) (Contains-get_or xs k d less)

  module _ (R : X → X → Type 0) where
    head_first : (x : X) (xs : List X) (y : X) → AllPairs R (x ∷ xs) → Contains xs y → R x y
    head_first x xs y pairs (k, less, same) =
        let at : R x (get_or xs k y) = pairs 0 (suc k) y (omega arith) (omega (arith, less)) in
        rw same at at

    tail_pairs : (x : X) (xs : List X) → AllPairs R (x ∷ xs) → AllPairs R xs
    tail_pairs x xs pairs i j d less inside =
        pairs (suc i) (suc j) d (omega (arith, less)) (omega (arith, inside))

    -- two lists in order, the first one before the second
    pub AllPairs-append : (xs ys : List X) → AllPairs R xs → AllPairs R ys →
        ((x y : X) → Contains xs x → Contains ys y → R x y) → AllPairs R (xs ++ ys)
    AllPairs-append [] ys own others cross = others
    AllPairs-append (x ∷ xs) ys own others cross =
        AllPairs-cons R x (xs ++ ys) (all_from (R x) (xs ++ ys)
        (λ y there. elim (Contains-append_cases xs ys y there) [
          | inl before ↦ head_first x xs y own before
          | inr after ↦ cross x y (first x xs) after
        ])) (AllPairs-append xs ys (tail_pairs x xs own) others
        (λ z y there after. cross z y (later x xs z there) after))

    pub AllPairs-none : AllPairs R []
    AllPairs-none i j d less inside = absurd (omega (arith, inside))

    -- an order in which no two items come before each other
    module _ (one_way : (x y : X) → R x y → ¬ R y x) where
      same_first : (x y : X) (xs ys : List X) → AllPairs R (x ∷ xs) → AllPairs R (y ∷ ys) →
          Contains (y ∷ ys) x → Contains (x ∷ xs) y → x ≡ y
      same_first x y xs ys own others there back = elim (first_or_later y ys x there) [
        | inl same ↦ sym same
        | inr after ↦ elim (first_or_later x xs y back) [
          | inl same ↦ same
          | inr behind ↦
              absurd (one_way x y (head_first x xs y own behind) (head_first y ys x others after))
        ]
      ]

      same_later : (x y : X) (xs ys : List X) → x ≡ y → AllPairs R (x ∷ xs) →
          ((z : X) → Contains (x ∷ xs) z → Contains (y ∷ ys) z) → (z : X) → Contains xs z → Contains ys z
      same_later x y xs ys firsts own into z there = elim (first_or_later y ys z (into z (later x xs z there))) [
        | inl same ↦
            let twice : R x x = subst (R x) (sym (firsts ∙ same)) (head_first x xs z own there) in
            absurd (one_way x x twice twice)
        | inr after ↦ after
      ]

      -- two lists in order that have the same items are equal
      pub sorted_one : (xs ys : List X) → AllPairs R xs → AllPairs R ys →
          ((x : X) → Contains xs x ↔ Contains ys x) → xs ≡ ys
      sorted_one [] [] own others each = refl
      sorted_one [] (y ∷ ys) own others each = absurd (nothing y ((each y).1 (first y ys)))
      sorted_one (x ∷ xs) [] own others each = absurd (nothing x ((each x).0 (first x xs)))
      sorted_one (x ∷ xs) (y ∷ ys) own others each =
          let firsts = same_first x y xs ys own others ((each x).0 (first x xs)) ((each y).1 (first y ys)) in
          let rest = sorted_one xs ys (tail_pairs x xs own) (tail_pairs y ys others) (λ z. (
            same_later x y xs ys firsts own (λ w. (each w).0) z,
            same_later y x ys xs (sym firsts) others (λ w. (each w).1) z,
          )) in
          ap (λ h. h ∷ xs) firsts ∙ ap (λ l. y ∷ l) rest

module _ {X Y : Type 0} (f : X → Y) where
  pub Contains-map : (xs : List X) (y : Y) → Contains (map f xs) y → (x : X) × Contains xs x × (f x ≡ y)
  Contains-map [] y there = absurd (nothing y there)
  Contains-map (x ∷ xs) y there = elim (first_or_later (f x) (map f xs) y there) [
    | inl same ↦ (x, first x xs, same)
    | inr after ↦
        let found = Contains-map xs y after in (found.0, later x xs found.0 found.1, found.2)
  ]

  pub map-Contains : (xs : List X) (x : X) → Contains xs x → Contains (map f xs) (f x)
  map-Contains [] x there = absurd (nothing x there)
  map-Contains (z ∷ xs) x there = elim (first_or_later z xs x there) [
    | inl same ↦ (0, omega arith, ap f same)
    | inr after ↦ later (f z) (map f xs) (f x) (map-Contains xs x after)
  ]

  pub AllPairs-map : (R : X → X → Type 0) (S : Y → Y → Type 0) →
      ((x y : X) → R x y → S (f x) (f y)) → (xs : List X) → AllPairs R xs → AllPairs S (map f xs)
  AllPairs-map R S same [] pairs = AllPairs-none S
  AllPairs-map R S same (x ∷ xs) pairs =
      AllPairs-cons S (f x) (map f xs) (all_from (S (f x)) (map f xs)
      (λ y there. let found = Contains-map xs y there in
      let before : S (f x) (f found.0) = same x found.0 (head_first R x xs found.0 pairs found.1) in
      rw found.2 at before)) (AllPairs-map R S same xs (tail_pairs R x xs pairs))

module _ {X : Type 0} (P : X → Type 0) (rest after : List X) (x : X) (same : rest ≡ x ∷ after)
    (all : All P rest) where
  pub all_first : P x
  all_first = let there = rw same at all in there 0 x (omega arith)

  pub all_later : All P after
  all_later k d less = let there = rw same at all in there (suc k) d (omega (arith, less))
