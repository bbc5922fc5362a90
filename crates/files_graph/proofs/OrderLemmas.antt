-- The nodes of a component in their order, and the components of a graph in theirs.
use Rattle.std.proofs.Common.{◌≡◌, ◌≢◌, ◌⊎◌, ℕ, zero, suc, ◌+◌, ◌<◌, ◌≤◌, List, length, subst, arith, inl, inr}
use Rattle.std.proofs.lemmas.Bool.{cases_eq, cases_lt}
use Rattle.vob_flow.specs.Components.{AreConnected}
use Rattle.vob_flow.specs.Reach.{HasWay}
use Rattle.files_graph.specs.Reduction.{IsFirst, IsLast}
use Rattle.files_graph.proofs.WayLemmas.{cases_both, cases_connected, cases_not, cases_way, connected_back, connected_join, connected_same, connected_self, leads_from, way_cases, way_join}

-- ---- the least and the greatest number of which something holds

module _ (P : ℕ → Type 0) (decide : (k : ℕ) → P k ⊎ (¬ P k)) where
  not_there : (k high : ℕ) → P k → (¬ P high) → k ≢ high
  not_there k high holds none same = none (subst P same holds)

  least_from : (left low m : ℕ) → m ≤ low + left → P m → ((k : ℕ) → P k → low ≤ k) →
      (k : ℕ) × P k × ((j : ℕ) → P j → k ≤ j)
  least_from zero low m most holds above =
      let is : m ≡ low = omega (arith, most, above m holds) in
      (low, subst P is holds, above)
  least_from (suc left) low m most holds above = elim (decide low) [
    | inl here ↦ (low, here, above)
    | inr none ↦ least_from left (suc low) m (omega (arith, most)) holds
        (λ k p. omega (arith, above k p, not_there k low p none))
  ]

  least : (m : ℕ) → P m → (k : ℕ) × P k × ((j : ℕ) → P j → k ≤ j)
  least m holds = least_from m 0 m (omega arith) holds (λ k p. omega arith)

  greatest : (high m : ℕ) → P m → ((k : ℕ) → P k → k ≤ high) → (k : ℕ) × P k × ((j : ℕ) → P j → j ≤ k)
  greatest zero m holds below =
      let is : m ≡ 0 = omega (arith, below m holds) in
      (0, subst P is holds, below)
  greatest (suc high) m holds below = elim (decide (suc high)) [
    | inl here ↦ (suc high, here, below)
    | inr none ↦ greatest high m holds (λ k p. omega (arith, below k p, not_there k (suc high) p none))
  ]

-- ---- the first and the last node of a component

module _ (next : List (List ℕ)) where
  pub first_of : (n : ℕ) → (k : ℕ) × AreConnected next n k × IsFirst next k
  first_of n =
      let (k, together, low) = least (AreConnected next n) (cases_connected next n) n (connected_self next n) in
      (k, together, λ j c. low j (connected_join next n k j together c))

  pub last_of : (n : ℕ) → (k : ℕ) × AreConnected next n k × IsLast next k
  last_of n =
      let (k, together, high) = greatest (AreConnected next n) (cases_connected next n) (n + length next) n
      (connected_self next n) inside in
      (k, together, λ j c. high j (connected_join next n k j together c))
    where
      inside : (k : ℕ) → AreConnected next n k → k ≤ n + length next
      inside k c = elim (way_cases next k c.1) [
        | inl same ↦ omega (arith, same)
        | inr leads ↦ omega (arith, leads_from next leads)
      ]

  cases_first : (n : ℕ) → IsFirst next n ⊎ (¬ IsFirst next n)
  cases_first n =
      let (k, together, first) = first_of n in
      elim (cases_eq k n) [
        | inl same ↦ inl (subst (IsFirst next) same first)
        | inr apart ↦ inr (λ is. omega (arith, apart, is k together, first n (connected_back next n k together)))
      ]

-- ---- the nodes of a component

-- a later node of the component
pub record IsLater (next : List (List ℕ)) (n m : ℕ) : Type 0 where
  pub together : AreConnected next n m
  pub later : n < m

module _ (next : List (List ℕ)) where
  pub cases_later : (n m : ℕ) → IsLater next n m ⊎ (¬ IsLater next n m)
  cases_later n m = elim (cases_lt n m) [
    | inl less ↦ elim (cases_connected next n m) [
      | inl c ↦ inl (record { together = c; later = less })
      | inr apart ↦ inr (λ is. apart is.together)
    ]
    | inr past ↦ inr (λ is. omega (arith, past, is.later))
  ]

  pub later_join : (n k m : ℕ) → IsLater next n k → IsLater next k m → IsLater next n m
  later_join n k m a b = record {
    together = connected_join next n k m a.together b.together;
    later = omega (arith, a.later, b.later);
  }

-- ---- the components

-- a way leads from the first node of a component to that of another
pub record IsFarther (next : List (List ℕ)) (n m : ℕ) : Type 0 where
  pub from_first : IsFirst next n
  pub to_first : IsFirst next m
  pub way : HasWay next n m
  pub apart : ¬ AreConnected next n m

module _ (next : List (List ℕ)) where
  pub cases_farther : (n m : ℕ) → IsFarther next n m ⊎ (¬ IsFarther next n m)
  cases_farther n m = elim (cases_both (cases_both (cases_first next n) (cases_first next m))
      (cases_both (cases_way next n m) (cases_not (cases_connected next n m)))) [
        | inl is ↦ inl (record { from_first = is.0.0; to_first = is.0.1; way = is.1.0; apart = is.1.1 })
        | inr none ↦ inr (λ is. none ((is.from_first, is.to_first), (is.way, is.apart)))
      ]

  pub farther_join : (n k m : ℕ) → IsFarther next n k → IsFarther next k m → IsFarther next n m
  farther_join n k m a b = record {
    from_first = a.from_first;
    to_first = b.to_first;
    way = way_join next n k m a.way b.way;
    apart = λ c. a.apart (a.way, way_join next k m n b.way c.1);
  }

  pub farther_differs : (n m : ℕ) → IsFarther next n m → n ≢ m
  farther_differs n m far same = far.apart (connected_same next n m same)
