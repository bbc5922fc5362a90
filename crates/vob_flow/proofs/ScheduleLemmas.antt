-- The places of sets in an order.
use Rattle.std.proofs.Common.{◌≡◌, ◌≢◌, ℕ, ◌+◌, ◌<◌, inl, inr, List, length, get_or, set, sym, ap, ◌∙◌, arith}
use Rattle.std.proofs.lemmas.Bool.{cases_eq}
use Rattle.std.proofs.lemmas.List.{get_or_default, get_or-set_same, get_or-set_other}
use Rattle.vob_flow.specs.Schedules.{ArePlaces, place_of}
use Rattle.vob_flow.specs.Turns.{IsOrder}

-- the place of a set is in the order
pub place_there : {count : ℕ} {order places : List ℕ} → ArePlaces count order places → (k : ℕ) →
    k < count → place_of places k < length order
place_there h k inside = h.inside k 0 (omega (arith, inside, h.count_of))

module _ {count : ℕ} {order : List ℕ} (one : IsOrder count order) where
  -- another set has another place
  pub place_apart : {places : List ℕ} → ArePlaces count order places → (i k : ℕ) → k < count →
      k ≢ get_or order i 0 → place_of places k ≢ i
  place_apart {places} h i k inside other there =
      let found = one.whole k inside in
      let is : get_or order found.0 0 ≡ k = get_or_default order found.0 0 k found.1 ∙ found.2 in
      let own : place_of places k ≡ found.0 = ap (place_of places) (sym is) ∙ h.named found.0 found.1 in
      other (sym is ∙ ap (λ j. get_or order j 0) (sym own ∙ there))

  -- one place more
  pub places_next : (places : List ℕ) (i n : ℕ) → i < length order → get_or order i 0 ≡ n →
      length places ≡ count → ((j : ℕ) → j < i → place_of places (get_or order j 0) ≡ j) →
      (j : ℕ) → j < i + 1 → place_of (set places n i) (get_or order j 0) ≡ j
  places_next places i n less is whole named j low = elim (cases_eq j i) [
    | inl here ↦
        let inside : n < length places = omega (arith, one.inside i 0 less, is, whole) in
        ap (λ k. place_of (set places n i) (get_or order k 0)) here ∙ ap (place_of (set places n i)) is
        ∙ get_or-set_same places n i 0 inside ∙ sym here
    | inr other ↦
        let below : j < i = omega (arith, low, other) in
        let apart : get_or order j 0 ≢ n = λ e. other (
        sym (one.places j (omega (arith, below, less)))
        ∙ ap one.place (e ∙ sym is) ∙ one.places i less
        ) in
        get_or-set_other places n (get_or order j 0) i 0 apart ∙ named j below
  ]

  pub ArePlaces-whole : (places : List ℕ) → length places ≡ count →
      ((j : ℕ) → j < length order → place_of places (get_or order j 0) ≡ j) →
      ArePlaces count order places
  ArePlaces-whole places whole named = record {
    count_of = whole;
    inside = λ k d less.
        let found = one.whole k (omega (arith, less, whole)) in
        let is : get_or order found.0 0 ≡ k = get_or_default order found.0 0 k found.1 ∙ found.2 in
        let own : place_of places k ≡ found.0 = ap (place_of places) (sym is) ∙ named found.0 found.1 in
        omega (arith, found.1, own, get_or_default places k d 0 less);
    named = named;
  }
