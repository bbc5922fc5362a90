-- A loop that adds to blocks what two others combine to.
use Rattle.std.proofs.Common.{◌≡◌, ℕ, ◌+◌, ◌^◌, ◌<◌, Bool, ◌||◌, List, length, map, get_or, set, sym, ap, ◌∙◌, arith}
use Rattle.std.proofs.lemmas.List.{get_or-map, length-map, map-set}
use Rattle.vob_block.specs.Kernel.{Takes}
use Rattle.vob_block.specs.Places.{place, HasPlaces}
use Rattle.vob_block.specs.Pointwise.{IsPointwise, differ}
use Rattle.vob_block.proofs.KernelLemmas.{Takes-more, Takes-one}

-- one block more, where the blocks are items with a number each; `both` are those of the two others
-- combined
module _ {X : Type 0} (number : X → ℕ) (w : ℕ) (f : Bool → Bool → Bool) (xs ys both : List ℕ)
    (olds : List ℕ) (own : List X) (k changed : ℕ) (combined : IsPointwise w f xs ys both)
    (few : length own ≡ length xs) (inside : k < length own) (small : changed < 2 ^ w)
    (h : Takes w ◌||◌ both olds (map number own) 0 k 0 changed) where
  pub Takes-fused : (old new : X) (a b mix diff later : ℕ) → old ≡ get_or own k old
      → a ≡ get_or xs k 0 → b ≡ get_or ys k 0 → number old < 2 ^ w → number new < 2 ^ w
      → diff < 2 ^ w → later < 2 ^ w → HasPlaces w mix (λ j. f (place j a) (place j b))
      → HasPlaces w (number new) (λ j. place j (number old) || place j mix)
      → HasPlaces w diff (λ j. differ (place j (number old)) (place j (number new)))
      → HasPlaces w later (λ j. place j changed || place j diff)
      → Takes w ◌||◌ both olds (map number (set own k new)) 0 (k + 1) 0 later
  Takes-fused old new a b mix diff later read is its old-in new-in diff-in later-in mixed made
      differs packed =
      let before = map number own in
      let x = number old in
      let y = number new in
      let here : x ≡ get_or before k 0 = ap number read ∙ sym (get_or-map number own k old 0 inside) in
      let places : HasPlaces w y (λ j. place j x || place j (get_or both k 0)) = record {
        each = λ j less. made.each j less ∙ ap (λ c. place j x || c) (mixed.each j less
            ∙ ap (λ c. f (place j c) (place j b)) is ∙ ap (λ c. f (place j (get_or xs k 0)) (place j c)) its
            ∙ sym ((combined.each k (omega (arith, inside, few))).each j less));
      } in
      rw map-set (Takes-more w ◌||◌ both olds before (set before k y) 0 k 1 k 0 changed later h
      (omega arith) (Takes-one w ◌||◌ both before k changed (omega (arith, inside, length-map own number))
      small x y diff later here old-in new-in diff-in later-in places differs packed))
