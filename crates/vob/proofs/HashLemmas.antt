-- Blocks that are fed to a hasher, by their numbers.
use Rattle.std.specs.Prelude.{All}
use Rattle.std.specs.List.{flat_map}
use Rattle.std.proofs.Common.{◌≡◌, ℕ, suc, ◌^◌, ◌<◌, List, [], ◌∷◌, ◌++◌, map, refl, sym, ap, ◌∙◌, arith}

-- blocks feed a hasher what blocks with their numbers do
module _ {X : Type 0} (number : X → ℕ) (block_of : ℕ → X) (fed : X → List (List ℕ)) (w : ℕ)
    (back : (n : ℕ) → n < 2 ^ w → number (block_of n) ≡ n)
    (alike : (x y : X) → number x ≡ number y → fed x ≡ fed y) where
  pub words_from_numbers : (xs : List X) → All (λ n. n < 2 ^ w) (map number xs) → flat_map fed xs
      ≡ flat_map (λ n. fed (block_of n)) (map number xs)
  words_from_numbers [] within = refl
  words_from_numbers (x ∷ xs) within =
      let here = alike x (block_of (number x)) (sym (back (number x) (within 0 0 (omega arith)))) in
      ap (λ us. us ++ flat_map fed xs) here
      ∙ ap (λ us. fed (block_of (number x)) ++ us)
      (words_from_numbers xs (λ k d less. within (suc k) d (omega arith)))
