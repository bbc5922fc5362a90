-- From the laws of a block type to the number of a result, at any type S with these members.
use Rattle.std.specs.Prelude.{All, Some, slice_get}
use Rattle.std.proofs.lemmas.Option.{get_or_from_slice_get, slice_get-map}
use Rattle.std.proofs.Common.{◌≡◌, ℕ, ◌^◌, ◌<◌, List, map, get_or, refl, sym, ap, ◌∙◌}
use Rattle.std.proofs.lemmas.List.Elements.{All-map, All-from_get_or}

module _ {S : Type 0} (number : S → ℕ) (of_bits : ℕ → S) (width : ℕ)
    (of_bits_number : (n : ℕ) → n < 2 ^ width → number (of_bits n) ≡ n) where
  -- a result that is made of some bits, which are n, has the number n
  pub number_from_bits : (x : S) (bits n : ℕ) → x ≡ of_bits bits → bits ≡ n → n < 2 ^ width
      → number x ≡ n
  number_from_bits x bits n made same h = ap number (made ∙ ap of_bits same) ∙ of_bits_number n h

-- blocks that are their own numbers, each below a bound
pub all_own_numbers : (bound : ℕ) (xs : List ℕ) → ((k : ℕ) → get_or xs k 0 < bound)
    → All (λ n. n < bound) (map (λ x. x) xs)
all_own_numbers bound xs h = All-map (λ n. n < bound) (λ x. x) xs
    (All-from_get_or (λ n. n < bound) xs 0 (λ k _. h k))

-- a block read, by its number
pub number_read : {X : Type 0} (number : X → ℕ) (items : List X) (k : ℕ) (x : X)
    → slice_get items k ≡ Some x → number x ≡ get_or (map number items) k 0
number_read number items k x read = sym (get_or_from_slice_get (map number items) k (number x) 0
    (rw (slice_get-map, read) refl))
