-- The elements of a list one after another, and the first at which something is wrong.
use Rattle.std.proofs.Common.{◌≡◌, ℕ, ◌+◌, ◌<◌, inl, inr, List, length, get_or, Some, slice_get, All, refl, sym, ap, ◌∙◌, subst, arith}
use Rattle.std.proofs.lemmas.Bool.{cases_eq, cases_order}
use Rattle.std.proofs.lemmas.Option.{same_Some, slice_get-get_or, slice_get_within}

-- an element is one element
pub same_at : {X : Type 0} (xs : List X) (k n : ℕ) (one other : X) → k ≡ n →
    slice_get xs k ≡ Some one → slice_get xs n ≡ Some other → one ≡ other
same_at xs k n one other e is is' = same_Some one other (sym is ∙ ap (slice_get xs) e ∙ is')

module _ {X : Type 0} (P : X → Type 0) (xs : List X) where
  -- what holds of the elements so far, and of one more
  pub below_more_at : (n : ℕ) (this : X) → slice_get xs n ≡ Some this → P this →
      ((k : ℕ) (x : X) → k < n → slice_get xs k ≡ Some x → P x) →
      (k : ℕ) (x : X) → k < n + 1 → slice_get xs k ≡ Some x → P x
  below_more_at n this this_is p below k x less is = elim (cases_eq k n) [
    | inl here ↦ subst P (same_at xs n k this x (sym here) this_is is) p
    | inr other ↦ below k x (omega arith) is
  ]

  -- and of all of them
  pub all_below_at : (n : ℕ) → n ≡ length xs →
      ((k : ℕ) (x : X) → k < n → slice_get xs k ≡ Some x → P x) → All P xs
  all_below_at n whole below k d less =
      below k (get_or xs k d) (omega arith) (slice_get-get_or xs k d less)

  -- and of each of all of them
  pub all_at : All P xs → (k : ℕ) (x : X) → slice_get xs k ≡ Some x → P x
  all_at all k x is =
      let inside = slice_get_within xs k x is in
      subst P (same_at xs k k _ x refl (slice_get-get_or xs k x inside) is) (all k x inside)

  -- two elements before which it holds of each, and of which it holds of neither, are one
  pub one_first : (n m : ℕ) (one other : X) →
      ((k : ℕ) (x : X) → k < n → slice_get xs k ≡ Some x → P x) →
      ((k : ℕ) (x : X) → k < m → slice_get xs k ≡ Some x → P x) →
      slice_get xs n ≡ Some one → slice_get xs m ≡ Some other → ¬ P one → ¬ P other → n ≡ m
  one_first n m one other lower lower' is is' bad bad' = elim (cases_order n m) [
    | inl same ↦ same
    | inr less ↦ elim less [
      | inl below ↦ absurd (bad (lower' n one below is))
      | inr above ↦ absurd (bad' (lower m other above is'))
    ]
  ]
