-- Where a name stands among others.
use Rattle.std.specs.Prelude.{IfSome, slice_get, position, nat_eq, Contains}
use Rattle.std.specs.List.{list_any}
use Rattle.indexmap.specs.IndexSet.{insert_key}
use Rattle.files_text.specs.Names.{IsNumbered, with_name}
use Rattle.files_text.proofs.ListLemmas.{Contains-map, first_or_later, nothing}
use Rattle.std.proofs.lemmas.Grind.{common_steps}
use Rattle.std.proofs.lemmas.Bool.{true≢false}
use Rattle.std.proofs.lemmas.List.{map-append}
use Rattle.std.specs.Option.{option_map}
use Rattle.std.specs.Cmp.Lexicographic.{pointwise}
use Rattle.std.proofs.Common.{Option, None, Some, ◌≡◌, ℕ, zero, suc, ◌<◌, true, List, [], ◌∷◌, length, get_or, map, if◌then◌else◌, ◌||◌, ◌++◌, refl, sym, ap, ◌∙◌, arith, Bor, Bool, false, ◌⊎◌, inl, inr}
use Rattle.std.proofs.lemmas.List.Quantifiers.{position-Some}
use Rattle.std.proofs.lemmas.Option.{slice_get-map}
use Rattle.std.proofs.lemmas.Slice.Eq.{bytes_eq-Decides}

-- a list that has a place i has the item there, whatever it has past its end
at : {X : Type 0} (P : X → Type 0) (xs : List X) (i : ℕ) → ((d : X) → (i < length xs) × P (get_or xs i d)) →
    X → (x : X) × (slice_get xs i ≡ Some x) × P x
at P [] i each d = absurd (omega (arith, (each d).0))
at P (x ∷ xs) zero each d = (x, refl, (each d).1)
at P (x ∷ xs) (suc i) each d =
    at P xs i (λ e. (omega (arith, (each e).0), (each e).1)) d

pub found_name : (keys : List (Bor (List ℕ))) (name : Bor (List ℕ)) (result : Option ℕ) →
    result ≡ position (λ key. pointwise nat_eq name.now key.now) keys →
    IfSome result (λ number. slice_get (map (λ key. key.now) keys) number ≡ Some name.now)
found_name keys name None is = tt
found_name keys name (Some number) is =
    let test = λ (key : Bor (List ℕ)). pointwise nat_eq name.now key.now in
    let item = at (λ key. test key ≡ true) keys number
    (λ d. let there = position-Some test keys number d (sym is) in (there.0, there.1)) name in
    slice_get-map (λ key. key.now) keys number
    ∙ ap (option_map (λ (key : Bor (List ℕ)). key.now)) item.1 ∙ ap Some (sym ((bytes_eq-Decides name.now item.0.now).0 item.2))

abbrev pub same : Bor (List ℕ) → Bor (List ℕ) → Bool
same name key = pointwise nat_eq name.now key.now

none_passes : {X : Type 0} (p : X → Bool) (xs : List X) → list_any p xs ≡ false → (x : X) → Contains xs x → p x ≡ false
none_passes p [] none x there = absurd (nothing x there)
none_passes p (y ∷ ys) none x there = elim (first_or_later y ys x there) [
  | inl first ↦ ap p (sym first) ∙ or_none.0
  | inr later ↦ none_passes p ys or_none.1 x later
]
  where
    or_none : (p y ≡ false) × (list_any p ys ≡ false)
    or_none = grind (arith, common_steps)

pub absent_name : (keys : List (Bor (List ℕ))) (name : Bor (List ℕ)) → list_any (same name) keys ≡ false →
    ¬ Contains (map (λ key. key.now) keys) name.now
absent_name keys name none there =
    let found = Contains-map (λ (key : Bor (List ℕ)). key.now) keys name.now there in
    true≢false (sym ((bytes_eq-Decides name.now found.0.now).1 (sym found.2)) ∙ none_passes (same name) keys none found.0 found.1)

any_name : (name : Bor (List ℕ)) (keys : List (Bor (List ℕ))) →
    list_any (pointwise nat_eq name.now) (map (λ key. key.now) keys) ≡ list_any (same name) keys
any_name name [] = refl
any_name name (key ∷ keys) = ap (λ b. pointwise nat_eq name.now key.now || b) (any_name name keys)

pub numbered_name : (keys after : List (Bor (List ℕ))) (name : Bor (List ℕ)) (number : ℕ) →
    after ≡ insert_key same keys name →
    ((k : Bor (List ℕ)) × (slice_get after number ≡ Some k) × (same name k ≡ true)) →
    IsNumbered (map (λ key. key.now) keys) name.now number (map (λ key. key.now) after)
numbered_name keys after name number is stored = record {
  at = slice_get-map (λ (key : Bor (List ℕ)). key.now) after number
      ∙ ap (option_map (λ (key : Bor (List ℕ)). key.now)) stored.1
      ∙ ap Some (sym ((bytes_eq-Decides name.now stored.0.now).0 stored.2));
  added = ap (map (λ (key : Bor (List ℕ)). key.now)) is ∙ by (list_any (same name) keys)
      ∙ ap (λ b. if b then map (λ (key : Bor (List ℕ)). key.now) keys
      else map (λ (key : Bor (List ℕ)). key.now) keys ++ name.now ∷ []) (sym (any_name name keys));
}
  where
    by : (b : Bool) → map (λ (key : Bor (List ℕ)). key.now) (if b then keys else keys ++ name ∷ [])
        ≡ (if b then map (λ (key : Bor (List ℕ)). key.now) keys
        else map (λ (key : Bor (List ℕ)). key.now) keys ++ name.now ∷ [])
    by true = refl
    by false = map-append (λ (key : Bor (List ℕ)). key.now) keys (name ∷ [])

-- names with one more: the same, or a new one behind them
pub grown : (names : List (List ℕ)) (name : List ℕ) → (with_name names name ≡ names)
    ⊎ ((with_name names name ≡ names ++ name ∷ []) × ¬ Contains names name)
grown names name = by (list_any (pointwise nat_eq name) names) refl
  where
    by : (b : Bool) → list_any (pointwise nat_eq name) names ≡ b → ((if b then names else names ++ name ∷ []) ≡ names)
        ⊎ (((if b then names else names ++ name ∷ []) ≡ names ++ name ∷ []) × ¬ Contains names name)
    by true has = inl refl
    by false has = inr (
      refl,
      λ there. true≢false (sym ((bytes_eq-Decides name name).1 refl)
          ∙ none_passes (pointwise nat_eq name) names has name there),
    )
