-- Pulls at a walk, one after another.
use Rattle.std.proofs.Common.{◌≡◌, ℕ, ◌+◌, ◌-◌, ◌<◌, List, [], ◌∷◌, ◌++◌, length, take, get_or, Option, Some, None, refl, sym, ap, ◌∙◌, arith}
use Rattle.std.specs.Prelude.{slice_get, replicate}
use Rattle.std.specs.Option.{MatchOption}
use Rattle.std.proofs.lemmas.List.{take_more, length-append}
use Rattle.std.proofs.lemmas.Option.{slice_get-get_or}
use Rattle.vob_walk.specs.declared.walk.End.TheVariants.{Front, Back}
use Rattle.std.proofs.Math.Seq.{take-append_seam}
use Rattle.vob_walk.specs.declared.walk.End.{End}
use Rattle.vob_walk.specs.Walk.{Walk, IsPulled, end_item, without_end, answers, left_after, given_count}

answers-push : (xs : List ℕ) (pulls : List End) (side : End) → answers xs (pulls ++ side ∷ [])
    ≡ answers xs pulls ++ end_item side (left_after xs pulls) ∷ []
unfolding answers left_after
answers-push xs [] side = refl
answers-push xs (p ∷ pulls) side = ap (λ others. end_item p xs ∷ others)
    (answers-push (without_end p xs) pulls side)

left_after-push : (xs : List ℕ) (pulls : List End) (side : End)
    → left_after xs (pulls ++ side ∷ []) ≡ without_end side (left_after xs pulls)
unfolding left_after
left_after-push xs [] side = refl
left_after-push xs (p ∷ pulls) side = left_after-push (without_end p xs) pulls side

given_count-append : (some more : List (Option ℕ)) → given_count (some ++ more)
    ≡ given_count some + given_count more
unfolding given_count
given_count-append [] more = omega arith
given_count-append (None ∷ some) more = given_count-append some more
given_count-append (Some i ∷ some) more = omega (arith, given_count-append some more)

pub answers-none : (xs : List ℕ) → answers xs [] ≡ []
unfolding answers
answers-none xs = refl

-- a walk at which some pulls were made
pub record IsPulledBy (walk : Walk) (pulls : List End) (after : Walk) : Type 0 where
  pub rest : after.rest ≡ left_after walk.rest pulls
  pub reads : IsPulled walk (answers walk.rest pulls) after

pub IsPulledBy-none : (walk : Walk) → IsPulledBy walk [] walk
unfolding answers left_after given_count
IsPulledBy-none walk = record {
  rest = refl;
  reads =
      record { bound = omega arith; rises = omega arith; credit = omega arith };
}

module _ (walk between after : Walk) (pulls : List End) (k : ℕ) (d : End)
    (inside : k < length pulls) (h : IsPulledBy walk (take k pulls) between) (answer : Option ℕ)
    (is : answer ≡ end_item (get_or pulls k d) between.rest) where
  -- the answers go on by one
  pub answers-more : answers walk.rest (take (k + 1) pulls)
      ≡ answers walk.rest (take k pulls) ++ answer ∷ []
  answers-more =
      ap (answers walk.rest) (take_more pulls k d inside)
      ∙ answers-push walk.rest (take k pulls) (get_or pulls k d)
      ∙ ap (λ a. answers walk.rest (take k pulls) ++ a ∷ [])
      (ap (end_item (get_or pulls k d)) (sym h.rest) ∙ sym is)

  -- and so does the walk
  pub IsPulledBy-more : after.rest ≡ without_end (get_or pulls k d) between.rest
      → IsPulled between (answer ∷ []) after → IsPulledBy walk (take (k + 1) pulls) after
  IsPulledBy-more left pulled = record {
    rest = left ∙ ap (without_end (get_or pulls k d)) h.rest
        ∙ sym (ap (left_after walk.rest) (take_more pulls k d inside)
        ∙ left_after-push walk.rest (take k pulls) (get_or pulls k d));
    reads =
        let sum = ap given_count answers-more
        ∙ given_count-append (answers walk.rest (take k pulls)) (answer ∷ []) in
        record {
          bound = omega arith;
          rises = omega arith;
          credit = omega arith;
        };
  }

get-behind : (xs : List ℕ) (i : ℕ) → slice_get (xs ++ i ∷ []) (length xs) ≡ Some i
get-behind [] i = refl
get-behind (x ∷ xs) i = get-behind xs i

-- a pull that gives the first or the last of what is left, and leaves the others
pub end_item-first : (answer : Option ℕ) (old new : List ℕ)
    → MatchOption answer ((old ≡ []) × (new ≡ [])) (λ i. old ≡ i ∷ new)
    → (answer ≡ end_item Front old) × (new ≡ without_end Front old)
unfolding end_item without_end
end_item-first None old new taken = rw (taken.0, taken.1) (refl, refl)
end_item-first (Some i) old new taken = rw taken (refl, refl)

pub end_item-last : (answer : Option ℕ) (old new : List ℕ)
    → MatchOption answer ((old ≡ []) × (new ≡ [])) (λ i. old ≡ new ++ i ∷ [])
    → (answer ≡ end_item Back old) × (new ≡ without_end Back old)
unfolding end_item without_end
end_item-last None old new taken = rw (taken.0, taken.1) (refl, refl)
end_item-last (Some i) old new taken =
    let long : length (new ++ i ∷ []) - 1 ≡ length new =
    omega (arith, length-append new (i ∷ [])) in
    rw (taken, long) (sym (get-behind new i), sym (take-append_seam new (i ∷ [])))

-- ---- a pull that gave nothing

-- was at an empty list
pub end_item-none : (xs : List ℕ) (side : End) → end_item side xs ≡ None → xs ≡ []
unfolding end_item
end_item-none [] side none = refl
end_item-none (x ∷ xs) Front none = absurd (cc)
end_item-none (x ∷ xs) Back none =
    let last = slice_get-get_or (x ∷ xs) (length xs) x (omega arith) in
    let here : slice_get (x ∷ xs) (length (x ∷ xs) - 1) ≡ slice_get (x ∷ xs) (length xs) =
    ap (slice_get (x ∷ xs)) (omega arith) in
    absurd (cc)

answers-nil : (pulls : List End) → answers [] pulls ≡ replicate (length pulls) None
unfolding end_item without_end answers
answers-nil [] = refl
answers-nil (Front ∷ pulls) = ap (λ others. None ∷ others) (answers-nil pulls)
answers-nil (Back ∷ pulls) = ap (λ others. None ∷ others) (answers-nil pulls)

pub without_end-nil : (side : End) → without_end side [] ≡ []
unfolding without_end
without_end-nil Front = refl
without_end-nil Back = refl

-- and so is each pull after it
pub none_for_good : (xs : List ℕ) (side : End) (pulls : List End) → end_item side xs ≡ None
    → answers (without_end side xs) pulls ≡ replicate (length pulls) None
none_for_good xs side pulls none =
    ap (λ ys. answers (without_end side ys) pulls) (end_item-none xs side none)
    ∙ ap (λ ys. answers ys pulls) (without_end-nil side) ∙ answers-nil pulls
