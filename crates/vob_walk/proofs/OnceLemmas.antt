-- What both ends gave and what is left, put together.
use Rattle.std.specs.Prelude.{reverse, slice_get, Contains}
use Rattle.std.specs.declared.ops.Bound.{Bound}
use Rattle.std.proofs.Common.{◌≡◌, ℕ, zero, suc, ◌+◌, ◌-◌, Bool, List, [], ◌∷◌, ◌++◌, length, take, get_or}
use Rattle.std.proofs.Common.{Option, Some, None, refl, sym, ap, ◌∙◌, subst, arith, append-nil, append_assoc}
use Rattle.std.proofs.lemmas.List.{take_more, reverse-append}
use Rattle.std.proofs.lemmas.Option.{slice_get-get_or}
use Rattle.std.proofs.Math.Seq.{take-length}
use Rattle.vob_walk.specs.declared.walk.End.{End}
use Rattle.vob_walk.specs.declared.walk.End.TheVariants.{Front, Back}
use Rattle.vob_walk.specs.Matches.{matches}
use Rattle.vob_walk.specs.Walk.{Walk, IsWhole, end_item, without_end, answers, left_after}
use Rattle.vob_walk.specs.Once.{given_at, front_given, back_given}
use Rattle.vob_walk.proofs.PullLemmas.{end_item-none, without_end-nil}

-- the last of a list, and those before it
record HasLast (xs : List ℕ) (i : ℕ) : Type 0 where
  item : end_item Back xs ≡ Some i
  join : without_end Back xs ++ i ∷ [] ≡ xs

has_last : (x : ℕ) (xs : List ℕ) → HasLast (x ∷ xs) (get_or (x ∷ xs) (length xs) x)
unfolding end_item without_end
has_last x xs =
    let all = x ∷ xs in
    let long : length all - 1 ≡ length xs = omega arith in
    let whole : length xs + 1 ≡ length all = omega arith in
    record {
      item = ap (slice_get all) long ∙ slice_get-get_or all (length xs) x (omega arith);
      join = ap (λ k. take k all ++ get_or all (length xs) x ∷ []) long
          ∙ sym (take_more all (length xs) x (omega arith))
          ∙ ap (λ k. take k all) whole ∙ take-length all;
    }

-- an index that the back gives comes after what is left
join-last : (front left back xs : List ℕ) (i : ℕ) → front ++ (left ++ reverse back) ≡ xs
    → front ++ (left ++ reverse (i ∷ back)) ≡ xs ++ i ∷ []
join-last front left back xs i e =
    ap (λ ys. front ++ (left ++ ys)) (reverse-append (i ∷ []) back)
    ∙ ap (λ ys. front ++ ys) (sym (append_assoc left (reverse back) (i ∷ [])))
    ∙ sym (append_assoc front (left ++ reverse back) (i ∷ [])) ∙ ap (λ ys. ys ++ i ∷ []) e

pub given-once : (xs : List ℕ) (pulls : List End)
    → front_given xs pulls ++ (left_after xs pulls ++ back_given xs pulls) ≡ xs
unfolding end_item without_end answers left_after given_at
given-once xs [] = append-nil xs
given-once [] (Front ∷ pulls) = given-once [] pulls
given-once [] (Back ∷ pulls) = given-once [] pulls
given-once (x ∷ xs) (Front ∷ pulls) = ap (λ ys. x ∷ ys) (given-once xs pulls)
given-once (x ∷ xs) (Back ∷ pulls) =
    let all = x ∷ xs in
    let i = get_or all (length xs) x in
    let last = has_last x xs in
    let before = without_end Back all in
    let others = answers before pulls in
    let left = left_after before pulls in
    let P : Option ℕ → Type 0 = λ o. given_at Front (Back ∷ pulls) (o ∷ others)
    ++ (left ++ reverse (given_at Back (Back ∷ pulls) (o ∷ others))) ≡ all in
    subst P (sym last.item) (join-last (given_at Front pulls others) left
    (given_at Back pulls others) before i (given-once before pulls) ∙ last.join)

pub matches-given_once : (walk : Walk) (bits : List Bool) (value : Bool) (low high : Bound ℕ)
    (width : ℕ) (pulls : List End) → IsWhole walk bits value low high width
    → front_given walk.rest pulls ++ (left_after walk.rest pulls ++ back_given walk.rest pulls)
    ≡ matches bits value low high
matches-given_once walk bits value low high width pulls whole =
    given-once walk.rest pulls ∙ whole.rest

-- ---- after a pull that gave nothing

left_after-nil : (pulls : List End) → left_after [] pulls ≡ []
unfolding without_end left_after
left_after-nil [] = refl
left_after-nil (Front ∷ pulls) = left_after-nil pulls
left_after-nil (Back ∷ pulls) = left_after-nil pulls

left_after-none : (xs : List ℕ) (pulls : List End) → Contains (answers xs pulls) None
    → left_after xs pulls ≡ []
unfolding answers left_after
left_after-none xs [] (k, below, is) = absurd (omega arith)
left_after-none xs (side ∷ pulls) (zero, below, is) =
    ap (λ ys. left_after (without_end side ys) pulls) (end_item-none xs side is)
    ∙ ap (λ ys. left_after ys pulls) (without_end-nil side) ∙ left_after-nil pulls
left_after-none xs (side ∷ pulls) (suc k, below, is) =
    left_after-none (without_end side xs) pulls (k, omega arith, is)

pub none_comes_last : (xs : List ℕ) (pulls : List End) → Contains (answers xs pulls) None
    → (left_after xs pulls ≡ []) × (front_given xs pulls ++ back_given xs pulls ≡ xs)
none_comes_last xs pulls none =
    let nothing = left_after-none xs pulls none in (
      nothing,
      ap (λ ys. front_given xs pulls ++ (ys ++ back_given xs pulls)) (sym nothing)
          ∙ given-once xs pulls,
    )
