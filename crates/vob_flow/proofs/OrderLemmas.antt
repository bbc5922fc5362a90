-- The sets that were seen, each in the order or waiting.
use Rattle.std.proofs.Common.{◌≡◌, ◌≢◌, ℕ, ◌+◌, ◌^◌, ◌<◌, Bool, true, false, inl, inr}
use Rattle.std.proofs.Common.{List, [], ◌∷◌, ◌++◌, length, get_or, replicate, cond, eqb, Some, refl, sym, ap, ◌∙◌, subst, arith}
use Rattle.std.specs.List.{Contains}
use Rattle.std.proofs.lemmas.Bool.{cases_eq, cases_lt, false≢true}
use Rattle.std.proofs.lemmas.Bool.Decides.{nat_tests}
use Rattle.std.proofs.lemmas.List.{get_or_append_left, get_or_push, length_push, length-replicate, map-append}
use Rattle.std.proofs.lemmas.List.Elements.{All-nil, All-push, All-pop, Contains-push, Contains-append_left, Contains-push_cases}
use Rattle.vob_block.specs.Packing.{item}
use Rattle.vob.specs.Bits.{IsWritten, count_of, one_of}
use Rattle.vob_block.proofs.PackingLemmas.{true_inside}
use Rattle.vob.proofs.BitsLemmas.{item_false}
use Rattle.vob_flow.specs.declared.order.Visit.{Visit}
use Rattle.vob_flow.specs.Order.{IsVisited, root_of, sets_of}
use Rattle.vob_flow.specs.Turns.{IsOrder}

-- a place for x
abbrev moved : (ℕ → ℕ) → ℕ → ℕ → ℕ → ℕ
moved place x j k = cond (eqb k x) j (place k)

moved_here : (place : ℕ → ℕ) (x j : ℕ) → moved place x j x ≡ j
moved_here place x j = grind (arith, nat_tests)

moved_other : (place : ℕ → ℕ) (x j k : ℕ) → k ≢ x → moved place x j k ≡ place k
moved_other place x j k other = grind (arith, nat_tests)

pub sets_of_push : (stack : List Visit) (top : Visit) →
    sets_of (stack ++ top ∷ []) ≡ sets_of stack ++ top.set ∷ []
sets_of_push stack top = map-append (λ (visit : Visit). visit.set) stack (top ∷ [])

-- a set that is seen takes two steps off
pub steps_seen : {seen after : List Bool} (x : ℕ) → item seen x ≡ false →
    IsWritten seen x true after → count_of false after + 1 ≡ count_of false seen
steps_seen {seen} {after} x new w =
    let is : one_of false (item seen x) ≡ 1 = ap (one_of false) new in
    omega (arith, w.count false, is)

pub IsVisited-none : (n : ℕ) → IsVisited n (replicate n false) [] []
IsVisited-none n = record {
  len = length-replicate n false;
  seen_order = All-nil (λ k. item (replicate n false) k ≡ true);
  seen_waiting = All-nil (λ k. item (replicate n false) k ≡ true);
  found = λ k e. absurd (false≢true (sym (item_false n k) ∙ e));
  place = λ k. 0;
  places = λ j less. absurd (omega (arith, less));
  waits = λ j less. absurd (omega (arith, less));
}

-- what was seen is seen after x is
pub still_seen : {seen after : List Bool} (x : ℕ) → IsWritten seen x true after → (k : ℕ) →
    item seen k ≡ true → item after k ≡ true
still_seen {seen} {after} x w k e = elim (cases_eq k x) [
  | inl here ↦ subst (λ j. item after j ≡ true) (sym here) w.there
  | inr other ↦ w.others k other ∙ e
]

module _ {n : ℕ} {seen : List Bool} {waiting order : List ℕ} (x : ℕ) where
  -- x is seen, and waits
  pub IsVisited-enter : {after : List Bool} → IsVisited n seen waiting order →
      item seen x ≡ false → IsWritten seen x true after →
      IsVisited n after (waiting ++ x ∷ []) order
  IsVisited-enter {after} h new w =
      let other : (k : ℕ) → item seen k ≡ true → k ≢ x =
      λ k e is. false≢true (sym new ∙ subst (λ j. item seen j ≡ true) is e) in
      record {
        len = w.len ∙ h.len;
        seen_order = λ j d less. still_seen x w (get_or order j d) (h.seen_order j d less);
        seen_waiting = All-push (λ k. item after k ≡ true) waiting x
            (λ j d less. still_seen x w (get_or waiting j d) (h.seen_waiting j d less)) w.there;
        found = λ k e. elim (cases_eq k x) [
          | inl here ↦ inr (subst (λ j. Contains (waiting ++ x ∷ []) j) (sym here)
              (Contains-push waiting x))
          | inr there ↦ elim (h.found k (sym (w.others k there) ∙ e)) [
            | inl ordered ↦ inl ordered
            | inr waits ↦ inr (Contains-append_left waiting (x ∷ []) k waits)
          ]
        ];
        place = moved h.place x (2 ^ 64 + length waiting);
        places = λ j less. moved_other h.place x _ (get_or order j 0)
            (other (get_or order j 0) (h.seen_order j 0 less)) ∙ h.places j less;
        waits = λ j less. elim (cases_lt j (length waiting)) [
          | inl old ↦
              let is = get_or_append_left waiting (x ∷ []) 0 j old in
              ap (moved h.place x (2 ^ 64 + length waiting)) is
              ∙ moved_other h.place x _ (get_or waiting j 0)
              (other (get_or waiting j 0) (h.seen_waiting j 0 old)) ∙ h.waits j old
          | inr past ↦
              let last : length waiting ≡ j = omega (arith, less, past, length_push waiting x) in
              ap (moved h.place x (2 ^ 64 + length waiting)) (get_or_push waiting x 0 j last)
              ∙ moved_here h.place x _ ∙ ap (λ i. 2 ^ 64 + i) last
        ];
      }

  -- x no longer waits, and comes into the order
  pub IsVisited-leave : IsVisited n seen (waiting ++ x ∷ []) order → length order < 2 ^ 64 →
      IsVisited n seen waiting (order ++ x ∷ [])
  IsVisited-leave h few =
      let parts = All-pop (λ k. item seen k ≡ true) (waiting ++ x ∷ []) waiting (Some x) refl h.seen_waiting in
      let place_x : h.place x ≡ 2 ^ 64 + length waiting =
      ap h.place (sym (get_or_push waiting x 0 (length waiting) refl))
      ∙ h.waits (length waiting) (omega (arith, length_push waiting x)) in
      record {
        len = h.len;
        seen_order = All-push (λ k. item seen k ≡ true) order x h.seen_order parts.1;
        seen_waiting = parts.0;
        found = λ k e. elim (h.found k e) [
          | inl ordered ↦ inl (Contains-append_left order (x ∷ []) k ordered)
          | inr waits ↦ elim (Contains-push_cases waiting x k waits) [
            | inl before ↦ inr before
            | inr same ↦ inl (subst (λ j. Contains (order ++ x ∷ []) j) same
                (Contains-push order x))
          ]
        ];
        place = moved h.place x (length order);
        places = λ j less. elim (cases_lt j (length order)) [
          | inl old ↦
              ap (moved h.place x (length order)) (get_or_append_left order (x ∷ []) 0 j old)
              ∙ moved_other h.place x _ (get_or order j 0)
              (λ is. omega (arith, ap h.place is, place_x, h.places j old, few, old))
              ∙ h.places j old
          | inr past ↦
              let last : length order ≡ j = omega (arith, less, past, length_push order x) in
              ap (moved h.place x (length order)) (get_or_push order x 0 j last)
              ∙ moved_here h.place x _ ∙ last
        ];
        waits = λ j less.
            let in_both : j < length (waiting ++ x ∷ []) =
            omega (arith, less, length_push waiting x) in
            let here : h.place (get_or waiting j 0) ≡ 2 ^ 64 + j =
            ap h.place (sym (get_or_append_left waiting (x ∷ []) 0 j less)) ∙ h.waits j in_both in
            moved_other h.place x _ (get_or waiting j 0)
            (λ is. omega (arith, ap h.place is, place_x, here, less)) ∙ here;
      }

-- all were seen, and none waits
pub IsOrder-whole : {n : ℕ} {seen : List Bool} {order : List ℕ} → IsVisited n seen [] order →
    ((k : ℕ) → k < n → item seen k ≡ true) → IsOrder n order
IsOrder-whole {n} {seen} {order} h all = record {
  inside = λ j d less. omega (
    arith,
    true_inside seen (get_or order j d) (h.seen_order j d less),
    h.len,
  );
  whole = λ k less. elim (h.found k (all k less)) [
    | inl ordered ↦ ordered
    | inr waits ↦ absurd (omega (arith, waits.1))
  ];
  place = h.place;
  places = h.places;
}

-- a set that waits is there
pub waiting_inside : {n : ℕ} {seen : List Bool} (waiting : List ℕ) {order : List ℕ} (x : ℕ) →
    IsVisited n seen (waiting ++ x ∷ []) order → x < n
waiting_inside {n} {seen} waiting {order} x h =
    let parts = All-pop (λ k. item seen k ≡ true) (waiting ++ x ∷ []) waiting (Some x) refl
    h.seen_waiting in
    omega (arith, true_inside seen x parts.1, h.len)

-- each set is one of those at which an order begins
pub root_of-root_of : (from_last : Bool) (n k : ℕ) → k < n →
    root_of from_last n (root_of from_last n k) ≡ k
root_of-root_of true n k less = omega (arith, less)
root_of-root_of false n k less = refl

pub root_inside : (from_last : Bool) (n k : ℕ) → k < n → root_of from_last n k < n
root_inside true n k less = omega (arith, less)
root_inside false n k less = less
