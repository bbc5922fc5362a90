-- What is known of an order once a search that makes it is over.
use Rattle.std.proofs.Common.{◌≡◌, ℕ, ◌<◌, ◌≤◌, ◌⊎◌, Bool, true, List, [], ◌∷◌, ◌++◌, length, get_or, Some, refl, sym, ap, ◌∙◌, subst, arith, inl, inr}
use Rattle.std.specs.List.{Contains}
use Rattle.std.proofs.lemmas.Bool.{cases_lt}
use Rattle.std.proofs.lemmas.List.{get_or_append_left, get_or_default, get_or_push, length_push}
use Rattle.std.proofs.lemmas.List.Elements.{All-nil, All-pop, All-push, Contains-get_or, Contains-push, Contains-push_cases}
use Rattle.vob_block.specs.Packing.{item}
use Rattle.vob_flow.specs.Closure.{IsEdge}
use Rattle.vob_flow.specs.declared.order.Visit.{Visit}
use Rattle.vob_flow.specs.Order.{HasLooked, IsChain, IsNextUnseen, IsSearched, SeesMore, sets_of, visit_of}
use Rattle.vob_flow.specs.Reach.{HasWay}
use Rattle.vob_flow.specs.Reach.Reaches.{at_start, along}
use Rattle.vob_flow.proofs.OrderLemmas.{sets_of_push}

-- ---- ways

way_none : (next : List (List ℕ)) (n : ℕ) → HasWay next n n
way_none next n = at_start (Contains-push [] n)

-- ---- sets that wait

pub IsChain-one : (next : List (List ℕ)) (x : ℕ) → IsChain next (x ∷ [])
IsChain-one next x i j order less =
    let first : i ≡ 0 = omega (arith, order, less) in
    let last : j ≡ 0 = omega (arith, less) in
    rw (first, last) (way_none next x)

module _ (next : List (List ℕ)) (waiting : List ℕ) (top : ℕ) (h : IsChain next (waiting ++ top ∷ [])) where
  -- each leads to the one that waited last
  pub to_top : (i : ℕ) → i < length (waiting ++ top ∷ []) → HasWay next (get_or (waiting ++ top ∷ []) i 0) top
  to_top i less = subst (HasWay next (get_or (waiting ++ top ∷ []) i 0))
      (get_or_push waiting top 0 (length waiting) refl)
      (h i (length waiting) (omega (arith, less, length_push waiting top)) (omega (arith, length_push waiting top)))

  pub IsChain-pop : IsChain next waiting
  IsChain-pop i j order less =
      let first = get_or_append_left waiting (top ∷ []) 0 i (omega (arith, order, less)) in
      let last = get_or_append_left waiting (top ∷ []) 0 j less in
      rw (← first, ← last) (h i j order (omega (arith, less, length_push waiting top)))

  pub IsChain-push : (x : ℕ) → IsEdge next top x → IsChain next ((waiting ++ top ∷ []) ++ x ∷ [])
  IsChain-push x edge i j order less =
      let old = waiting ++ top ∷ [] in
      elim (cases_lt j (length old)) [
        | inl below ↦
            rw (
              get_or_append_left old (x ∷ []) 0 i (omega (arith, order, below)),
              get_or_append_left old (x ∷ []) 0 j below,
            ) (h i j order below)
        | inr past ↦
            let last : length old ≡ j = omega (arith, less, past, length_push old x) in
            subst (HasWay next (get_or (old ++ x ∷ []) i 0)) (sym (get_or_push old x 0 j last))
            (elim (cases_lt i (length old)) [
              | inl before ↦ subst (λ y. HasWay next y x) (sym (get_or_append_left old (x ∷ []) 0 i before))
                  (along (to_top i before) edge)
              | inr here ↦ subst (λ y. HasWay next y x)
                  (sym (get_or_push old x 0 i (omega (arith, order, here, last)))) (way_none next x)
            ])
      ]

-- ---- the search

pub IsSearched-none : (next : List (List ℕ)) (seen : List Bool) → IsSearched next seen [] []
IsSearched-none next seen = record {
  known = λ x y within e. absurd (omega (arith, within.1));
  looked = All-nil (HasLooked next seen);
  chain = λ i j order less. absurd (omega (arith, less));
  post = λ p q y order less e. absurd (omega (arith, less));
}

module _ (next : List (List ℕ)) (seen : List Bool) (stack : List Visit) (order : List ℕ) where
  -- more is seen
  pub IsSearched-seen : {after : List Bool} → SeesMore seen after → IsSearched next seen stack order →
      IsSearched next after stack order
  IsSearched-seen kept h = record {
    known = λ x y within e. kept y (h.known x y within e);
    looked = λ k d less j below. kept _ (h.looked k d less j below);
    chain = h.chain;
    post = h.post;
  }

  -- a set begins to wait
  pub IsSearched-enter : (x : ℕ) → IsChain next (sets_of (stack ++ visit_of x 0 ∷ [])) →
      IsSearched next seen stack order → IsSearched next seen (stack ++ visit_of x 0 ∷ []) order
  IsSearched-enter x chain h = record {
    known = h.known;
    looked = All-push (HasLooked next seen) stack (visit_of x 0) h.looked
        (λ j below. absurd (omega (arith, below)));
    chain = chain;
    post = h.post;
  }

  module _ (top : Visit) (h : IsSearched next seen (stack ++ top ∷ []) order) where
    chain_here : IsChain next (sets_of stack ++ top.set ∷ [])
    chain_here = subst (IsChain next) (sets_of_push stack top) h.chain

    pub top_looked : HasLooked next seen top
    top_looked = (All-pop (HasLooked next seen) (stack ++ top ∷ []) stack (Some top) refl h.looked).1

    -- more of what it draws from were looked at
    pub IsSearched-look : (looked : ℕ) → HasLooked next seen (visit_of top.set looked) →
        IsSearched next seen (stack ++ visit_of top.set looked ∷ []) order
    IsSearched-look looked more = record {
      known = h.known;
      looked = All-push (HasLooked next seen) stack (visit_of top.set looked)
          (All-pop (HasLooked next seen) (stack ++ top ∷ []) stack (Some top) refl h.looked).0 more;
      chain = subst (IsChain next) (sets_of_push stack top ∙ sym (sets_of_push stack (visit_of top.set looked)))
          h.chain;
      post = h.post;
    }

    -- it comes into the order, once all that it draws from were seen
    module _ (found : (k : ℕ) → item seen k ≡ true →
        Contains order k ⊎ Contains (sets_of stack ++ top.set ∷ []) k)
        (whole : (y : ℕ) → IsEdge next top.set y → item seen y ≡ true) where
      x : ℕ
      x = top.set

      -- from the sets of the order then, an edge leads to what is there, or to what leads to the last one
      to_last : (y : ℕ) → item seen y ≡ true → (p : ℕ) → length order ≡ p →
          ((r : ℕ) × (r ≤ p) × (get_or (order ++ top.set ∷ []) r 0 ≡ y)) ⊎ HasWay next y top.set
      to_last y e p last = elim (found y e) [
        | inl ordered ↦ inl (
          ordered.0,
          omega (arith, ordered.1, last),
          get_or_append_left order (top.set ∷ []) 0 ordered.0 ordered.1
              ∙ get_or_default order ordered.0 0 y ordered.1 ∙ ordered.2,
        )
        | inr waits ↦ inr (subst (λ z. HasWay next z top.set)
            (get_or_default (sets_of stack ++ top.set ∷ []) waits.0 0 y waits.1 ∙ waits.2)
            (to_top next (sets_of stack) top.set chain_here waits.0 waits.1))
      ]

      all_seen : (q y : ℕ) → q < length (order ++ top.set ∷ []) →
          IsEdge next (get_or (order ++ top.set ∷ []) q 0) y → item seen y ≡ true
      all_seen q y less edge = elim (cases_lt q (length order)) [
        | inl old ↦ h.known (get_or order q 0) y (Contains-get_or order q 0 old)
            (subst (λ z. IsEdge next z y) (get_or_append_left order (top.set ∷ []) 0 q old) edge)
        | inr past ↦ whole y (subst (λ z. IsEdge next z y)
            (get_or_push order top.set 0 q (omega (arith, less, past, length_push order top.set))) edge)
      ]

      pub IsSearched-leave : IsSearched next seen stack (order ++ top.set ∷ [])
      IsSearched-leave = record {
        known = λ z y within edge. elim (Contains-push_cases order top.set z within) [
          | inl old ↦ h.known z y old edge
          | inr same ↦ whole y (subst (λ n. IsEdge next n y) (sym same) edge)
        ];
        looked = (All-pop (HasLooked next seen) (stack ++ top ∷ []) stack (Some top) refl h.looked).0;
        chain = IsChain-pop next (sets_of stack) top.set chain_here;
        post = λ p q y order_is less edge. elim (cases_lt p (length order)) [
          | inl old ↦
              let here = get_or_append_left order (top.set ∷ []) 0 p old in
              let there = get_or_append_left order (top.set ∷ []) 0 q (omega (arith, old, order_is)) in
              elim (h.post p q y order_is old (subst (λ z. IsEdge next z y) there edge)) [
                | inl at ↦ inl (
                  at.0,
                  at.1,
                  get_or_append_left order (top.set ∷ []) 0 at.0 (omega (arith, at.1, old)) ∙ at.2,
                )
                | inr way ↦ inr (subst (HasWay next y) (sym here) way)
              ]
          | inr past ↦
              let last : length order ≡ p = omega (arith, less, past, length_push order top.set) in
              elim (to_last y (all_seen q y (omega (arith, order_is, less)) edge) p last) [
                | inl at ↦ inl at
                | inr way ↦ inr (subst (HasWay next y) (sym (get_or_push order top.set 0 p last)) way)
              ]
        ];
      }

-- a set from which one that was not seen is drawn: that one waits now
pub IsSearched-next : (next : List (List ℕ)) (seen : List Bool) (stack : List Visit) (order : List ℕ)
    (top : Visit) → IsSearched next seen (stack ++ top ∷ []) order → (after : List Bool) (to : Visit)
    → SeesMore seen after → item after to.set ≡ true
    → IsNextUnseen (get_or next top.set []) top.looked seen to
    → IsSearched next after ((stack ++ visit_of top.set to.looked ∷ []) ++ visit_of to.set 0 ∷ []) order
IsSearched-next next seen stack order top h after to kept there is =
    let from = get_or next top.set [] in
    let on = IsSearched-seen next seen (stack ++ top ∷ []) order kept h in
    let looked : HasLooked next after (visit_of top.set to.looked) = λ j below.
    elim (cases_lt j top.looked) [
      | inl old ↦ top_looked next after stack order top on j old
      | inr past ↦ elim (cases_lt j is.place) [
        | inl between ↦ kept _ (is.past j past between)
        | inr last ↦ subst (λ k. item after (get_or from k 0) ≡ true)
            (omega (arith, last, below, is.looked_is)) (subst (λ n. item after n ≡ true) (sym is.is) there)
      ]
    ] in
    let now = IsSearched-look next after stack order top on to.looked looked in
    let mid = stack ++ visit_of top.set to.looked ∷ [] in
    let edge : IsEdge next top.set to.set = subst (Contains from) is.is (Contains-get_or from is.place 0 is.inside) in
    IsSearched-enter next after mid order to.set (subst (IsChain next)
    (ap (λ sets. sets ++ to.set ∷ []) (sym (sets_of_push stack (visit_of top.set to.looked)))
    ∙ sym (sets_of_push mid (visit_of to.set 0)))
    (IsChain-push next (sets_of stack) top.set
    (subst (IsChain next) (sets_of_push stack (visit_of top.set to.looked)) now.chain) to.set edge)) now

-- or all were seen that it draws from: it comes into the order
pub IsSearched-last : (next : List (List ℕ)) (seen : List Bool) (stack : List Visit) (order : List ℕ)
    (top : Visit) → IsSearched next seen (stack ++ top ∷ []) order
    → ((k : ℕ) → item seen k ≡ true → Contains order k ⊎ Contains (sets_of stack ++ top.set ∷ []) k)
    → ((j : ℕ) → top.looked ≤ j → j < length (get_or next top.set [])
    → item seen (get_or (get_or next top.set []) j 0) ≡ true)
    → IsSearched next seen stack (order ++ top.set ∷ [])
IsSearched-last next seen stack order top h found rest =
    let from = get_or next top.set [] in
    IsSearched-leave next seen stack order top h found (λ y edge. subst (λ n. item seen n ≡ true)
    (get_or_default from edge.0 0 y edge.1 ∙ edge.2) (elim (cases_lt edge.0 top.looked) [
      | inl old ↦ top_looked next seen stack order top h edge.0 old
      | inr past ↦ rest edge.0 past edge.1
    ]))

-- a set from which a search begins waits alone
pub IsSearched-root : (next : List (List ℕ)) (seen : List Bool) (order : List ℕ) (x : ℕ)
    (after : List Bool) → SeesMore seen after → IsSearched next seen [] order
    → IsSearched next after (visit_of x 0 ∷ []) order
IsSearched-root next seen order x after kept h =
    IsSearched-enter next after [] order x (IsChain-one next x) (IsSearched-seen next seen [] order kept h)
