-- Numbers that are added to lists, and sets of lists.
use Rattle.std.specs.Prelude.{◌↔◌, Contains}
use Rattle.std.proofs.Common.{◌≡◌, ℕ, ◌+◌, ◌<◌, ◌≤◌, inl, inr, List, [], ◌∷◌, ◌++◌, length, get_or, set, map, take, Vec, Global, replicate, slice_index_or, refl, sym, ap, subst, ◌∙◌, arith}
use Rattle.std.proofs.lemmas.Bool.{cases_eq, cases_lt}
use Rattle.std.proofs.lemmas.List.{get_or-map, map-append, take_more, get_or-replicate, get_or-set_other, get_or-set_same, get_or_past, length-set, length-replicate, length-map}
use Rattle.std.proofs.lemmas.List.Elements.{Contains-append_cases, Contains-append_left, Contains-push}
use Rattle.vob_flow.specs.declared.live.Flow.{Flow}
use Rattle.files_flow.specs.Problems.{AreBefore, IsAddedTo, lists_of, next_of}
use Rattle.files_text.proofs.ListLemmas.{first, first_or_later, nothing}

pub only : (x y : ℕ) → Contains (x ∷ []) y → x ≡ y
only x y there = elim (first_or_later x [] y there) [
  | inl same ↦ same
  | inr later ↦ absurd (nothing y later)
]

module _ (lists : List (List ℕ)) (number : ℕ) where
  -- a number was pushed to one list
  pub added_one : (list : ℕ) (own : List ℕ) → list < length lists → get_or lists list [] ≡ own →
      IsAddedTo (list ∷ []) number lists (set lists list (own ++ number ∷ []))
  added_one list own inside is = record {
    count = length-set lists list row;
    each = λ n m less. elim (cases_eq n list) [
      | inl same ↦ rw (same, get_or-set_same lists list row [] inside, is) (
        (λ there. elim (Contains-append_cases own (number ∷ []) m there) [
          | inl old ↦ inl old
          | inr new ↦ inr (first list [], sym (only number m new))
        ]),
        (λ either. elim either [
          | inl old ↦ Contains-append_left own (number ∷ []) m old
          | inr new ↦ subst (Contains row) (sym new.1) (Contains-push own number)
        ]),
      )
      | inr other ↦ rw (get_or-set_other lists list n row [] other) (
        (λ there. inl there),
        (λ either. elim either [
          | inl old ↦ old
          | inr new ↦ absurd (other (sym (only list n new.0)))
        ]),
      )
    ];
  }
    where
      row : List ℕ
      row = own ++ number ∷ []

  -- there is no such list
  pub added_past : (list : ℕ) → length lists ≤ list → IsAddedTo (list ∷ []) number lists lists
  added_past list past = record {
    count = refl;
    each = λ n m less. (
      (λ there. inl there),
      (λ either. elim either [
        | inl old ↦ old
        | inr new ↦ absurd (omega (arith, past, less, only list n new.0))
      ]),
    );
  }

  pub added_none : IsAddedTo [] number lists lists
  added_none = record {
    count = refl;
    each = λ n m less. (
      (λ there. inl there),
      (λ either. elim either [
        | inl old ↦ old
        | inr new ↦ absurd (nothing n new.0)
      ]),
    );
  }

  -- to one list more
  pub added_more : (mid after : List (List ℕ)) (some : List ℕ) (list : ℕ) →
      IsAddedTo some number lists mid → IsAddedTo (list ∷ []) number mid after →
      IsAddedTo (some ++ list ∷ []) number lists after
  added_more mid after some list one two = record {
    count = two.count ∙ one.count;
    each = λ n m less.
        let last = two.each n m (omega (arith, less, one.count)) in
        let before = one.each n m less in (
          (λ there. elim (last.0 there) [
            | inl old ↦ elim (before.0 old) [
              | inl older ↦ inl older
              | inr new ↦ inr (Contains-append_left some (list ∷ []) n new.0, new.1)
            ]
            | inr new ↦ inr (subst (Contains (some ++ list ∷ [])) (only list n new.0) (Contains-push some list), new.1)
          ]),
          (λ either. elim either [
            | inl older ↦ last.1 (inl (before.1 (inl older)))
            | inr new ↦ elim (Contains-append_cases some (list ∷ []) n new.0) [
              | inl own ↦ last.1 (inl (before.1 (inr (own, new.1))))
              | inr own ↦ last.1 (inr (own, new.1))
            ]
          ]),
        );
  }

module _ (nodes : List Flow) where
  -- the first k nodes are among those that come before others
  pub record AreBeforeOf (k : ℕ) (before : List (List ℕ)) : Type 0 where
    pub count : length before ≡ length nodes
    pub each : (n m : ℕ) → n < length nodes →
        Contains (slice_index_or before n []) m ↔ ((m < k) × Contains (next_of nodes m) n)

  pub before_none : (before : List (List ℕ)) → before ≡ replicate (length nodes) [] → AreBeforeOf 0 before
  before_none before are = record {
    count = ap length are ∙ length-replicate (length nodes) [];
    each = λ n m less. rw (are, get_or-replicate {A = List ℕ} (length nodes) n [] [] less) (
      (λ there. absurd (nothing m there)),
      (λ early. absurd (omega (arith, early.0))),
    );
  }

  pub before_more : (k : ℕ) (before after : List (List ℕ)) → AreBeforeOf k before →
      IsAddedTo (next_of nodes k) k before after → AreBeforeOf (k + 1) after
  before_more k before after are added = record {
    count = added.count ∙ are.count;
    each = λ n m less.
        let last = added.each n m (omega (arith, less, are.count)) in
        let old = are.each n m less in (
          (λ there. elim (last.0 there) [
            | inl earlier ↦ let is = old.0 earlier in (omega (arith, is.0), is.1)
            | inr new ↦ (omega (arith, new.1), subst (λ j. Contains (next_of nodes j) n) (sym new.1) new.0)
          ]),
          (λ is. elim (cases_eq m k) [
            | inl same ↦ last.1 (inr (subst (λ j. Contains (next_of nodes j) n) same is.1, same))
            | inr other ↦ last.1 (inl (old.1 (omega (arith, is.0, other), is.1)))
          ]),
        );
  }

  pub before_all : (before : List (List ℕ)) → AreBeforeOf (length nodes) before → AreBefore nodes before
  before_all before are = record {
    count = are.count;
    each = λ n m less. (
      (λ there. ((are.each n m less).0 there).1),
      (λ there. (are.each n m less).1 (inside m n there, there)),
    );
  }
    where
      inside : (m n : ℕ) → Contains (next_of nodes m) n → m < length nodes
      inside m n there = elim (cases_lt m (length nodes)) [
        | inl less ↦ less
        | inr past ↦ absurd (nothing n (subst (λ list. Contains list n)
            (get_or_past (map (λ node. node.next.items) nodes) m []
            (omega (arith, past, length-map nodes (λ (node : Flow). node.next.items)))) there))
      ]

-- the list of one node more was copied
pub copied : (f : Flow → List ℕ) (nodes : List Flow) (k : ℕ) (d : Flow) (made : List (Vec ℕ Global)) (list : Vec ℕ Global)
    → k < length nodes → list.items ≡ f (get_or nodes k d) → lists_of made ≡ take k (map f nodes)
    → lists_of (made ++ list ∷ []) ≡ take (k + 1) (map f nodes)
copied f nodes k d made list less same so_far =
    let inside : k < length (map f nodes) = omega (arith, less, length-map nodes f) in
    map-append (λ (own : Vec ℕ Global). own.items) made (list ∷ [])
    ∙ ap (λ (xs : List (List ℕ)). xs ++ list.items ∷ []) so_far
    ∙ ap (λ (x : List ℕ). take k (map f nodes) ++ x ∷ []) (same ∙ sym (get_or-map f nodes k d [] less))
    ∙ sym (take_more (map f nodes) k [] inside)
