-- The definitions of a flow graph, by node and by variable.
use Rattle.std.specs.Prelude.{◌↔◌, Contains, Some, slice_get}
use Rattle.std.specs.List.{flat_map, range_with_len}
use Rattle.std.proofs.Common.{◌≡◌, ℕ, ◌+◌, ◌<◌, inl, inr, List, [], ◌∷◌, ◌++◌, length, replicate, slice_index_or, sym, ap, subst, ◌∙◌, arith}
use Rattle.std.proofs.lemmas.Bool.{cases_eq}
use Rattle.std.proofs.lemmas.List.{append-nil, get_or-replicate, map-id, length-replicate}
use Rattle.std.proofs.lemmas.List.Concat.{flat_map-append}
use Rattle.std.proofs.lemmas.List.FromFn.{map-range_with_len_more}
use Rattle.std.proofs.lemmas.Option.{slice_get_within}
use Rattle.vob_flow.specs.declared.live.Flow.{Flow}
use Rattle.files_flow.specs.Definitions.{AreGrouped, definitions_at, writes_of}
use Rattle.files_flow.specs.Problems.{IsAddedTo}
use Rattle.files_text.proofs.ListLemmas.{first, nothing}
use Rattle.files_flow.proofs.ProblemLemmas.{only}

module _ (count : ℕ) (keys : List ℕ) where
  -- the first keys stand in the lists
  pub record AreGroupedBelow (k : ℕ) (lists : List (List ℕ)) : Type 0 where
    pub many : length lists ≡ count
    pub each : (n j : ℕ) → n < count →
        Contains (slice_index_or lists n []) j ↔ ((j < k) × (slice_get keys j ≡ Some n))

  pub grouped_none : (lists : List (List ℕ)) → lists ≡ replicate count [] → AreGroupedBelow 0 lists
  grouped_none lists are = record {
    many = ap length are ∙ length-replicate count [];
    each = λ n j less. rw (are, get_or-replicate {A = List ℕ} count n [] [] less) (
      (λ there. absurd (nothing j there)),
      (λ early. absurd (omega (arith, early.0))),
    );
  }

  pub grouped_more : (k key : ℕ) (lists after : List (List ℕ)) → slice_get keys k ≡ Some key →
      AreGroupedBelow k lists → IsAddedTo (key ∷ []) k lists after → AreGroupedBelow (k + 1) after
  grouped_more k key lists after is are added = record {
    many = added.count ∙ are.many;
    each = λ n j less.
        let last = added.each n j (omega (arith, less, are.many)) in
        let old = are.each n j less in (
          (λ there. elim (last.0 there) [
            | inl earlier ↦ let found = old.0 earlier in (omega (arith, found.0), found.1)
            | inr new ↦ (omega (arith, new.1), rw (new.1, is) (ap Some (only key n new.0)))
          ]),
          (λ found. elim (cases_eq j k) [
            | inl same ↦
                let own : key ≡ n = cc (found.1, is, same) in
                last.1 (inr (subst (Contains (key ∷ [])) own (first key []), same))
            | inr other ↦ last.1 (inl (old.1 (omega (arith, found.0, other), found.1)))
          ]),
        );
  }

  pub grouped_all : (lists : List (List ℕ)) → AreGroupedBelow (length keys) lists → AreGrouped count keys lists
  grouped_all lists are = record {
    many = are.many;
    each = λ n j less. (
      (λ there. ((are.each n j less).0 there).1),
      (λ is. (are.each n j less).1 (slice_get_within keys j n is, is)),
    );
  }

range-more : (n : ℕ) → range_with_len 0 (n + 1) ≡ range_with_len 0 n ++ n ∷ []
range-more n = sym (map-id (range_with_len 0 (n + 1)))
    ∙ map-range_with_len_more (λ (x : ℕ). x) 0 n n (omega arith)
    ∙ ap (λ xs. xs ++ n ∷ []) (map-id (range_with_len 0 n))

-- the definitions of one node more
pub definitions_more : (nodes : List Flow) (n : ℕ) (made after : List (ℕ × ℕ)) →
    made ≡ flat_map (λ m. definitions_at m (writes_of nodes m)) (range_with_len 0 n) →
    after ≡ made ++ definitions_at n (writes_of nodes n) →
    after ≡ flat_map (λ m. definitions_at m (writes_of nodes m)) (range_with_len 0 (n + 1))
definitions_more nodes n made after is more =
    let own = λ (m : ℕ). definitions_at m (writes_of nodes m) in
    more ∙ ap (λ xs. xs ++ own n) is
    ∙ ap (λ xs. flat_map own (range_with_len 0 n) ++ xs) (sym (append-nil (own n)))
    ∙ sym (flat_map-append own (range_with_len 0 n) (n ∷ []))
    ∙ ap (flat_map own) (sym (range-more n))
