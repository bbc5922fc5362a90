-- The nodes from which edges lead to others.
use Rattle.std.specs.Prelude.{Contains}
use Rattle.std.proofs.Common.{◌≡◌, ℕ, ◌<◌, inl, inr, List, [], ◌∷◌, ◌++◌, length, get_or, Vec, Global, replicate, sym, ap, subst, ◌∙◌, arith}
use Rattle.std.proofs.lemmas.List.{get_or-replicate, length-map, length-replicate}
use Rattle.std.proofs.lemmas.List.Elements.{Contains-append_cases, Contains-append_left, Contains-get_or, Contains-push}
use Rattle.vob_rows.specs.Graph.{LeadToNodes}
use Rattle.files_dot.specs.Graphs.{AreNumbers, Part, nodes_of}
use Rattle.files_dot.proofs.PairLemmas.{pairs_join}
use Rattle.files_text.proofs.ListLemmas.{first, first_or_later, nothing}
use Rattle.files_flow.specs.DotFlows.{AreFrom, AreFromNames}
use Rattle.files_flow.specs.Problems.{IsAddedTo, lists_of}
use Rattle.files_flow.proofs.ProblemLemmas.{only}

module _ (count : ℕ) where
  pub from_none : (before : List (List ℕ)) → before ≡ replicate count [] → AreFrom count [] before
  from_none before are = record {
    many = ap length are ∙ length-replicate count [];
    each = λ n m less. rw (are, get_or-replicate {A = List ℕ} count n [] [] less) (
      (λ there. absurd (nothing m there)),
      (λ there. absurd (nothing (m, n) there)),
    );
  }

  -- an edge more
  pub from_more : (pairs : List (ℕ × ℕ)) (from to : ℕ) (before after : List (List ℕ)) → AreFrom count pairs before →
      IsAddedTo (to ∷ []) from before after → AreFrom count (pairs ++ (from, to) ∷ []) after
  from_more pairs from to before after are added = record {
    many = added.count ∙ are.many;
    each = λ n m less.
        let last = added.each n m (omega (arith, less, are.many)) in
        let old = are.each n m less in (
          (λ there. elim (last.0 there) [
            | inl earlier ↦ Contains-append_left pairs ((from, to) ∷ []) (m, n) (old.0 earlier)
            | inr new ↦
                subst (λ (pair : ℕ × ℕ). Contains (pairs ++ (from, to) ∷ []) pair) (pair_is n m (only to n new.0) new.1)
                (Contains-push pairs (from, to))
          ]),
          (λ there. elim (Contains-append_cases pairs ((from, to) ∷ []) (m, n) there) [
            | inl earlier ↦ last.1 (inl (old.1 earlier))
            | inr new ↦
                let same = only_pair n m new in
                last.1 (inr (
                  subst (Contains (to ∷ [])) (ap (λ (pair : ℕ × ℕ). pair.1) same) (first to []),
                  sym (ap (λ (pair : ℕ × ℕ). pair.0) same),
                ))
          ]),
        );
  }
    where
      pair_is : (n m : ℕ) → to ≡ n → m ≡ from → ◌≡◌ {A = ℕ × ℕ} (from, to) (m, n)
      pair_is n m same new = ap (λ k. (from, k)) same ∙ ap (λ k. (k, n)) (sym new)

      only_pair : (n m : ℕ) → Contains {X = ℕ × ℕ} ((from, to) ∷ []) (m, n) → ◌≡◌ {A = ℕ × ℕ} (from, to) (m, n)
      only_pair n m there =
          let one : ℕ × ℕ = (from, to) in
          let other : ℕ × ℕ = (m, n) in
          elim (first_or_later one [] other there) [
            | inl same ↦ same
            | inr later ↦ absurd (nothing other later)
          ]

-- the edges join nodes
module _ (count : ℕ) (pairs : List (ℕ × ℕ)) (inside : (n m : ℕ) → Contains pairs (n, m) → (n < count) × (m < count))
    (before : List (Vec ℕ Global)) (are : AreFrom count pairs (lists_of before)) where
  pub from_count : length before ≡ count
  from_count = sym (length-map before (λ (list : Vec ℕ Global). list.items)) ∙ are.many

  pub from_lead : LeadToNodes (lists_of before) (length before)
  from_lead n less j d inner =
      let list = get_or (lists_of before) n [] in
      let pair = (are.each n (get_or list j d) (omega (arith, less, from_count))).0 (Contains-get_or list j d inner) in
      omega (arith, (inside (get_or list j d) n pair).0, are.many)

-- by names
pub from_names : (part : Part) (names : List (List ℕ)) (pairs : List (ℕ × ℕ)) (before : List (List ℕ)) →
    names ≡ nodes_of part → AreNumbers names part.edges pairs → AreFrom (length names) pairs before →
    AreFromNames (nodes_of part) part.edges before
from_names part names pairs before named numbers are =
    subst (λ list. AreFromNames list part.edges before) named (record {
      many = are.many;
      each = λ n m less.
          let join = pairs_join part.mentions names part.edges pairs named numbers m n in
          let own = are.each n m less in
          ((λ there. join.0 (own.0 there)), (λ joins. own.1 (join.1 joins)));
    })
