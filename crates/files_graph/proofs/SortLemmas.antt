-- Edges that are sorted, where each stands once.
use Rattle.std.proofs.Common.{◌≡◌, ◌↔◌, ◌<◌, ◌⊎◌, ℕ, Bool, true, ◌&&◌, ◌==◌, List, Ordering, Less, Equal, Greater, nat_cmp, is_gt, ap, subst, inl, inr}
use Rattle.std.specs.Cmp.{IsEquivalence, IsTotalOrder, and_equiv, nat_eq_equiv, on_equiv, both_tied, nat_cmp_total, on_total, ranks, then_total, unsigned_ties}
use Rattle.std.specs.Ordering.{MatchOrdering, eq_by_cmp, ordering_then}
use Rattle.std.specs.Prelude.{IsSorted}
use Rattle.std.specs.List.{AllPairs, Contains, dedup}
use Rattle.std.proofs.lemmas.Bool.{and_parts, eqb-true, true≢false}
use Rattle.std.proofs.lemmas.List.Kept.{Contains-dedup, Contains-from_dedup, IsStrictlySortedBy-dedup}
use Rattle.std.proofs.lemmas.Map.Keys.{Less-from_sorted}
use Rattle.files_graph.specs.ClosureText.{IsBefore}

abbrev pub edge_cmp : ℕ × ℕ → ℕ × ℕ → Ordering
edge_cmp x y = ordering_then (nat_cmp x.0 y.0) (nat_cmp x.1 y.1)

abbrev pub edge_eq : ℕ × ℕ → ℕ × ℕ → Bool
edge_eq x y = (x.0 == y.0) && (x.1 == y.1)

total : IsTotalOrder edge_cmp
total = then_total (on_total (λ (x : ℕ × ℕ). x.0) nat_cmp_total) (on_total (λ (x : ℕ × ℕ). x.1) nat_cmp_total)

ties : (x y : ℕ × ℕ) → edge_eq x y ≡ eq_by_cmp edge_cmp x y
ties x y = both_tied _ _ _ _ (unsigned_ties x.0 y.0) (unsigned_ties x.1 y.1)

rank : (r s : Ordering) (a b c d : ℕ) → MatchOrdering r (a < b) (a ≡ b) (b < a) →
    MatchOrdering s (c < d) (c ≡ d) (d < c) → ordering_then r s ≡ Less → (a < b) ⊎ ((a ≡ b) × (c < d))
rank Less s a b c d first second is = inl first
rank Equal s a b c d first second is = inr (first, subst (λ r. MatchOrdering r (c < d) (c ≡ d) (d < c)) is second)
rank Greater s a b c d first second is = absurd (true≢false (ap is_gt is))

before : (x y : ℕ × ℕ) → edge_cmp x y ≡ Less → IsBefore x y
before x y is = rank (nat_cmp x.0 y.0) (nat_cmp x.1 y.1) x.0 y.0 x.1 y.1 (ranks x.0 y.0) (ranks x.1 y.1) is

pub dedup-order : (edges : List (ℕ × ℕ)) → IsSorted edge_cmp edges → AllPairs IsBefore (dedup edge_eq edges)
dedup-order edges sorted = λ i j d below inside.
    before _ _ (Less-from_sorted edge_cmp (dedup edge_eq edges) i j d
    (IsStrictlySortedBy-dedup total ties edges sorted) below inside)

equal : IsEquivalence edge_eq
equal = and_equiv (on_equiv (λ (x : ℕ × ℕ). x.0) nat_eq_equiv) (on_equiv (λ (x : ℕ × ℕ). x.1) nat_eq_equiv)

same : (x y : ℕ × ℕ) → edge_eq x y ≡ true → x ≡ y
same x y is =
    let parts = and_parts (x.0 == y.0) (x.1 == y.1) is in
    let firsts = eqb-true x.0 y.0 parts.0 in
    let seconds = eqb-true x.1 y.1 parts.1 in
    λ k. (firsts k, seconds k)

pub dedup-has : (edges : List (ℕ × ℕ)) (edge : ℕ × ℕ) → Contains edges edge ↔ Contains (dedup edge_eq edges) edge
dedup-has edges edge = (
  (λ there. Contains-dedup equal same edges edge there),
  (λ there. Contains-from_dedup edge_eq edges edge there),
)
