-- Liveness as sets that draw from one another.
use Rattle.std.proofs.Common.{◌≡◌, ◌↔◌, ◌⊎◌, ℕ, zero, suc, ◌+◌, ◌*◌, ◌<◌, ◌≤◌, Bool, true, not, inl, inr}
use Rattle.std.proofs.Common.{List, [], ◌∷◌, ◌++◌, length, map, get_or, Some, slice_get, refl, sym, ap, ◌∙◌, subst, arith}
use Rattle.std.specs.List.{Contains}
use Rattle.std.proofs.lemmas.Bool.{cases_eq, false≢true, false_from_ne_true, not-true, not_from_false}
use Rattle.std.proofs.lemmas.List.{nil_from_length}
use Rattle.std.proofs.lemmas.List.Elements.{Contains-append_left, Contains-append_right, Contains-append_cases}
use Rattle.std.proofs.lemmas.List.FromFn.{length-map-range_with_len}
use Rattle.std.proofs.lemmas.Option.{slice_get_within, slice_get-get_or}
use Rattle.vob_rows.specs.Graph.{ends_from, lists_from}
use Rattle.vob_block.specs.Packing.{item}
use Rattle.vob.specs.Vobs.{AreOfLength, total_count}
use Rattle.vob.proofs.BitsLemmas.{row_inside}
use Rattle.vob.proofs.VobsLemmas.{total_count_at_most}
use Rattle.vob_flow.specs.declared.live.Flow.{Flow}
use Rattle.vob_flow.specs.Changes.{Gets}
use Rattle.vob_flow.specs.Draws.{Comes, HaveShape, IsIn, IsInSome, IsTurn, TakePasses}
use Rattle.vob_flow.specs.Draws.Comes.{starts_in, drawn}
use Rattle.vob_flow.specs.Draws as Solved
use Rattle.vob_flow.specs.Gathered.{AreGathered}
use Rattle.vob_flow.specs.Live.{AreWithin, AreLiveSets, AreSets, IsLive, IsLiveNext, IsLiveHere, IsLiveTurn, IsSolution}
use Rattle.vob_flow.specs.LiveDraws.{AreEdges, IsFlowGraph, Names, Reads, Writes}
use Rattle.vob_flow.proofs.AnyLemmas.{Any-map, Any-same, edge_inside}
use Rattle.vob_flow.proofs.ChangesLemmas.{Gets-as}
use Rattle.vob_flow.proofs.LawLemmas.{element_at}
use Rattle.vob_flow.proofs.PassLemmas.{shape_long}
use Rattle.vob_flow.proofs.TurnsLemmas.{ArePasses-map}
use Rattle.vob_flow.proofs.UnderwayLemmas.{same_at}

-- ---- what a node names

pub names_at : (part : Flow → List ℕ) (nodes : List Flow) (n v : ℕ) (flow : Flow)
    → slice_get nodes n ≡ Some flow → Names part nodes n v ↔ Contains (part flow) v
names_at part nodes n v flow is = (
  (λ names. subst (λ (x : Flow). Contains (part x) v) (same_at nodes n n names.0 flow refl names.1 is) names.2),
  (λ within. (flow, is, within)),
)

pub names_inside : (part : Flow → List ℕ) (nodes : List Flow) (n v : ℕ) → Names part nodes n v
    → n < length nodes
names_inside part nodes n v names = slice_get_within nodes n names.0 names.1

pub Gets-named : (part : Flow → List ℕ) (nodes : List Flow) {sets after : List (List Bool)} (n : ℕ)
    (d : Flow) → n < length nodes → Gets sets n (Contains (part (get_or nodes n d))) after
    → Gets sets n (Names part nodes n) after
Gets-named part nodes n d less got = Gets-as (Names part nodes n) got (λ v.
    let names = names_at part nodes n v (get_or nodes n d) (slice_get-get_or nodes n d less) in
    (names.1, names.0))

-- what isn't written is kept
pub keeps_others : (nodes : List Flow) (sets : List (List Bool))
    → ((n v : ℕ) → IsIn sets n v ↔ Writes nodes n v) → (n v : ℕ)
    → (not (item (get_or sets n []) v) ≡ true) ↔ (¬ Writes nodes n v)
keeps_others nodes sets written n v = (
  (λ keeps writes. false≢true (sym (not-true _ keeps) ∙ (written n v).1 writes)),
  (λ none. not_from_false _ (false_from_ne_true _ (λ on. none ((written n v).0 on)))),
)

-- ---- the edges of a flow graph

pub edges_none : (nodes : List Flow) → AreEdges nodes 0 []
edges_none nodes n m =
    ((λ h. absurd (omega (arith, h.1))), (λ h. absurd (omega (arith, h.0))))

cons_cases : {X : Type 0} (x z : X) (xs : List X) (k : ℕ) → k < length (x ∷ xs) → get_or (x ∷ xs) k z ≡ z
    → (x ≡ z) ⊎ Contains xs z
cons_cases x z xs zero less e = inl e
cons_cases x z xs (suc k) less e = inr (k, omega arith, e)

-- those from one node
pairs_have : (ends : List ℕ) (node n m : ℕ)
    → Contains {X = ℕ × ℕ} (map (λ end. (node, end)) ends) (n, m) ↔ ((n ≡ node) × Contains ends m)
pairs_have [] node n m = ((λ h. absurd (omega (arith, h.1))), (λ h. absurd (omega (arith, h.1.1))))
pairs_have (x ∷ xs) node n m =
    let so_far = pairs_have xs node n m in
    let rest : List (ℕ × ℕ) = map (λ end. (node, end)) xs in (
      (λ h. elim (cons_cases (node, x) (n, m) rest h.0 h.1 h.2) [
        | inl here ↦ (sym (ap (λ p. p.0) here), (0, omega arith, ap (λ p. p.1) here))
        | inr later ↦ let old = so_far.0 later in
            (old.0, (suc old.1.0, omega (arith, old.1.1), old.1.2))
      ]),
      (λ h. elim (cons_cases x m xs h.1.0 h.1.1 h.1.2) [
        | inl here ↦ (0, omega arith, (λ k. (sym h.0 k, here k)))
        | inr later ↦ let old = so_far.1 (h.0, later) in (suc old.0, omega (arith, old.1), old.2)
      ]),
    )

pub edges_more : (nodes : List Flow) (k : ℕ) (flow : Flow) (edges after : List (ℕ × ℕ))
    → AreEdges nodes k edges → slice_get nodes k ≡ Some flow
    → after ≡ edges ++ map (λ end. (k, end)) flow.next.items → AreEdges nodes (k + 1) after
edges_more nodes k flow edges after h is all n m =
    let pairs : List (ℕ × ℕ) = map (λ end. (k, end)) flow.next.items in (
      (λ there. elim (Contains-append_cases edges pairs (n, m)
          (subst (λ (es : List (ℕ × ℕ)). Contains es (n, m)) all there)) [
            | inl old ↦ let was = (h n m).0 old in (omega (arith, was.0), was.1)
            | inr new ↦
                let here = (pairs_have flow.next.items k n m).0 new in
                (omega (arith, here.0), (flow, ap (slice_get nodes) here.0 ∙ is, here.1))
          ]),
      (λ there. subst (λ (es : List (ℕ × ℕ)). Contains es (n, m)) (sym all) (elim (cases_eq n k) [
        | inl here ↦ Contains-append_right edges pairs (n, m) ((pairs_have flow.next.items k n m).1 (
          here,
          subst (λ (x : Flow). Contains x.next.items m)
              (same_at nodes n k there.1.0 flow here there.1.1 is) there.1.2,
        ))
        | inr other ↦ Contains-append_left edges pairs (n, m)
            ((h n m).1 (omega (arith, there.0, other), there.1))
      ])),
    )

pub IsFlowGraph-edges : (nodes : List Flow) (edges : List (ℕ × ℕ)) (next : List (List ℕ))
    → AreEdges nodes (length nodes) edges → next ≡ lists_from (length nodes) edges
    → ((n m : ℕ) → n < length nodes → Contains (get_or next n []) m ↔ Contains edges (n, m))
    → IsFlowGraph nodes next
IsFlowGraph-edges nodes edges next h is each =
    let count : length next ≡ length nodes =
    ap length is ∙ length-map-range_with_len (ends_from edges) 0 (length nodes) in
    record {
      count = count;
      each = λ n m. (
        (λ within. ((h n m).0 ((each n m (omega (arith, edge_inside next n m within, count))).0 within)).1),
        (λ leads.
            let less = names_inside (λ flow. flow.next.items) nodes n m leads in
            (each n m less).1 ((h n m).1 (less, leads))),
      );
    }

-- ---- the least sets that draw so are live

module _ (vars : ℕ) (nodes : List Flow) (next : List (List ℕ)) (mask : ℕ → ℕ → Bool)
    (reads : List (List Bool)) (graph : IsFlowGraph nodes next) (sets : AreSets vars (length nodes) reads)
    (read_is : (n v : ℕ) → IsIn reads n v ↔ Reads nodes n v)
    (keeps : (n v : ℕ) → (mask n v ≡ true) ↔ (¬ Writes nodes n v)) where
  read_at : (n : ℕ) (flow : Flow) → slice_get nodes n ≡ Some flow → (v : ℕ)
      → IsIn reads n v ↔ Contains flow.reads.items v
  read_at n flow is v =
      let names = names_at (λ flow. flow.reads.items) nodes n v flow is in
      ((λ e. names.0 ((read_is n v).0 e)), (λ within. (read_is n v).1 (names.1 within)))

  keeps_at : (n : ℕ) (flow : Flow) → slice_get nodes n ≡ Some flow → (v : ℕ)
      → (mask n v ≡ true) ↔ (¬ Contains flow.writes.items v)
  keeps_at n flow is v =
      let names = names_at (λ flow. flow.writes.items) nodes n v flow is in (
        (λ e within. (keeps n v).0 e (names.1 within)),
        (λ none. (keeps n v).1 (λ writes. none (names.0 writes))),
      )

  -- in some set that an edge leads to
  some_at : (n : ℕ) (flow : Flow) → slice_get nodes n ≡ Some flow → (others : List (List Bool)) (v : ℕ)
      → IsInSome others (get_or next n []) v ↔ IsLiveNext others flow v
  some_at n flow is others v = Any-same (λ m. IsIn others m v) (get_or next n []) flow.next.items (λ m.
      let names = names_at (λ flow. flow.next.items) nodes n m flow is in
      ((λ e. names.0 ((graph.each n m).0 e)), (λ within. (graph.each n m).1 (names.1 within))))

  live_turn : (n : ℕ) {others after : List (List Bool)} → IsTurn next mask n others after →
      IsLiveTurn nodes n others after
  live_turn n {others} {after} turn = record {
    shape = turn.shape;
    here = λ v flow is. (
      (λ e. elim ((turn.here v).0 e) [
        | inl old ↦ inl old
        | inr new ↦ inr ((some_at n flow is others v).0 new.1, (keeps_at n flow is v).0 new.0)
      ]),
      (λ either. (turn.here v).1 (elim either [
        | inl old ↦ inl old
        | inr new ↦ inr ((keeps_at n flow is v).1 new.1, (some_at n flow is others v).1 new.0)
      ])),
    );
    others = turn.others;
  }

  module _ (before after : List (List Bool)) (least : Solved.AreLeast next mask reads before)
      (g : AreGathered next before after) where
    after_is : (n : ℕ) (flow : Flow) → slice_get nodes n ≡ Some flow → (v : ℕ) →
        IsLive after n v ↔ IsLiveNext before flow v
    after_is n flow is v =
        let some = some_at n flow is before v in
        ((λ e. some.0 ((g.each n v).0 e)), (λ live. (g.each n v).1 (some.1 live)))

    before_is : (n : ℕ) (flow : Flow) → slice_get nodes n ≡ Some flow → (v : ℕ) →
        IsLive before n v ↔ IsLiveHere after flow n v
    before_is n flow is v = (
      (λ live. elim ((least.solution.meets n v).0 live) [
        | inl first ↦ inl ((read_at n flow is v).0 first)
        | inr new ↦ inr ((g.each n v).1 new.1, (keeps_at n flow is v).0 new.0)
      ]),
      (λ either. (least.solution.meets n v).1 (elim either [
        | inl read ↦ inl ((read_at n flow is v).1 read)
        | inr kept ↦ inr ((keeps_at n flow is v).1 kept.1, (g.each n v).0 kept.0)
      ])),
    )

    module _ (others others_after : List (List Bool))
        (s : IsSolution vars nodes others others_after) where
      come_in : {n v : ℕ} → Comes next mask reads n v → IsIn others n v
      come_in {n} {v} (starts_in e) =
          let reads = (read_is n v).0 e in
          (s.before_is n reads.0 reads.1 v).1 (inl reads.2)
      come_in {n} {v} (drawn {m = m} kept within c) =
          let leads = (graph.each n m).0 within in
          let flow = leads.0 in
          (s.before_is n flow leads.1 v).1 (inr (
            (s.after_is n flow leads.1 v).1
                (leads.2.0, m, leads.2.1, leads.2.2, come_in c),
            (keeps_at n flow leads.1 v).0 kept,
          ))

      before_within : AreWithin before others
      before_within n v e = come_in (least.least n v e)

      after_within : AreWithin after others_after
      after_within n v e =
          let flow = element_at nodes n (omega (arith, row_inside after n v e, g.count, graph.count)) in
          (s.after_is n flow.0 flow.1 v).1
          (Any-map (λ m. IsLive before m v) (λ m. IsLive others m v) flow.0.next.items
          (λ m in_m. before_within m v in_m) ((after_is n flow.0 flow.1 v).0 e))

    before_sets : AreSets vars (length nodes) before
    before_sets = record {
      count = least.solution.shape.count ∙ sets.count;
      long = shape_long vars reads before least.solution.shape sets.long;
    }

    pub AreLive-least : AreOfLength vars after → (rounds : ℕ)
        → TakePasses next mask reads before rounds → AreLiveSets vars nodes before after rounds
    AreLive-least after_long rounds passes =
        let most = total_count_at_most vars before before_sets.long in
        let fit : total_count before ≤ length nodes * vars = rw (sym before_sets.count) most in
        record {
          solution = record {
            before_sets = before_sets;
            after_sets = record { count = g.count ∙ graph.count; long = after_long };
            before_is = before_is;
            after_is = after_is;
          };
          least = λ others others_after s. (before_within others others_after s, after_within others others_after s);
          rounds = omega (arith, passes.most, fit);
          no_round = λ none. nil_from_length nodes (sym sets.count ∙ ap length (passes.no_pass none));
          one_round = λ one n flow is v live. (read_at n flow is v).0
              (subst (λ (xs : List (List Bool)). IsIn xs n v) (passes.one_pass one) live);
          count = λ some. record {
            reads = reads;
            are_reads = record { are_sets = sets; each = read_at };
            passes = ArePasses-map (λ sets. sets) (λ _. Unit {0}) (λ n sets others p turn. tt)
                (λ n sets others p turn. live_turn n turn) (λ sets others p q e. e) tt refl
                (passes.count some);
          };
        }
