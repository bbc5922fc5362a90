-- The least sets that solve the problem of live variables meet its equations.
use Rattle.std.specs.Prelude.{◌↔◌, All, Contains, Some, slice_get}
use Rattle.std.specs.List.{Any, range_with_len}
use Rattle.std.proofs.Common.{◌≡◌, ◌<◌, ◌≤◌, ℕ, Bool, true, inl, inr, List, [], ◌∷◌, length, map, get_or, Vec, Global, refl, sym, ap, subst, ◌∙◌, arith}
use Rattle.std.proofs.lemmas.Bool.{cases_lt, false≢true, false_from_ne_true, not-true, not_from_false}
use Rattle.std.proofs.lemmas.List.{get_or-map, get_or_default, get_or_past, length-map}
use Rattle.std.proofs.lemmas.List.FromFn.{get_or-map-range_with_len, length-map-range_with_len}
use Rattle.std.proofs.lemmas.Option.{get_or_from_slice_get, slice_get_cases, slice_get_within}
use Rattle.vob_block.proofs.PackingLemmas.{true_inside}
use Rattle.vob.proofs.BitsLemmas.{row_inside}
use Rattle.vob_flow.specs.Draws.{HaveShape, IsIn}
use Rattle.vob_flow.specs.Lists.{has, keeps, sets_of}
use Rattle.vob_flow.specs.LiveEquations.{AreLeastLive, AreSets, IsSolution}
use Rattle.vob_flow.specs.Reaching.{AreFlowing, AreReaching}
use Rattle.vob_flow.specs.declared.live.Flow.{Flow}
use Rattle.vob_flow.proofs.PartsLemmas.{any_is, has_is, sets_are, sets_count, sets_long}
use Rattle.vob_rows.specs.Sparse.{members}
use Rattle.files_flow.specs.declared.flow.FlowGraph.{FlowGraph}
use Rattle.files_flow.specs.declared.problem.Problem.{Problem}
use Rattle.files_flow.specs.FlowText.{ListsLive, ListsSolution, sides_text}
use Rattle.files_flow.specs.Problems.{IsLiveProblem, IsSound}
use Rattle.files_text.proofs.ListLemmas.{nothing}
use Rattle.files_flow.proofs.ProblemLemmas.{only}

-- the list of a node
module _ (f : Flow → List ℕ) (nodes : List Flow) where
  at_node : (n : ℕ) (flow : Flow) → slice_get nodes n ≡ Some flow → get_or (map f nodes) n [] ≡ f flow
  at_node n flow is = get_or-map f nodes n flow [] (slice_get_within nodes n flow is)
      ∙ ap f (get_or_from_slice_get nodes n flow flow is)

  at_none : (n : ℕ) → length nodes ≤ n → get_or (map f nodes) n [] ≡ []
  at_none n past = get_or_past (map f nodes) n [] (omega (arith, past, length-map nodes f))

module _ (vars : ℕ) (nodes : List Flow) (near far : List (List Bool)) where
  abbrev nexts : List (List ℕ)
  nexts = map (λ (node : Flow). node.next.items) nodes

  abbrev reads : List (List ℕ)
  reads = map (λ (node : Flow). node.reads.items) nodes

  abbrev writes : List (List ℕ)
  writes = map (λ (node : Flow). node.writes.items) nodes

  abbrev singles : List (List ℕ)
  singles = map (λ (x : ℕ). x ∷ []) (range_with_len 0 vars)

  single : (x : ℕ) → x < vars → get_or singles x [] ≡ x ∷ []
  single x less = get_or-map-range_with_len (λ (y : ℕ). y ∷ []) 0 vars x x [] less (omega arith)

  in_single : (x v : ℕ) → Contains (get_or singles x []) v → x ≡ v
  in_single x v within = elim (cases_lt x vars) [
    | inl less ↦ only x v (subst (λ list. Contains list v) (single x less) within)
    | inr past ↦ absurd (nothing v (subst (λ list. Contains list v)
        (get_or_past singles x [] (omega (arith, past, length-map-range_with_len (λ (y : ℕ). y ∷ []) 0 vars))) within))
  ]

  -- a node keeps what it doesn't write
  kept : (n : ℕ) (flow : Flow) → slice_get nodes n ≡ Some flow → (v : ℕ) → v < vars →
      (keeps singles writes n v ≡ true) ↔ (¬ Contains flow.writes.items v)
  kept n flow is v less =
      let own = at_node (λ node. node.writes.items) nodes n flow is in
      let p = λ (x : ℕ). has (get_or singles x []) v in
      let among = any_is p (get_or writes n []) in (
        (λ e within. false≢true (sym (not-true _ e) ∙ among.1 (
            let at = subst (λ list. Contains list v) (sym own) within in (
              at.0,
              v,
              at.1,
              at.2,
              (has_is (get_or singles v []) v).1
                  (subst (λ list. Contains list v) (sym (single v less)) (0, omega arith, refl)),
            ))
            )),
        (λ none. not_from_false _ (false_from_ne_true _ (λ on.
            let some = among.0 on in
            let same = in_single some.1 v ((has_is (get_or singles some.1 []) v).0 some.4) in
            none (subst (λ list. Contains list v) own (subst (Contains (get_or writes n [])) same
            (some.0, some.2, some.3)))))),
      )

  module _ (small : (n : ℕ) → n < length reads → All (λ v. v < vars) (get_or reads n []))
      (h : AreReaching nexts (keeps singles writes) (sets_of vars reads) near far) where
    long_of : {rows : List (List Bool)} → HaveShape (sets_of vars reads) rows → AreSets vars (length nodes) rows
    long_of {rows} shape = record {
      count = shape.count ∙ sets_count vars reads ∙ length-map nodes (λ (node : Flow). node.reads.items);
      long = λ n d less. ap length (get_or_default rows n d [] less) ∙ shape.long n
          ∙ sets_long vars reads n [] (omega (arith, less, shape.count));
    }

    inside : {rows : List (List Bool)} → AreSets vars (length nodes) rows → (n v : ℕ) → IsIn rows n v → v < vars
    inside {rows} sets n v e =
        let less = row_inside rows n v e in
        omega (arith, true_inside (get_or rows n []) v e, sets.long n [] less)

    read : (n : ℕ) (flow : Flow) → slice_get nodes n ≡ Some flow → (v : ℕ) →
        IsIn (sets_of vars reads) n v ↔ Contains flow.reads.items v
    read n flow is v =
        let own = at_node (λ node. node.reads.items) nodes n flow is in
        let sets = sets_are vars reads n v in (
          (λ e. subst (λ list. Contains list v) own (sets.0 e).1),
          (λ within.
              let at = subst (λ list. Contains list v) (sym own) within in
              let node : n < length reads = omega (arith, slice_get_within nodes n flow is, length-map nodes (λ (node : Flow). node.reads.items)) in
              sets.1 (subst (λ x. x < vars) at.2 (small n node at.0 v at.1), at)),
        )

    pub live_solution : IsSolution vars nodes far near
    live_solution = record {
      before_sets = long_of h.ends_shape;
      after_sets = long_of h.starts_shape;
      before_is = λ n flow is v. (
        (λ e. elim ((h.flowing.ends_are n v).0 e) [
          | inl start ↦ inl ((read n flow is v).0 start)
          | inr both ↦ inr (both.0, (kept n flow is v (inside (long_of h.starts_shape) n v both.0)).0 both.1)
        ]),
        (λ either. (h.flowing.ends_are n v).1 (elim either [
          | inl start ↦ inl ((read n flow is v).1 start)
          | inr both ↦ inr (both.0, (kept n flow is v (inside (long_of h.starts_shape) n v both.0)).1 both.1)
        ])),
      );
      after_is = λ n flow is v. subst (λ (from : List ℕ). IsIn near n v ↔ Any (λ m. IsIn far m v) from)
          (at_node (λ node. node.next.items) nodes n flow is) (h.flowing.starts_are.each n v);
    }

    pub live_least : AreLeastLive vars nodes far near
    live_least others others_after s =
        let within = h.least others_after others flowing in (within.1, within.0)
      where
        flowing : AreFlowing nexts (keeps singles writes) (sets_of vars reads) others_after others
        flowing = record {
          starts_are = record {
            count = s.after_sets.count ∙ sym (length-map nodes (λ (node : Flow). node.next.items));
            each = λ n v. elim (slice_get_cases nodes n).1 [
              | inl there ↦ subst (λ (from : List ℕ). IsIn others_after n v ↔ Any (λ m. IsIn others m v) from)
                  (sym (at_node (λ node. node.next.items) nodes n there.0 there.2)) (s.after_is n there.0 there.2 v)
              | inr past ↦ (
                (λ e. absurd (omega (arith, row_inside others_after n v e, s.after_sets.count, past.0))),
                (λ some. absurd (nothing some.1 (subst (λ list. Contains list some.1)
                    (at_none (λ node. node.next.items) nodes n past.0) (some.0, some.2, some.3)))),
              )
            ];
          };
          count = s.before_sets.count ∙ sym (sets_count vars reads ∙ length-map nodes (λ (node : Flow). node.reads.items));
          ends_are = λ n v. elim (slice_get_cases nodes n).1 [
            | inl there ↦
                let flow = there.0 in
                let is = there.2 in (
                  (λ e. elim ((s.before_is n flow is v).0 e) [
                    | inl start ↦ inl ((read n flow is v).1 start)
                    | inr both ↦ inr (both.0, (kept n flow is v (inside s.after_sets n v both.0)).1 both.1)
                  ]),
                  (λ either. (s.before_is n flow is v).1 (elim either [
                    | inl start ↦ inl ((read n flow is v).0 start)
                    | inr both ↦ inr (both.0, (kept n flow is v (inside s.after_sets n v both.0)).0 both.1)
                  ])),
                )
            | inr past ↦ (
              (λ e. absurd (omega (arith, row_inside others n v e, s.before_sets.count, past.0))),
              (λ either. elim either [
                | inl start ↦ absurd (omega (
                  arith,
                  row_inside (sets_of vars reads) n v start,
                  sets_count vars reads,
                  length-map nodes (λ (node : Flow). node.reads.items),
                  past.0,
                ))
                | inr both ↦ absurd (omega (arith, row_inside others_after n v both.0, s.after_sets.count, past.0))
              ]),
            )
          ];
        }

-- the lines of the problem's solution are those of live variables
pub lists_live : (json : Bool) (graph : FlowGraph) (problem : Problem) (text : List ℕ) →
    IsLiveProblem graph problem → IsSound problem → ListsSolution json graph.names problem text →
    ListsLive json graph text
lists_live json graph problem text is fit l =
    let places : length problem.labels.items ≡ length graph.variables =
    sym (length-map problem.labels.items (λ (v : Vec ℕ Global). v.items)) ∙ ap length is.labels in
    let h = rw (is.paths, is.from, is.by_variable, is.writes, is.generates, places) at l.solved.solved in
    let small = rw (places, is.generates) at fit.places in record {
      before = l.solved.far_sets;
      after = l.solved.near_sets;
      solution = live_solution (length graph.variables) graph.nodes.items _ _ (λ n less. small n [] less) h;
      least = live_least (length graph.variables) graph.nodes.items _ _ (λ n less. small n [] less) h;
      lines = (rw (is.backward, is.labels) at l.lines)
          ∙ ap (λ far. sides_text json graph.names graph.variables far l.near) l.solved.far_is
          ∙ ap (λ near. sides_text json graph.names graph.variables (map members l.solved.far_sets) near) l.solved.near_is;
    }
