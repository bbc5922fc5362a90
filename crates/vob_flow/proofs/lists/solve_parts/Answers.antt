-- One part more is solved.
use Rattle.std.proofs.Common.{◌≡◌, ◌∙◌, ℕ, Vec, Global, [], ◌++◌, drop, length, replicate, ap, subst, arith}
use Rattle.std.proofs.lemmas.List.{length-append, length-map, length-take-le}
use Rattle.vob_rows.specs.Sparse.{members}
use Rattle.vob_flow.specs.Lists.{keeps, lists_of, sets_of}
use Rattle.vob_flow.specs.Parts.{AreSolvedBelow}
use Rattle.vob_flow.specs.Touched.{AreTouched}
use Rattle.vob_flow.proofs.BesideLemmas.{below_more, below_none}
use Rattle.vob_flow.proofs.TouchedLemmas.{AreTouched-spread, far_apart, near_none}
use Rattle.vob_flow.proofs.lists.solve_parts.Goals as goal
use Rattle.vob_flow.proofs.lists.solve_parts.Goals.{In_ok-touched}

touched : (c : In_ok-touched) → AreTouched c.args.paths c.args.graph.now (lists_of c.args.lists.now.generates.now)
    c.parts.start c.min-count.result c.in_ok-touched.touched.items
touched c = AreTouched-spread _ _ _ _ _ _ _ _ (omega (arith, c.parts.invariant.inside, c.min-count.ensures))
    c.in_ok-spread.ensures (rw c.nodes-nodes.ensures.count at c.in_ok-touched.ensures)

pub solve_part-requires-clause-touched : goal.solve_part-requires-clause-touched
solve_part-requires-clause-touched c = rw c.deref.ensures.value (touched (goal.at.solve_part-requires-clause-touched c).In_ok-touched)

pub widened-requires-clause-inside : goal.widened-requires-clause-inside
widened-requires-clause-inside c =
    let t = touched (goal.at.widened-requires-clause-inside c).In_ok-touched in
    let h = c.parts.invariant.solved in
    rw c.deref-in-parts.ensures.value
    (λ k d less. omega (arith, t.inside k d less, ap length h.near_is, length-map h.near_sets members, h.near_hold.count_is))

pub widened-requires-in-parts-clause-inside : goal.widened-requires-in-parts-clause-inside
widened-requires-in-parts-clause-inside c =
    let t = touched (goal.at.widened-requires-in-parts-clause-inside c).In_ok-touched in
    let h = c.parts.invariant.solved in
    rw c.deref-in-parts-2.ensures.value
    (λ k d less. omega (arith, t.inside k d less, ap length h.far_is, length-map h.far_sets members, h.far_hold.count_is))

pub parts-init : goal.parts-init
parts-init c =
    let count = c.nodes-nodes.ensures.count in record {
      inside = omega arith;
      places = omega (arith, c.resize.new.self.ok.0, c.in_ok-resize.ensures.len, count);
      solved = below_none _ _ _ _ _ _ (c.in_ok-near.ensures.rows ∙ ap (λ n. replicate n []) count)
          c.in_ok-near.ensures.columns (c.in_ok-far.ensures.rows ∙ ap (λ n. replicate n []) count)
          c.in_ok-far.ensures.columns;
    }

pub parts-preserved : goal.parts-preserved
parts-preserved c =
    let before = c.parts.invariant in
    let part = c.in_ok-part.ensures in
    let t = touched (goal.at.parts-preserved c).In_ok-touched in
    let lists = c.args.lists.now in
    let fit = length-map lists.generates.now (λ (v : Vec ℕ Global). v.items) ∙ c.requires.fit.generates in
    let lead = rw c.nodes-nodes.ensures.count at c.nodes-nodes.ensures.inside in
    let new = c.solve_part.new.places in
    let old = c.parts.places.items in
    let long : length new ≡ length old = part.places ∙ ap length c.deref_mut.ensures.value in record {
      inside = omega (arith, before.inside, c.min-count.ensures);
      places = length-take-le c.parts.places.len (new ++ drop (length new) old)
          (omega (arith, length-append new (drop (length new) old), long, c.parts.places.ok.0))
          ∙ omega (arith, c.parts.places.ok.0, before.places);
      solved = below_more _ _ _ _ c.parts.start c.min-count.result c.in_ok-touched.touched.items _ _ _ _ _ _ t.rise before.solved
          (rw c.deref.ensures.value at part.near) (rw c.deref.ensures.value at part.far)
          (λ n j node none low. near_none c.args.paths c.args.graph.now _ lists.places (lists_of lists.generates.now)
          c.parts.start c.min-count.result _ fit lead t n j node none low)
          (λ n j node none low. far_apart c.args.paths c.args.graph.now _ lists.places (lists_of lists.generates.now)
          c.parts.start c.min-count.result _ fit lead t n j node none low)
          part.near_columns part.far_columns (rw c.deref-in-parts.ensures.value at c.in_ok-near-2.ensures)
          (rw c.deref-in-parts-2.ensures.value at c.in_ok-far-2.ensures);
    }

pub returns : goal.returns
returns c = subst (λ columns. AreSolvedBelow c.args.graph.now
    (keeps (lists_of c.args.lists.now.by_variable.now) (lists_of c.args.lists.now.writes.now))
    (sets_of c.args.lists.now.places (lists_of c.args.lists.now.generates.now)) c.args.paths columns
    c.parts.near c.parts.far) (omega (arith, c.parts-test.false, c.parts.invariant.inside)) c.parts.invariant.solved
