-- One node more has its immediate dominator, which the tree knows.
use Rattle.std.proofs.Common.{◌≡◌, ℕ, ◌<◌, ◌≤◌, ◌∙◌, inl, inr, length, get_or, set, ap, subst, sym, arith}
use Rattle.std.proofs.lemmas.Bool.{cases_eq}
use Rattle.std.proofs.lemmas.List.{get_or-set_other, get_or-set_same}
use Rattle.vob_flow.specs.Dominators.{IsImmediate}
use Rattle.vob_c.specs.Found.{found_below}
use Rattle.vob_c.proofs.DominatorLemmas.{immediate_is}
use Rattle.vob_c.proofs.dominators.write_immediate.Goals as goal

pub loop-node-preserved : goal.loop-node-preserved
loop-node-preserved c = λ before entry tree n less.
    let nodes = length c.args.immediate.now in
    let old = c.loop-node.immediate in
    let node = c.loop-node.node in
    let new = c.unwrap_or.result in
    elim (cases_eq n node) [
      | inl here ↦
          let value : get_or (set old node new) n 0 ≡ new =
          ap (λ m. get_or (set old node new) m 0) here
          ∙ get_or-set_same old node new 0 (omega (arith, c.loop-node.auto.immediate, c.loop-node-test.true)) in
          immediate_is before entry c.args.tree.now tree nodes c.requires n (get_or (set old node new) n 0)
          c.immediate.result (value ∙ c.unwrap_or.ensures)
          (subst (λ m. IsImmediate before entry m c.immediate.result) (sym here)
          (c.immediate.ensures before entry tree))
      | inr other ↦ subst (λ v. (v ≤ nodes) × IsImmediate before entry n (found_below nodes v))
          (sym (get_or-set_other old node n new 0 other))
          (c.loop-node.invariant before entry tree n (omega (arith, less, other)))
    ]

pub returns : goal.returns
returns c = λ lists before entry reversed tree.
    let same : length c.args.immediate.now ≡ length lists = c.requires ∙ tree.as_many ∙ reversed.count in
    let own : (n : ℕ) → n < length lists → (get_or c.loop-node.immediate n 0 ≤ length c.args.immediate.now)
    × IsImmediate before entry n (found_below (length c.args.immediate.now) (get_or c.loop-node.immediate n 0)) =
    λ n less. c.loop-node.invariant before entry tree n (omega (arith, less, same, c.loop-node-test.false)) in
    record {
      before = before;
      reversed = reversed;
      count = c.loop-node.auto.immediate ∙ same;
      most = λ n less. omega (arith, (own n less).0, same);
      each = λ n less. subst (λ k. IsImmediate before entry n (found_below k (get_or c.loop-node.immediate n 0)))
          same (own n less).1;
    }
