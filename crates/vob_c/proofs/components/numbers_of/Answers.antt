-- One root more has a number.
use Rattle.std.proofs.Common.{◌≡◌, ◌-◌, ◌+◌, ◌<◌, ◌∙◌, length, get_or, ap, subst, arith}
use Rattle.std.proofs.lemmas.List.{get_or_default}
use Rattle.vob_c.specs.Components.{HaveNumbers, IsGiven, root_at}
use Rattle.vob_c.proofs.ComponentLemmas.{one_more}
use Rattle.vob_c.proofs.components.numbers_of.Goals as goal

pub loop-step-preserved : goal.loop-step-preserved
loop-step-preserved c =
    let lists = c.args.graph.now in
    let roots = c.args.found.now.roots.items in
    let nodes = c.args.found.now.nodes.items in
    let step = c.loop-step.step in
    let k = length nodes - 1 - step in
    let old = c.loop-step.numbers.items in
    let new = c.give_number-count.new.numbers.items in
    let whole : c.args.found.now.nodes.len ≡ length nodes = c.args.found.now.nodes.ok.0 in
    let there : k < length nodes = omega (arith, c.loop-step-test.true, c.len-step-end.ensures, whole) in
    let node_is : c.index-node.result.now ≡ get_or nodes k 0 =
    c.index-node.ensures ∙ ap (λ n. get_or nodes (n - 1 - step) c.index-node.result.now) (c.len.ensures ∙ whole)
    ∙ get_or_default nodes k c.index-node.result.now 0 there in
    let root_is : c.index.result.now ≡ root_at roots nodes k =
    c.index.ensures ∙ ap (λ n. get_or roots n c.index.result.now) node_is
    ∙ get_or_default roots (get_or nodes k 0) c.index.result.now 0
    (omega (arith, c.requires.count, c.requires.inside k there)) in
    let more : length nodes - step ≡ k + 1 = omega (arith, there) in
    let next : k ≡ length nodes - (step + 1) = omega arith in
    subst (λ m. HaveNumbers lists roots nodes m new c.give_number-count.result) next
    (one_more lists c.args.found.now c.requires k there old c.loop-step.count
    (subst (λ m. HaveNumbers lists roots nodes m old c.loop-step.count) more c.loop-step.invariant) new
    c.give_number-count.result
    (subst (λ r. IsGiven old r c.loop-step.count new c.give_number-count.result) root_is
    c.give_number-count.ensures))

pub returns : goal.returns
returns c =
    let lists = c.args.graph.now in
    let found = c.args.found.now in
    let whole : found.nodes.len ≡ length found.nodes.items = found.nodes.ok.0 in
    let none : length found.nodes.items - c.loop-step.step ≡ 0 =
    omega (arith, c.loop-step-test.false, c.len-step-end.ensures, whole) in
    subst (λ m. HaveNumbers lists found.roots.items found.nodes.items m c.loop-step.numbers.items
    c.loop-step.count) none c.loop-step.invariant
