-- One set more has its numbers.
use Rattle.std.proofs.Common.{◌≡◌, ◌<◌, ◌+◌, ◌∙◌, ℕ, Vec, Global, [], Contains, length, get_or, map, ap, sym, arith}
use Rattle.std.proofs.lemmas.List.{get_or-map, length-map}
use Rattle.vob_flow.specs.Lists.{lists_of}
use Rattle.vob_flow.specs.Parts.{chosen}
use Rattle.vob_flow.proofs.AnyLemmas.{edge_inside}
use Rattle.vob_flow.proofs.BlankLemmas.{blank_some}
use Rattle.vob_flow.proofs.ChangesLemmas.{EachGets-next}
use Rattle.vob_flow.proofs.lists.chosen_sets.Goals as goal
use Rattle.vob_flow.proofs.lists.chosen_sets.Goals.{After-deref}

list_is : (c : After-deref) → c.deref.result.now ≡ chosen (lists_of c.args.lists.now) c.args.nodes.now c.loop-set.set
list_is c =
    let items = λ (v : Vec ℕ Global). v.items in
    let n = get_or c.args.nodes.now c.loop-set.set 0 in
    let node : n < length c.args.lists.now = c.requires.inside c.loop-set.set 0 c.loop-set-test.true in
    c.deref.ensures.value ∙ ap items c.index-lists-nodes.is
    ∙ sym (get_or-map items c.args.lists.now n c.index-lists-nodes.result [] node)
    ∙ sym (get_or-map (λ n. get_or (lists_of c.args.lists.now) n []) c.args.nodes.now c.loop-set.set 0 [] c.loop-set-test.true)

pub loop-set-preserved : goal.loop-set-preserved
loop-set-preserved c = (
  EachGets-next (λ i j. (j < c.args.count) × Contains (chosen (lists_of c.args.lists.now) c.args.nodes.now i) (c.args.start + j))
      c.loop-set.invariant.0 (rw (c.loop-set.invariant.1, list_is (goal.at.loop-set-preserved c).After-deref) at c.add_part.ensures.got),
  c.add_part.ensures.columns ∙ c.loop-set.invariant.1,
)

pub returns-clause-each : goal.returns-clause-each
returns-clause-each c =
    let all : c.loop-set.set ≡ length c.args.nodes.now = omega (arith, c.loop-set-test.false, c.loop-set.auto.set-end) in
    blank_some c.args.rows c.args.count (length c.args.nodes.now) _ (rw all at c.loop-set.invariant.0) (λ i j both. omega (
      arith,
      edge_inside (map (λ n. get_or (lists_of c.args.lists.now) n []) c.args.nodes.now) i _ both.1,
      length-map c.args.nodes.now (λ n. get_or (lists_of c.args.lists.now) n []),
    ))
