-- One sum more has what is in its sets.
use Rattle.std.proofs.Common.{◌≡◌, ◌<◌, ◌∙◌, ℕ, Vec, Global, Any, [], length, get_or, map, ap, sym, arith}
use Rattle.std.proofs.lemmas.List.{get_or-map, length-map}
use Rattle.vob_flow.specs.Draws.{IsIn}
use Rattle.vob_flow.specs.Lists.{lists_of}
use Rattle.vob_flow.specs.Parts.{chosen}
use Rattle.vob_flow.specs.Touched.{place_in}
use Rattle.vob_flow.proofs.AnyLemmas.{edge_inside}
use Rattle.vob_flow.proofs.BlankLemmas.{blank_some}
use Rattle.vob_flow.proofs.ChangesLemmas.{EachGets-next}
use Rattle.vob_flow.proofs.lists.chosen_unions.Goals as goal
use Rattle.vob_flow.proofs.lists.chosen_unions.Goals.{After-deref}

list_is : (c : After-deref) → c.deref.result.now ≡ chosen (lists_of c.args.lists.now) c.args.nodes.now c.loop-sum.sum
list_is c =
    let items = λ (v : Vec ℕ Global). v.items in
    let n = get_or c.args.nodes.now c.loop-sum.sum 0 in
    let node : n < length c.args.lists.now = c.requires.inside c.loop-sum.sum 0 c.loop-sum-test.true in
    c.deref.ensures.value ∙ ap items c.index-lists-nodes.is
    ∙ sym (get_or-map items c.args.lists.now n c.index-lists-nodes.result [] node)
    ∙ sym (get_or-map (λ n. get_or (lists_of c.args.lists.now) n []) c.args.nodes.now c.loop-sum.sum 0 [] c.loop-sum-test.true)

pub loop-sum-preserved : goal.loop-sum-preserved
loop-sum-preserved c = (
  EachGets-next (λ i j. Any (λ x. IsIn c.args.sets.now.rows (place_in c.args.own.now x) j) (chosen (lists_of c.args.lists.now) c.args.nodes.now i))
      c.loop-sum.invariant.0 (rw (list_is (goal.at.loop-sum-preserved c).After-deref) at c.gather_own.ensures.got),
  c.gather_own.ensures.columns ∙ c.loop-sum.invariant.1,
)

pub returns-clause-each : goal.returns-clause-each
returns-clause-each c =
    let all : c.loop-sum.sum ≡ length c.args.nodes.now = omega (arith, c.loop-sum-test.false, c.loop-sum.auto.sum-end) in
    blank_some c.args.rows c.args.sets.now.columns (length c.args.nodes.now) _ (rw all at c.loop-sum.invariant.0) (λ i j some. omega (
      arith,
      edge_inside (map (λ n. get_or (lists_of c.args.lists.now) n []) c.args.nodes.now) i some.1 (some.0, some.2, some.3),
      length-map c.args.nodes.now (λ n. get_or (lists_of c.args.lists.now) n []),
    ))
