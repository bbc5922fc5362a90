-- The node that was read is the first with a fault, or has none.
use Rattle.std.proofs.Common.{◌∙◌, refl, sym, arith}
use Rattle.std.proofs.lemmas.Bool.{false≢true}
use Rattle.std.proofs.lemmas.Option.{slice_get_read}
use Rattle.vob_flow.specs.FlowFaults.{IsSound}
use Rattle.vob_flow.proofs.FirstLemmas.{below_more_at, all_below_at}
use Rattle.vob_flow.proofs.live.check_nodes.Goals as goal

pub returns-then-not-names_variables-clause-err : goal.returns-then-not-names_variables-clause-err
returns-then-not-names_variables-clause-err c =
    record {
      lower = c.loop-node.invariant;
      flow = c.index-nodes-node.result;
      is = slice_get_read _ _ _ _ refl c.loop-node-test.true c.index-nodes-node.is;
      bad = λ good.
          false≢true (sym c.if-not-names_variables.true ∙ c.names_variables.ensures.1 good);
    }

pub returns-then-not-all_below-clause-err : goal.returns-then-not-all_below-clause-err
returns-then-not-all_below-clause-err c =
    record {
      lower = c.loop-node.invariant;
      flow = c.index-nodes-node.result;
      is = slice_get_read _ _ _ _ refl c.loop-node-test.true c.index-nodes-node.is;
      good = c.names_variables.ensures.0 c.if-not-names_variables.false;
      bad = λ good.
          let read = rw (← c.deref.ensures.value) at good in
          false≢true (sym c.if-not-all_below.true ∙ c.all_below.ensures.1 read);
    }

pub loop-node-preserved : goal.loop-node-preserved
loop-node-preserved c =
    let next = rw c.deref.ensures.value at c.all_below.ensures.0 c.if-not-all_below.false in
    below_more_at (IsSound c.args.vars c.args.nodes.now) _ _ _
    (slice_get_read _ _ _ _ refl c.loop-node-test.true c.index-nodes-node.is)
    (c.names_variables.ensures.0 c.if-not-names_variables.false, next) c.loop-node.invariant

pub returns-clause-ok : goal.returns-clause-ok
returns-clause-ok c =
    let nodes = c.args.nodes.now in
    all_below_at (IsSound c.args.vars nodes) nodes c.loop-node.node (omega arith)
    c.loop-node.invariant
