-- The node keeps its expression.
use Rattle.std.proofs.Common.{inr}
use Rattle.std.proofs.lemmas.Bool.{false≢true}
use Rattle.files_flow.specs.Expressions.{Meet}
use Rattle.files_flow.proofs.expressions.lasting_of.Goals as goal

pub returns : goal.returns
returns c expressions own =
    let apart : ¬ Meet c.args.node.now.writes.items c.args.node.now.reads.items =
    λ both. false≢true ((rw (c.deref.ensures.value, c.deref-2.ensures.value) at c.if-meet.ensures).1 both) in
    inr (apart, rw (c.in_ok-to_vec.ensures.items_if_clones_equal (λ x y e. e)) own)
