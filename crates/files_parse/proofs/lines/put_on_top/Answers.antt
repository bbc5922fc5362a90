-- The next node is on top.
use Rattle.files_parse.proofs.UnfoldLemmas.{top_all, top_more}
use Rattle.files_parse.proofs.lines.put_on_top.Goals as goal

pub loop-place-preserved : goal.loop-place-preserved
loop-place-preserved c =
    top_more c.args.nodes.now c.args.level c.loop-place.place c.args.stack.now.items c.loop-place.stack.items
    c.push.new.self.items c.loop-place-test.true c.loop-place.auto.place c.in_ok-push.ensures.items
    c.loop-place.invariant

pub returns : goal.returns
returns c =
    top_all c.args.nodes.now c.args.level c.loop-place.place c.args.stack.now.items c.loop-place.stack.items
    c.loop-place-test.false c.loop-place.invariant
