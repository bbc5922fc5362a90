-- The next edge is written.
use Rattle.std.proofs.Common.{◌≡◌, ◌<◌, ◌≤◌, ◌+◌, ◌-◌, ap, arith}
use Rattle.std.specs.List.{range_with_len}
use Rattle.files_text.proofs.PrintedLemmas.{items_all, items_more, items_none, range_more, range_none}
use Rattle.files_parse.proofs.dot.put_edges.Goals as goal

pub loop-to-init : goal.loop-to-init
loop-to-init g c =
    let all : c.args.first + c.args.count - c.args.first ≡ c.args.count = omega arith in
    items_all _ _ _ _ (ap (range_with_len c.args.first) all)

pub loop-to-preserved : goal.loop-to-preserved
loop-to-preserved g c =
    let less : c.loop-to.to < c.args.first + c.args.count = omega arith in
    items_more _ _ _ _ _ _ _ _ (range_more c.loop-to.to (c.args.first + c.args.count) less) c.loop-to.invariant
    c.in_ok-put_edge.ensures

pub returns : goal.returns
returns g c =
    let past : c.args.first + c.args.count ≤ c.loop-to.to = omega arith in
    items_none _ _ _ _ _ (range_none c.loop-to.to (c.args.first + c.args.count) past) c.loop-to.invariant
