-- The next number is written.
use Rattle.std.proofs.Common.{◌≡◌, ◌<◌, ◌≤◌, ◌+◌, ◌-◌, ap, arith}
use Rattle.std.specs.List.{range_with_len}
use Rattle.files_text.proofs.PrintedLemmas.{items_all, items_more, items_none, range_more, range_none}
use Rattle.files_parse.proofs.json.put_numbers.Goals as goal

pub loop-number-init : goal.loop-number-init
loop-number-init g c =
    let all : c.args.first + c.args.count - c.args.first ≡ c.args.count = omega arith in
    items_all _ _ _ _ (ap (range_with_len c.args.first) all)

pub loop-number-preserved : goal.loop-number-preserved
loop-number-preserved g c =
    let less : c.loop-number.number < c.args.first + c.args.count = omega arith in
    items_more _ _ _ _ _ _ _ _ (range_more c.loop-number.number (c.args.first + c.args.count) less)
    c.loop-number.invariant c.in_ok-put_next_number.ensures

pub returns : goal.returns
returns g c =
    let past : c.args.first + c.args.count ≤ c.loop-number.number = omega arith in
    items_none _ _ _ _ _ (range_none c.loop-number.number (c.args.first + c.args.count) past) c.loop-number.invariant
