-- Two spaces more are written.
use Rattle.std.proofs.Common.{◌≡◌, suc, ◌+◌, ◌-◌, arith, codes}
use Rattle.std.specs.List.{repeat}
use Rattle.files_text.proofs.PrintedLemmas.{but_more, but_none}
use Rattle.files_parse.proofs.lines.put_spaces.Goals as goal

pub loop-preserved : goal.loop-preserved
loop-preserved g c =
    let n = c.args.count - (c.loop.counter + 1) in
    let one_more : c.args.count - c.loop.counter ≡ suc n = omega arith in
    but_more _ _ _ _ (codes "  ") (repeat n (codes "  ")) (rw one_more at c.loop.invariant)
    c.in_ok-write_all.ensures.bytes

pub returns : goal.returns
returns g c =
    let none : c.args.count - c.loop.counter ≡ 0 = omega arith in but_none _ _ _ (rw none at c.loop.invariant)
