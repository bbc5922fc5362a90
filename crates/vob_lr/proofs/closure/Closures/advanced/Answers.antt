-- The item behind one more is added.
use Rattle.std.proofs.Common.{◌+◌, [], arith}
use Rattle.vob_lr.specs.Expansions.{Advances, IsByFirst}
use Rattle.vob_lr.proofs.ClosureLemmas.{Adds-both, Adds-none, IsAdvanced-added, by_first_more, by_first_none}
use Rattle.vob_lr.proofs.closure.Closures.advanced.Goals as goal

pub loop-place-init : goal.loop-place-init
loop-place-init c =
    let Each = Advances c.args.self.now.rules.items c.args.symbol in
    rw c.new-made.ensures.items (Adds-none (IsByFirst Each c.args.set.now 0) [] (by_first_none Each c.args.set.now))

pub loop-place-preserved : goal.loop-place-preserved
loop-place-preserved c =
    let Each = Advances c.args.self.now.rules.items c.args.symbol in
    let k = c.loop-place.place in
    Adds-both [] c.loop-place.made.items c.advance.new.made.items (IsByFirst Each c.args.set.now k) _ (IsByFirst Each c.args.set.now (k + 1))
    (by_first_more Each c.args.set.now k) c.loop-place.invariant c.in_ok-advance.ensures

pub returns : goal.returns
returns c =
    IsAdvanced-added c.args.self.now.rules.items c.args.set.now c.args.symbol c.loop-place.made.items
    c.loop-place.place (omega arith) c.loop-place.invariant
