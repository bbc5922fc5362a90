-- One item more gives what it does.
use Rattle.std.proofs.Common.{◌+◌, ◌∙◌, arith, false, replicate}
use Rattle.std.proofs.lemmas.List.{length-replicate}
use Rattle.std.proofs.lemmas.Result.{IfOk-weaker}
use Rattle.vob_lr.specs.Expansions.{Gives, IsByFirst}
use Rattle.vob_lr.specs.Items.{item_total}
use Rattle.vob_lr.proofs.ClosureLemmas.{Gains-both, Gains-none, IsItemClosure-gained, by_first_more, by_first_none}
use Rattle.vob_lr.proofs.closure.Closures.closure.Goals as goal

pub loop-place-init : goal.loop-place-init
loop-place-init c =
    let rules = c.args.self.now.rules.items in
    rw (c.in_ok-made.ensures.bits, c.len.ensures, c.self.view_is)
    (Gains-none (IsByFirst (Gives rules) c.args.set.now 0) (replicate (item_total rules) false)
    (by_first_none (Gives rules) c.args.set.now))

pub expand-requires-clause-long : goal.expand-requires-clause-long
expand-requires-clause-long c =
    c.loop-place.invariant.len ∙ length-replicate (item_total c.args.self.now.rules.items) false

pub loop-place-preserved : goal.loop-place-preserved
loop-place-preserved c =
    let rules = c.args.self.now.rules.items in
    let k = c.loop-place.place in
    Gains-both _ _ _ (IsByFirst (Gives rules) c.args.set.now k) _
    (IsByFirst (Gives rules) c.args.set.now (k + 1)) (by_first_more (Gives rules) c.args.set.now k)
    c.loop-place.invariant c.expand.ensures

pub returns : goal.returns
returns c =
    let rules = c.args.self.now.rules.items in
    IfOk-weaker c.numbers_of.result _ _
    (λ closure h. IsItemClosure-gained rules c.args.set.now c.loop-place.place (omega arith)
    (item_total rules) c.loop-place.made.bits c.loop-place.invariant closure.items h) c.numbers_of.ensures
