-- The closure of what is left.
use Rattle.std.proofs.lemmas.Result.{IfOk-weaker}
use Rattle.vob_lr.proofs.ClosureLemmas.{IsGoto-closed, advanced_inside}
use Rattle.vob_lr.proofs.closure.Closures.goto.Goals as goal

pub closure-requires : goal.closure-requires
closure-requires c =
    rw c.deref.ensures.value (advanced_inside c.args.self.now.rules.items c.args.set.now c.args.symbol c.in_ok-made.made.items
    c.in_ok-made.ensures)

pub returns : goal.returns
returns c =
    IfOk-weaker c.closure.result _ _
    (λ next h. IsGoto-closed c.args.self.now.rules.items c.args.set.now c.args.symbol c.in_ok-made.made.items
    c.in_ok-made.ensures next.items (rw c.deref.ensures.value at h)) c.closure.ensures
