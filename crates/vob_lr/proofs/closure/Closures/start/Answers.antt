-- The closure of one item.
use Rattle.std.proofs.lemmas.Result.{IfOk-weaker}
use Rattle.vob_lr.proofs.ClosureLemmas.{IsStart-closed, first_inside}
use Rattle.vob_lr.proofs.ItemLemmas.{item_first}
use Rattle.vob_lr.proofs.closure.Closures.start.Goals as goal

pub closure-requires : goal.closure-requires
closure-requires c =
    first_inside c.args.self.now.rules.items (item_first c.args.self.now.rules.items c.requires)

pub returns : goal.returns
returns c =
    IfOk-weaker c.closure.result _ _
    (λ set h. IsStart-closed c.args.self.now.rules.items set.items h) c.closure.ensures
