-- The range gives the numbers.
use Rattle.std.proofs.Common.{◌+◌, refl, arith}
use Rattle.std.proofs.lemmas.Iterator.{YieldsList-from_range, items_from_collect}
use Rattle.vob_flow.proofs.touched.numbers_from.Goals as goal

pub returns : goal.returns
returns c = items_from_collect c.collect.result c.collect.ensures.ran
    (YieldsList-from_range c.args.first (c.args.first + c.args.count) c.args.count refl (omega arith))
