-- One part behind the other.
use Rattle.std.proofs.Common.{arith}
use Rattle.std.proofs.lemmas.Nat.{mul-le}
use Rattle.vob_store.proofs.RangeLemmas.{IsRanged-join}
use Rattle.vob_store.proofs.range.change_lines.Goals as goal

pub returns-clause-ranged : goal.returns-clause-ranged
returns-clause-ranged g c =
    IsRanged-join c.change_blocks-first.ensures.ranged c.change_blocks-rest.ensures.ranged
    (mul-le c.args.from _ _ _ (omega arith) (omega arith))
    (mul-le _ _ c.args.to _ (omega (arith, c.min.ensures, c.requires.order)) (omega arith))
