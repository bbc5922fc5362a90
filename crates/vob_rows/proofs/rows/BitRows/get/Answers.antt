-- Past the last row is none.
use Rattle.std.proofs.Common.{ap, sym, [], arith, slice_get}
use Rattle.std.proofs.lemmas.List.{get_or_past}
use Rattle.vob_rows.proofs.rows.BitRows.get.Goals as goal

pub returns-else-i-rows : goal.returns-else-i-rows
returns-else-i-rows g c = sym (ap (λ bits. slice_get bits c.args.j)
    (get_or_past c.args.self.now.rows c.args.i [] (omega (arith, c.if-i-rows.false, c.rows.ensures))))
