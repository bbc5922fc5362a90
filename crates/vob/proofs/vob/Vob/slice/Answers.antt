-- The range is cut to the indices from one to below another.
use Rattle.vob_block.proofs.PackingLemmas.{length-unpacking}
use Rattle.vob.proofs.DrainLemmas.{drained_none, sliced_ok, sliced_some}
use Rattle.vob.proofs.vob.Vob.slice.Goals as goal

pub bits_between-requires-clause-inside : goal.bits_between-requires-clause-inside
bits_between-requires-clause-inside g c =
    rw (← c.self.view_is, length-unpacking) c.cut_range-start.ensures.inside

pub returns-clause-bits : goal.returns-clause-bits
returns-clause-bits g c = λ in_range.
    let cut = c.cut_range-start in
    sliced_ok (λ v. v.bits) c.args.self.now.bits c.args.self.now.bits cut.result.0 cut.result.1
    (rw (← c.self.view_is, length-unpacking) (cut.ensures.window in_range))
    c.bits_between.result c.bits_between.ensures.bits

pub returns-clause-nothing : goal.returns-clause-nothing
returns-clause-nothing g c = λ in_range none.
    c.bits_between.ensures.nothing (drained_none c.args.self.now.bits
    (rw (← c.self.view_is, length-unpacking) (c.cut_range-start.ensures.window in_range)) none)

pub returns-clause-some : goal.returns-clause-some
returns-clause-some g c =
    let cut = c.cut_range-start in
    sliced_some (λ v. v.bits) c.args.self.now.bits c.args.self.now.bits _ _ cut.ensures.ordered
    (rw (← c.self.view_is, length-unpacking) cut.ensures.inside)
    c.bits_between.result c.bits_between.ensures.bits c.bits_between.ensures.nothing
