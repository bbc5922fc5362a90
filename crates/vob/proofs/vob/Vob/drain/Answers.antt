-- The range is cut to the indices from one to below another.
use Rattle.vob_block.proofs.PackingLemmas.{length-unpacking}
use Rattle.vob.proofs.DrainLemmas.{drained_none, drained_ok, drained_some}
use Rattle.vob.proofs.vob.Vob.drain.Goals as goal

pub take_between-requires-clause-inside : goal.take_between-requires-clause-inside
take_between-requires-clause-inside g c =
    rw (← c.self.view_is, length-unpacking) c.cut_range-start.ensures.inside

pub returns-clause-ok : goal.returns-clause-ok
returns-clause-ok g c = λ in_range.
    let cut = c.cut_range-start in
    let taken = c.take_between in
    drained_ok (λ v. v.bits) c.args.self.now.bits taken.new.self.bits cut.result.0 cut.result.1
    (rw (← c.self.view_is, length-unpacking) (cut.ensures.window in_range))
    taken.result taken.ensures.taken taken.ensures.left

pub returns-clause-nothing : goal.returns-clause-nothing
returns-clause-nothing g c = λ in_range none.
    c.take_between.ensures.nothing (drained_none c.args.self.now.bits
    (rw (← c.self.view_is, length-unpacking) (c.cut_range-start.ensures.window in_range)) none)

pub returns-clause-some : goal.returns-clause-some
returns-clause-some g c =
    let cut = c.cut_range-start in
    let taken = c.take_between in
    drained_some (λ v. v.bits) c.args.self.now.bits taken.new.self.bits _ _ cut.ensures.ordered
    (rw (← c.self.view_is, length-unpacking) cut.ensures.inside)
    taken.result taken.ensures.taken taken.ensures.left taken.ensures.nothing
