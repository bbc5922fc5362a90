-- What is refused is one item more, behind no bits.
use Rattle.std.proofs.lemmas.Result.{err_from_is_err_and}
use Rattle.vob.proofs.ExtendingLemmas.{items_refused}
use Rattle.vob.proofs.vob.Vob+usize.from_iter.Goals as goal

pub returns-in_err-push_all-clause-refused : goal.returns-in_err-push_all-clause-refused
returns-in_err-push_all-clause-refused g c =
    let end = c.from_residual-in_err-push_all in
    let p = err_from_is_err_and end.result end.ensures.1 in
    rw (p.1, p.2) (items_refused _ _ _ _ c.into_iter-items.result
    c.into_iter-items.ensures.into_iter_gives c.size_hint-hint.result.0
    c.size_hint-hint.ensures.lower c.in_ok-vob.vob c.push_all.new.self
    c.in_ok-vob.ensures.empty _
    c.in_err-push_all.ensures.err)
