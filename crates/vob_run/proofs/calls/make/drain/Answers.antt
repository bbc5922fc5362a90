-- The Vob with this number has the bits outside the range, and the last one has those within it.
use Rattle.std.proofs.Common.{arith, ◌≡◌, [], ◌∷◌, ◌++◌, get_or, set, ap, refl, ◌∙◌, inl}
use Rattle.vob.specs.Drain.{bits_within, bits_outside}
use Rattle.vob_run.specs.Call.{Drain}
use Rattle.vob_run.proofs.StepLemmas.{lent, list_at, no_list}
use Rattle.vob_run.proofs.MakeLemmas.{divided_step, undivided_step}
use Rattle.vob_run.proofs.calls.make.drain.Goals as goal

pub returns-then-which-count : goal.returns-then-which-count
returns-then-which-count g c =
    inl (rw (no_list c.args.vobs.now.items c.args.which (omega arith)) refl)

pub returns-in-Ok : goal.returns-in-Ok
returns-in-Ok g c =
    let items = c.args.vobs.now.items in
    let which = c.args.which in
    let start = c.args.bounds.0 in
    let end = c.args.bounds.1 in
    let old = c.index_mut.result.now in
    let new = c.drain.new.self in
    let room = c.reserve.ensures.items in
    let read : old ≡ get_or items which old =
    c.index_mut.ensures.value ∙ ap (λ xs. get_or xs which old) room in
    let vob = lent items which old (omega arith) read in
    let drained = c.in-Ok.ensures.ok tt in
    let pushed = c.push_reserved.ensures.items
    ∙ ap (λ xs. set xs which new ++ c.in-Ok.taken ∷ []) room in
    rw (pushed, c.len-count.ensures, c.args.vobs.now.ok.0)
    (divided_step g.T.BitBlock.BITS vob (Drain which start end) (bits_outside start end old.bits)
    (bits_within start end old.bits) (rw (list_at vob) refl) tt new c.in-Ok.taken drained.left
    drained.given)

pub returns-in-Err : goal.returns-in-Err
returns-in-Err g c =
    let items = c.args.vobs.now.items in
    let which = c.args.which in
    let start = c.args.bounds.0 in
    let end = c.args.bounds.1 in
    let old = c.index_mut.result.now in
    let room = c.reserve.ensures.items in
    let read : old ≡ get_or items which old =
    c.index_mut.ensures.value ∙ ap (λ xs. get_or xs which old) room in
    let vob = lent items which old (omega arith) read in
    rw (c.refused-in-Err.ensures, c.from.ensures, room)
    (undivided_step g.T.BitBlock.BITS vob (Drain which start end) (bits_outside start end old.bits)
    (bits_within start end old.bits) (rw (list_at vob) refl) tt c.drain.new.self
    c.in-Err.ensures.err)
