-- The Vob with this number has the bits below the index, and the last one has the rest.
use Rattle.std.proofs.Common.{arith, ◌≡◌, ◌≤◌, [], ◌∷◌, ◌++◌, length, take, drop, get_or, set, ap, refl, Err, ◌∙◌, inl}
use Rattle.vob.specs.declared.error.VobError.TheVariants.{Memory}
use Rattle.vob_run.specs.Call.{SplitOff}
use Rattle.vob_run.proofs.StepLemmas.{lent, lent_same, no_list}
use Rattle.vob_run.proofs.MakeLemmas.{past_end_step, step-split, divided_step, undivided_step, memory_alone}
use Rattle.vob_run.proofs.calls.make.split_off.Goals as goal

pub returns-then-which-count : goal.returns-then-which-count
returns-then-which-count g c =
    inl (rw (no_list c.args.vobs.now.items c.args.which (omega arith)) refl)

pub returns-then-index-len : goal.returns-then-index-len
returns-then-index-len g c =
    let items = c.args.vobs.now.items in
    let vob = lent items c.args.which c.index.result.now (omega arith) c.index.ensures in
    rw c.refused.ensures (inl (past_end_step g.T.BitBlock.BITS items c.args.which c.args.index
    c.index.result.now vob (omega (arith, c.if-index-len.true, c.len.ensures.len))))

pub returns-in-Ok : goal.returns-in-Ok
returns-in-Ok g c =
    let items = c.args.vobs.now.items in
    let which = c.args.which in
    let at = c.args.index in
    let old = c.index_mut.result.now in
    let room = c.reserve.ensures.items in
    let vob = lent items which old (omega arith)
    (c.index_mut.ensures.value ∙ ap (λ xs. get_or xs which old) room) in
    let first = lent items which c.index.result.now (omega arith) c.index.ensures in
    let count = ap (λ v. length v.bits) (lent_same vob first) in
    let inside : at ≤ length old.bits =
    omega (arith, c.if-index-len.false, c.len.ensures.len, count) in
    let pushed = c.push_reserved.ensures.items
    ∙ ap (λ xs. set xs which c.split_off.new.self ++ c.in-Ok.rest ∷ []) room in
    rw (pushed, c.len-count.ensures, c.args.vobs.now.ok.0)
    (divided_step g.T.BitBlock.BITS vob (SplitOff which at) (take at old.bits) (drop at old.bits)
    (step-split g.T.BitBlock.BITS items which at old vob inside) tt c.split_off.new.self c.in-Ok.rest
    c.in-Ok.ensures.ok c.in-Ok.ensures.rest)

pub returns-in-Err : goal.returns-in-Err
returns-in-Err g c =
    let items = c.args.vobs.now.items in
    let which = c.args.which in
    let at = c.args.index in
    let old = c.index_mut.result.now in
    let room = c.reserve.ensures.items in
    let vob = lent items which old (omega arith)
    (c.index_mut.ensures.value ∙ ap (λ xs. get_or xs which old) room) in
    let first = lent items which c.index.result.now (omega arith) c.index.ensures in
    let count = ap (λ v. length v.bits) (lent_same vob first) in
    let inside : at ≤ length old.bits =
    omega (arith, c.if-index-len.false, c.len.ensures.len, count) in
    let call = c.in-Err.ensures in
    let memory : c.in-Err.refusal ≡ Memory = memory_alone c.in-Err.refusal
    (λ e. call.refused.too_long (ap Err e))
    (λ e. absurd (omega (arith, inside, call.refused.past_end.0 (ap Err e)))) in
    rw (c.refused-in-Err.ensures, memory, room)
    (undivided_step g.T.BitBlock.BITS vob (SplitOff which at) (take at old.bits) (drop at old.bits)
    (step-split g.T.BitBlock.BITS items which at old vob inside) tt c.split_off.new.self call.err)
