-- The Vob behind the others has the bits of both, combined.
use Rattle.std.proofs.Common.{◌≡◌, ◌≢◌, length, refl, ◌∙◌, inl, arith}
use Rattle.vob_block.specs.Pointwise.{pointwise}
use Rattle.vob_run.specs.Outcomes.{makes}
use Rattle.vob_run.specs.Pairs.{operator, combining_new}
use Rattle.vob_run.specs.Run.{lists}
use Rattle.vob_run.proofs.MakeLemmas.{Makes, made_step}
use Rattle.vob_run.proofs.PairLemmas.{both_lent, on_two-missing, on_same_length-found, on_same_length-apart, step-combining_new, takes-combining_new}
use Rattle.vob_run.proofs.calls.pair.combine_new.Goals as goal

pub returns-then-not-are_two : goal.returns-then-not-are_two
returns-then-not-are_two g c =
    let items = c.args.vobs.now.items in
    let two = rw c.deref.ensures.value at c.if-not-are_two.ensures in
    let none = on_two-missing items c.args.which c.args.other (λ t. let wrong = two.1 t in cc) _ in
    inl (step-combining_new g.T.BitBlock.BITS (lists items) c.args.which c.args.other c.args.how
    ∙ none)

pub returns-then-len : goal.returns-then-len
returns-then-len g c =
    let items = c.args.vobs.now.items in
    let old = c.index-first.result.now in
    let more = c.index-second.result.now in
    let can = rw c.deref.ensures.value at c.if-not-are_two.ensures.0 refl in
    let two = both_lent items c.args.which c.args.other old more can c.index-first.ensures
    c.index-second.ensures in
    let apart : length old.bits ≢ length more.bits =
    omega (arith, c.if-len.true, c.len.ensures.len, c.len-2.ensures.len) in
    inl (step-combining_new g.T.BitBlock.BITS (lists items) c.args.which c.args.other c.args.how
    ∙ on_same_length-apart two _ apart)

pub returns : goal.returns
returns g c =
    let how = c.args.how in
    let items = c.args.vobs.now.items in
    let all = lists items in
    let old = c.index-first.result.now in
    let more = c.index-second.result.now in
    let can = rw c.deref.ensures.value at c.if-not-are_two.ensures.0 refl in
    let two = both_lent items c.args.which c.args.other old more can c.index-first.ensures
    c.index-second.ensures in
    let same : length old.bits ≡ length more.bits =
    omega (arith, c.if-len.false, c.len.ensures.len, c.len-2.ensures.len) in
    let f = operator how in
    let is = step-combining_new g.T.BitBlock.BITS all c.args.which c.args.other how
    ∙ on_same_length-found two (λ bits others. makes all (pointwise f bits others)) same in
    let takes = takes-combining_new g.T.BitBlock.BITS all c.args.which c.args.other how in
    let made : Makes g.T.BitBlock.BITS items (combining_new how c.args.which c.args.other)
    (pointwise f old.bits more.bits) = record { is = is; takes = takes } in
    made_step made c.made_of-combined.result _ c.made.new.vobs.items
    c.made_of-combined.ensures c.made.ensures.ok c.made.ensures.err
