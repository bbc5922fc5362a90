-- The Vob with the first number has the bits of both, combined.
use Rattle.std.proofs.Common.{◌≢◌, ◌≡◌, length, refl, ◌∙◌, inl, arith}
use Rattle.vob_run.specs.Changes.{combined}
use Rattle.vob_run.specs.Pairs.{operator}
use Rattle.vob_run.specs.Run.{lists}
use Rattle.vob_run.proofs.StepLemmas.{lists-set, lists-same}
use Rattle.vob_run.proofs.PairLemmas.{are_lent, lent_back, on_two-missing, on_same_length-found, on_same_length-apart, step-combining, flag-changed}
use Rattle.vob_run.proofs.calls.pair.combine.Goals as goal

pub returns-then-not-are_two : goal.returns-then-not-are_two
returns-then-not-are_two g c =
    let items = c.args.vobs.now.items in
    let two = rw c.deref.ensures.value at c.if-not-are_two.ensures in
    let none = on_two-missing items c.args.which c.args.other (λ t. let wrong = two.1 t in cc) _ in
    inl (step-combining g.T.BitBlock.BITS (lists items) c.args.which c.args.other c.args.how
    ∙ none)

pub returns-then-len : goal.returns-then-len
returns-then-len g c =
    let how = c.args.how in
    let items = c.args.vobs.now.items in
    let all = lists items in
    let slice = c.deref_mut.ensures.value in
    let which = c.args.which in
    let two = c.two_of-vob.ensures in
    let old = c.two_of-vob.result.0.now in
    let lent = are_lent items _ slice (c.if-not-are_two.ensures.0 refl).0 two.first two.second in
    let apart : length old.bits ≢ length c.two_of-vob.result.1.now.bits =
    omega (arith, c.if-len.true, c.len.ensures.len, c.len-2.ensures.len) in
    let is = step-combining g.T.BitBlock.BITS all which c.args.other how
    ∙ on_same_length-apart lent (combined all (operator how) which) apart in
    let back = lent_back lent slice c.args.vobs.now.ok.0 old in
    inl (is ∙ rw (back, lists-same lent.first old refl) refl)

pub returns : goal.returns
returns g c =
    let how = c.args.how in
    let items = c.args.vobs.now.items in
    let all = lists items in
    let slice = c.deref_mut.ensures.value in
    let which = c.args.which in
    let two = c.two_of-vob.ensures in
    let old = c.two_of-vob.result.0.now in
    let new = c.change.new.vob in
    let lent = are_lent items _ slice (c.if-not-are_two.ensures.0 refl).0 two.first two.second in
    let same : length old.bits ≡ length c.two_of-vob.result.1.now.bits =
    omega (arith, c.if-len.false, c.len.ensures.len, c.len-2.ensures.len) in
    let is = step-combining g.T.BitBlock.BITS all which c.args.other how
    ∙ on_same_length-found lent (combined all (operator how) which) same in
    let flag = flag-changed c.change.result _ new.bits c.change.ensures.changed in
    let back = lent_back lent slice c.args.vobs.now.ok.0 new in
    inl (is ∙ rw (back, lists-set items which new, flag, c.change.ensures.bits) refl)
