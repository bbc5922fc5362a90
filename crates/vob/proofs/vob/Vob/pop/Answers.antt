-- The last bit is read before it is cut off, and of an empty list nothing is.
use Rattle.std.proofs.Common.{◌≡◌, ◌∙◌, sym, ap, length, arith}
use Rattle.std.proofs.lemmas.List.{take_all}
use Rattle.std.proofs.lemmas.Option.{slice_get_past}
use Rattle.vob_block.proofs.PackingLemmas.{length-unpacking}
use Rattle.vob.proofs.vob.Vob.pop.Goals as goal

pub returns-then-self-eq0-clause-last : goal.returns-then-self-eq0-clause-last
returns-then-self-eq0-clause-last g c =
    let none : length c.args.self.now.bits ≡ 0 =
    ap (λ v. length v.bits) (sym c.self.view_is) ∙ length-unpacking _ _ _
    ∙ c.if-self-eq0.true in
    sym (slice_get_past c.args.self.now.bits _ (omega arith))

pub returns-then-self-eq0-clause-bits : goal.returns-then-self-eq0-clause-bits
returns-then-self-eq0-clause-bits g c =
    let none : length c.args.self.now.bits ≡ 0 =
    ap (λ v. length v.bits) (sym c.self.view_is) ∙ length-unpacking _ _ _
    ∙ c.if-self-eq0.true in
    sym (take_all _ c.args.self.now.bits (omega arith))

pub returns-clause-last : goal.returns-clause-last
returns-clause-last g c =
    rw (← c.self.view_is, length-unpacking) (sym
    (rw c.as_slice.ensures.value at c.stored_bit-value.ensures))

pub returns-clause-bits : goal.returns-clause-bits
returns-clause-bits g c = rw (← c.self.view_is, length-unpacking) c.truncate_to.ensures.stores.bits
