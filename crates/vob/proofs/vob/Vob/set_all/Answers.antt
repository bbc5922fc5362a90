-- As often the value as there were bits.
use Rattle.std.proofs.Common.{subst, ◌≡◌, ◌∙◌, sym, ap, length}
use Rattle.std.proofs.lemmas.List.{take_at}
use Rattle.vob_block.proofs.PackingLemmas.{length-unpacking}
use Rattle.vob.specs.Bits.{IsChanged}
use Rattle.vob.proofs.BitsLemmas.{IsChanged-replicate}
use Rattle.vob.proofs.vob.Vob.set_all.Goals as goal

pub returns-clause-bits : goal.returns-clause-bits
returns-clause-bits g c =
    let long : length c.args.self.now.bits ≡ c.self.inside.len =
    ap (λ v. length v.bits) (sym c.self.view_is) ∙ length-unpacking _ _ _ in
    rw (
      take_at c.fill.new.blocks _ c.self.inside.vec.len
          (c.fill.auto.blocks ∙ c.deref_mut.ensures.len),
      long,
    ) c.fill.ensures.bits

pub returns-clause-each : goal.returns-clause-each
returns-clause-each g c =
    subst (λ after. IsChanged (λ _. c.args.value) c.args.self.now.bits after)
    (sym (returns-clause-bits g c)) (IsChanged-replicate c.args.value c.args.self.now.bits)
