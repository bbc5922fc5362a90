-- To take as many bits as there are, or more, is to take all.
use Rattle.std.proofs.Common.{◌≡◌, ◌∙◌, sym, ap, length, arith}
use Rattle.std.proofs.lemmas.List.{take_all}
use Rattle.vob_block.proofs.PackingLemmas.{length-unpacking}
use Rattle.vob.proofs.vob.Vob.truncate.Goals as goal

pub returns-else-len-self-clause-bits : goal.returns-else-len-self-clause-bits
returns-else-len-self-clause-bits g c =
    let long : length c.args.self.now.bits ≡ c.self.inside.len =
    ap (λ v. length v.bits) (sym c.self.view_is) ∙ length-unpacking _ _ _ in
    sym (take_all c.args.len c.args.self.now.bits (omega (arith, c.if-len-self.false)))
