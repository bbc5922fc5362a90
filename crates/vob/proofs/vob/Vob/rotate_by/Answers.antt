-- The three reversals put each bit where it belongs.
use Rattle.vob.proofs.TurnsLemmas.{rotated-by}
use Rattle.vob.proofs.vob.Vob.rotate_by.Goals as goal

pub returns-clause-bits : goal.returns-clause-bits
returns-clause-bits g c = rotated-by c.args.n c.len-len.result c.requires c.len-len.ensures.len
    c.reverse_between.ensures.each c.reverse_between-2.ensures.each
    c.reverse_between-3.ensures.each
