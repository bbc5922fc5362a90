-- Equal blocks have equal numbers.
use Rattle.std.proofs.Common.{◌∙◌, sym}
use Rattle.std.proofs.lemmas.Bool.{false≢true}
use Rattle.vob_walk.proofs.SkipLemmas.{Steps-skipped, Steps-other}
use Rattle.vob_walk.proofs.skip.Span.other_at.Goals as goal

pub returns-then-eq : goal.returns-then-eq
returns-then-eq g c =
    let read = c.read-block.ensures in
    Steps-skipped _ _ _ c.nth-k.ensures.number read.block read.reads read.items
    ((g.met.T.BitBlock.equal_law _ c.args.skip).0 (sym c.eq.ensures ∙ c.if-eq.true))

pub returns-else-eq : goal.returns-else-eq
returns-else-eq g c =
    let read = c.read-block.ensures in
    Steps-other _ _ _ c.nth-k.ensures.number read.block read.reads read.items (λ same.
    false≢true (sym c.if-eq.false ∙ c.eq.ensures
    ∙ (g.met.T.BitBlock.equal_law _ c.args.skip).1 same))
