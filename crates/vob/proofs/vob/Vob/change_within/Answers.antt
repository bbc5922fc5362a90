-- By the lemmas on blocks that are changed from one index to below another.
use Rattle.std.proofs.Common.{◌∙◌, sym, ap, length, drop}
use Rattle.std.proofs.lemmas.List.{take_at}
use Rattle.vob_block.proofs.PackingLemmas.{length-unpacking}
use Rattle.vob_walk.proofs.WindowLemmas.{IsRangeOf-own}
use Rattle.vob.proofs.BitsLemmas.{same_by_flag}
use Rattle.vob.proofs.RangeLemmas.{changed_here, some_changed, IsChangedWithin-parts}
use Rattle.vob.proofs.vob.Vob.change_within.Goals as goal

pub returns-clause-each : goal.returns-clause-each
returns-clause-each g c = λ in_range.
    changed_here g.T.BitBlock.number g.T.BitBlock.BITS g.met.T.BitBlock.wide_law c.self.invariant
    (ap (λ v. v.bits) c.self.view_is) (c.cut_range-start.ensures.window in_range)
    c.deref_mut.ensures.value
    (take_at c.change_range.new.blocks (drop (length c.change_range.new.blocks)
    c.self.inside.vec.items) c.self.inside.vec.len
    (c.change_range.auto.blocks ∙ c.deref_mut.ensures.len))
    c.change_range.ensures.canonical c.change_range.ensures.ranged

pub returns-clause-some : goal.returns-clause-some
returns-clause-some g c =
    let cut = c.cut_range-start in
    let own = IsRangeOf-own cut.result.0 cut.result.1 c.self.inside.len cut.ensures.ordered
    cut.ensures.inside in
    some_changed cut.result.0 cut.result.1 c.self.inside.len
    cut.ensures.ordered cut.ensures.inside
    (ap (λ v. length v.bits) (sym c.self.view_is) ∙ length-unpacking _ _ _)
    (changed_here g.T.BitBlock.number g.T.BitBlock.BITS g.met.T.BitBlock.wide_law
    c.self.invariant (ap (λ v. v.bits) c.self.view_is) own
    c.deref_mut.ensures.value
    (take_at c.change_range.new.blocks (drop (length c.change_range.new.blocks)
    c.self.inside.vec.items) c.self.inside.vec.len
    (c.change_range.auto.blocks ∙ c.deref_mut.ensures.len))
    c.change_range.ensures.canonical c.change_range.ensures.ranged)

pub returns-clause-len : goal.returns-clause-len
returns-clause-len g c = (returns-clause-some g c).4.len

pub returns-clause-bits : goal.returns-clause-bits
returns-clause-bits g c = λ in_range. IsChangedWithin-parts (returns-clause-each g c in_range)

pub returns-clause-same : goal.returns-clause-same
returns-clause-same g c =
    let after = c.change_range in
    let left = take_at after.new.blocks (drop (length after.new.blocks) c.self.inside.vec.items)
    c.self.inside.vec.len (after.auto.blocks ∙ c.deref_mut.ensures.len) in
    rw (left, ← c.self.view_is)
    (same_by_flag _ _ _ (rw c.deref_mut.ensures.value at after.ensures.changed))
