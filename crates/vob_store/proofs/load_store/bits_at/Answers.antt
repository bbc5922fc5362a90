-- Where the index begins a block it is that block, and elsewhere it is made of two.
use Rattle.std.proofs.Common.{◌%◌, ◌<◌, sym, subst, ℕ, arith, mod-lt}
use Rattle.vob_store.proofs.CopyLemmas.{block_and_place, places-whole, places-two}
use Rattle.vob_store.proofs.load_store.bits_at.Goals as goal

pub returns-then-places-eq0-clause-places : goal.returns-then-places-eq0-clause-places
returns-then-places-eq0-clause-places g c =
    let w = g.T.BitBlock.BITS in
    let u = c.BITS-width.result in
    let start = block_and_place _ c.args.from _ c.BITS-width.ensures in
    places-whole _ _ _ _ _ (omega (arith, start, c.if-places-eq0.true))
    c.read_or_zero-low.ensures.block

pub returns-clause-places : goal.returns-clause-places
returns-clause-places g c =
    let w = g.T.BitBlock.BITS in
    let u = c.BITS-width.result in
    let below : c.args.from % u < w = subst (λ (v : ℕ). c.args.from % v < w)
    (sym c.BITS-width.ensures) (mod-lt c.args.from g.met.T.BitBlock.wide_law) in
    places-two _ _ _ _ _ _ _ _ (block_and_place _ c.args.from _ c.BITS-width.ensures) below
    c.read_or_zero-low.ensures.block
    (rw c.read_or_zero-low.ensures.items at c.read_or_zero.ensures.block)
    c.funnel_down.ensures.places
