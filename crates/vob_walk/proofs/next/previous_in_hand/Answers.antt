-- The block in hand, and before it the scan.
use Rattle.std.proofs.Common.{◌≡◌, ◌+◌, ◌*◌, ◌/◌, ◌%◌, refl, ap, arith}
use Rattle.vob_walk.proofs.NextLemmas.{FindsBack-here, FindsBack-none, FindsBack-before}
use Rattle.vob_walk.proofs.SkipLemmas.{none_found}
use Rattle.vob_walk.proofs.next.previous_in_hand.Goals as goal

pub returns-then-end-gt0 : goal.returns-then-end-gt0
returns-then-end-gt0 g c =
    let w = g.T.BitBlock.BITS in
    let k = c.args.from.index / c.BITS.result in
    let at : k * c.BITS-then-end-gt0.result ≡ c.args.from.index / w * w = cc in
    FindsBack-here _ g.met.T.BitBlock.wide_law _ _ _ _ _ _ c.requires.inside _
    (ap (λ u. c.args.from.index % u + 1) c.BITS-2.ensures) c.requires.hand
    c.past_last_place-end.ensures _ c.if-end-gt0.true refl refl (omega arith)

pub returns-in_default : goal.returns-in_default
returns-in_default g c = FindsBack-none _ g.met.T.BitBlock.wide_law _ _ _ _ _ _ c.requires.inside
    c.args.from.block (ap (λ u. c.args.from.index % u + 1) c.BITS-2.ensures) c.requires.hand
    c.past_last_place-end.ensures c.block_without.result c.block_without.ensures c.if-end-gt0.false
    (ap (λ u. c.args.start / u) c.BITS-3.ensures) (ap (λ u. c.args.from.index / u) c.BITS.ensures) _
    (rw (none_found _ c.in_default.not-Some) at c.next_other.ensures)

pub returns : goal.returns
returns g c =
    let found = c.in-Some.found in
    let at = ap (λ u. found.0 * u) c.BITS-5.ensures in
    FindsBack-before _ g.met.T.BitBlock.wide_law _ _ _ _ _ _ c.requires.inside
    c.args.from.block (ap (λ u. c.args.from.index % u + 1) c.BITS-2.ensures) c.requires.hand
    c.past_last_place-end.ensures c.block_without.result c.block_without.ensures c.if-end-gt0.false
    (ap (λ u. c.args.start / u) c.BITS-3.ensures) (ap (λ u. c.args.from.index / u) c.BITS.ensures)
    found _ _ _ (rw c.in-Some.is at c.next_other.ensures) c.in_range.ensures
    (omega (arith, g.met.T.BitBlock.wide_law)) c.past_last_place-end-2.ensures (omega arith)
