-- The block in hand, and after it the scan.
use Rattle.std.proofs.Common.{◌≡◌, ◌+◌, ◌*◌, ◌/◌, ◌%◌, ◌∙◌, refl, ap, arith}
use Rattle.vob_block.proofs.NeedLemmas.{need-is-div_ceil, mul-lt_from_need}
use Rattle.vob_walk.proofs.NextLemmas.{FindsUp-here, FindsUp-none, FindsUp-behind}
use Rattle.vob_walk.proofs.SkipLemmas.{none_found}
use Rattle.vob_walk.proofs.next.next_in_hand.Goals as goal

pub returns-then-place-BITS : goal.returns-then-place-BITS
returns-then-place-BITS g c =
    let w = g.T.BitBlock.BITS in
    let at : c.args.from.index / c.BITS.result * c.BITS-then-place-BITS.result ≡ c.args.from.index / w * w =
    cc in
    FindsUp-here _ g.met.T.BitBlock.wide_law _ _ _ _ _ _ c.requires.inside _
    (ap (λ u. c.args.from.index % u) c.BITS-2.ensures) c.requires.hand c.first_place-place.ensures _
    (omega arith) refl refl (omega arith)

pub next_other-requires-clause-count : goal.next_other-requires-clause-count
next_other-requires-clause-count g c =
    let end = need-is-div_ceil _ g.met.T.BitBlock.wide_law c.args.len _ c.BITS-4.ensures in
    omega arith

pub returns-in_default : goal.returns-in_default
returns-in_default g c =
    let wide = g.met.T.BitBlock.wide_law in
    FindsUp-none _ wide _ _ _ _ _ _ c.requires.inside c.args.from.block
    (ap (λ u. c.args.from.index % u) c.BITS-2.ensures) c.requires.hand c.first_place-place.ensures
    c.block_without.result c.block_without.ensures (omega arith)
    (ap (λ u. c.args.from.index / u + 1) c.BITS.ensures)
    (c.div_ceil.ensures ∙ need-is-div_ceil _ wide c.args.len _ c.BITS-4.ensures) _
    (rw (none_found _ c.in_default.not-Some) at c.next_other.ensures)

pub returns : goal.returns
returns g c =
    let wide = g.met.T.BitBlock.wide_law in
    let found = c.in-Some.found in
    let end = c.div_ceil.ensures ∙ need-is-div_ceil _ wide c.args.len _ c.BITS-4.ensures in
    let scan = rw c.in-Some.is at c.next_other.ensures in
    let begins = mul-lt_from_need _ wide c.args.len found.0 (omega (arith, scan.found.0.below)) in
    let at = ap (λ u. found.0 * u) c.BITS-5.ensures in
    FindsUp-behind _ wide _ _ _ _ _ _ c.requires.inside c.args.from.block
    (ap (λ u. c.args.from.index % u) c.BITS-2.ensures) c.requires.hand c.first_place-place.ensures
    c.block_without.result c.block_without.ensures (omega arith)
    (ap (λ u. c.args.from.index / u + 1) c.BITS.ensures) end found _ _ scan c.in_range.ensures
    c.first_place.ensures (omega arith)
