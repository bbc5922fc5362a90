-- What is left under the mask equals zero exactly where the place is false.
use Rattle.std.proofs.Common.{ℕ, ◌&&◌, ap, subst, ◌∙◌}
use Rattle.vob_block.specs.Places.{place, HasPlaces}
use Rattle.vob_block.proofs.PlaceLemmas.{mask-is, place_from_test}
use Rattle.vob_block.proofs.bit_block.BitBlock.bit.Goals as goal

pub returns : goal.returns
returns g c =
    let number = g.Self.BitBlock.number in
    let w = g.Self.BitBlock.BITS in
    let j = c.args.j in
    let x = c.args.self in
    let one = ap number c.ONE.ensures ∙ g.met.Self.BitBlock.one_number_law in
    let none = ap number c.ZERO.ensures ∙ g.met.Self.BitBlock.zero_number_law in
    let mask = mask-is w j c.requires (number c.ONE.result) (number c.up.result) one
    c.up.ensures.within c.up.ensures.places in
    let places = subst (λ (m : ℕ). HasPlaces w (number c.band.result)
    (λ i. place i (number x) && place i m)) mask c.band.ensures.places in
    let tested = place_from_test w j c.requires (number x) (number c.band.result)
    (number c.ZERO.result) (g.Self.PartialEq.eq c.band.result c.ZERO.result) places
    c.band.ensures.within none (g.met.Self.BitBlock.equal_law c.band.result c.ZERO.result) in
    c.ne.ensures ∙ tested
