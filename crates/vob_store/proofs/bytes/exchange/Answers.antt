-- Place by place, through the shifts and the masks.
use Rattle.std.proofs.Common.{◌+◌, ◌-◌, ◌<◌, ◌&&◌, ◌||◌, leb, ltb, ap, ◌∙◌, arith}
use Rattle.vob_block.specs.Places.{place}
use Rattle.vob_store.proofs.bytes.exchange.Goals as goal

pub returns : goal.returns
returns g c =
    let w = g.T.BitBlock.BITS in
    let number = g.T.BitBlock.number in
    let n = c.args.by in
    let m = number c.args.mask in
    record {
      each = λ j h.
          let inside : j - n < w = omega (arith, h) in
          c.bor.ensures.places.each j h
          ∙ ap (λ b. b || place j (number c.up.result))
          (c.band.ensures.places.each j h
          ∙ ap (λ b. b && place j m) (c.down.ensures.places.each j h))
          ∙ ap (λ b. ((ltb (j + n) w && place (j + n) (number c.args.block)) && place j m) || b)
          (c.up.ensures.places.each j h ∙ ap (λ b. leb n j && b)
          (c.band-2.ensures.places.each (j - n) inside));
    }
