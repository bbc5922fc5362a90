-- As many items as find room are gathered and put there.
use Rattle.std.proofs.Common.{◌≡◌, ◌-◌, ◌%◌, ◌^◌, [], min, refl, arith, mod-lt, add-zero, append-nil}
use Rattle.vob_store.proofs.AppendLemmas.{HasPlaces-fewer}
use Rattle.vob_store.proofs.gather.fill_last.Goals as goal

pub returns-then-used-eq0-clause-added : goal.returns-then-used-eq0-clause-added
returns-then-used-eq0-clause-added g c = (
  [],
  refl,
  refl,
  rw (add-zero, append-nil)
      (record { canonical = c.requires.canonical; bits = refl }),
)

pub returns-clause-added : goal.returns-clause-added
returns-clause-added g c =
    let w = g.T.BitBlock.BITS in
    let h = c.gather-block.ensures.gathered in
    let rest = mod-lt c.args.len g.met.T.BitBlock.wide_law in
    let room : c.min-room.result ≡ min (w - c.args.len % w) (2 ^ 64 - 1 - c.args.len) =
    rw c.BITS-width.ensures at c.min-room.ensures in (
      h.bits,
      h.len,
      h.given,
      rw h.len at (c.extend_last.ensures h.bits (omega (arith, h.len, h.fits, rest, room))
          (HasPlaces-fewer h.places (omega arith))),
    )
