-- The rest stands behind the eights, and is still as it was.
use Rattle.std.proofs.Common.{◌≡◌, ◌+◌, ◌-◌, ◌*◌, ◌/◌, subst, ℕ, map, arith}
use Rattle.vob_store.specs.Copying.{AreCopied}
use Rattle.vob_store.proofs.CopyLemmas.{AreCopied-blocks_down}
use Rattle.vob_store.proofs.shift.move_down.Goals as goal

pub returns : goal.returns
returns g c =
    let number = g.T.BitBlock.number in
    let w = g.T.BitBlock.BITS in
    let done = c.args.count / 8 * 8 in
    let all : done + (c.args.count - done) ≡ c.args.count = omega arith in
    subst (λ (n : ℕ). AreCopied w (c.args.first * w) (c.args.from * w + c.args.places) (n * w)
    (map number c.args.own.now) (map number c.args.own.now) (map number c.move_each_down.new.own))
    all (AreCopied-blocks_down w c.args.first c.args.from c.args.places done (c.args.count - done)
    c.requires.order c.move_eights_down.ensures c.move_each_down.ensures)
