-- The eights stand before the rest, and are still as they were.
use Rattle.std.proofs.Common.{◌≡◌, ◌+◌, ◌-◌, ◌*◌, ◌/◌, subst, ℕ, map, arith}
use Rattle.vob_store.specs.Copying.{AreCopied}
use Rattle.vob_store.proofs.CopyLemmas.{AreCopied-blocks_up}
use Rattle.vob_store.proofs.shift.move_up.Goals as goal

pub returns : goal.returns
returns g c =
    let number = g.T.BitBlock.number in
    let w = g.T.BitBlock.BITS in
    let done = c.args.count / 8 * 8 in
    let all : done + (c.args.count - done) ≡ c.args.count = omega arith in
    subst (λ (n : ℕ). AreCopied w (c.args.first * w) (c.args.from * w + c.args.places) (n * w)
    (map number c.args.own.now) (map number c.args.own.now) (map number c.move_eights_up.new.own))
    all (AreCopied-blocks_up w c.args.first c.args.from c.args.places done (c.args.count - done)
    c.requires.order c.requires.below c.move_each_up.ensures c.move_eights_up.ensures)
