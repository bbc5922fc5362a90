-- A byte turned around has its places in reverse order.
use Rattle.std.proofs.Common.{◌∙◌, ap}
use Rattle.vob_block.specs.Places.{place}
use Rattle.vob_c.proofs.BytesLemmas.{turned_place}
use Rattle.vob_c.proofs.bytes.turned.Goals as goal

pub returns-then-most_first : goal.returns-then-most_first
returns-then-most_first c = λ j less. rw c.if-most_first.true
    (ap (place j) c.reverse_bits.ensures ∙ turned_place c.args.byte j less)
