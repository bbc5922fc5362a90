-- A block that is there has its number, and past the end there is 0.
use Rattle.std.proofs.Common.{◌∙◌, ap, sym, map, arith}
use Rattle.std.proofs.lemmas.List.{length-map, get_or_past}
use Rattle.vob_block.proofs.NumberLemmas.{number_read}
use Rattle.vob_store.proofs.load_store.read_or_zero.Goals as goal

pub returns-then-k-len-clause-block : goal.returns-then-k-len-clause-block
returns-then-k-len-clause-block g c = number_read g.T.BitBlock.number c.args.other.now.items c.args.k _
    c.block.ensures.block

pub returns-else-k-len-clause-block : goal.returns-else-k-len-clause-block
returns-else-k-len-clause-block g c =
    let number = g.T.BitBlock.number in
    ap number c.ZERO.ensures ∙ g.met.T.BitBlock.zero_number_law
    ∙ sym (get_or_past (map number c.args.other.now.items) c.args.k 0
    (omega (arith, length-map c.args.other.now.items number)))
