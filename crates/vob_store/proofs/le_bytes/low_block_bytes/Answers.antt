-- All bytes of the blocks are cut to those that the bits need.
use Rattle.std.proofs.Common.{◌∙◌, arith}
use Rattle.std.proofs.lemmas.Bool.{false≢true}
use Rattle.vob_block.proofs.NeedLemmas.{need_least}
use Rattle.vob_store.proofs.WordLemmas.{need_of_bytes}
use Rattle.vob_store.proofs.LowBytesLemmas.{low_packing}
use Rattle.vob_store.proofs.le_bytes.low_block_bytes.Goals as goal

pub returns-in_err-bytes-clause-nothing : goal.returns-in_err-bytes-clause-nothing
returns-in_err-bytes-clause-nothing c = λ none.
    let few = need_least 64 (omega arith) c.args.len 0 (omega (arith, none)) in
    absurd (false≢true (c.in_err-bytes.ensures.succeeds (omega (arith, few, c.requires.count))))

pub returns-clause-bytes : goal.returns-clause-bytes
returns-clause-bytes c =
    let m = need_of_bytes c.args.len c.div_ceil.result c.div_ceil.ensures in
    c.truncate.ensures.items ∙ low_packing c.args.len c.div_ceil.result c.args.blocks.now
    c.push_low_words.new.bytes.items c.requires m c.push_low_words.ensures.count
    c.push_low_words.ensures.bits c.push_low_words.ensures.within
