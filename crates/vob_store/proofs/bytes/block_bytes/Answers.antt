-- All bytes of the blocks are cut to those that the bits need.
use Rattle.std.proofs.Common.{ap, ◌∙◌, length, arith}
use Rattle.std.proofs.lemmas.Bool.{false≢true}
use Rattle.vob_block.proofs.NeedLemmas.{need_least}
use Rattle.vob_store.proofs.WordLemmas.{length-needed, bytes_list-needed, need_of_bytes}
use Rattle.vob_store.proofs.bytes.block_bytes.Goals as goal

pub returns-in_err-bytes-clause-nothing : goal.returns-in_err-bytes-clause-nothing
returns-in_err-bytes-clause-nothing c = λ none.
    let few = need_least 64 (omega arith) c.args.len 0 (omega (arith, none)) in
    absurd (false≢true (c.in_err-bytes.ensures.succeeds (omega (arith, few, c.requires.count))))

pub returns-clause-count : goal.returns-clause-count
returns-clause-count c =
    let m = need_of_bytes c.args.len c.div_ceil.result c.div_ceil.ensures in
    ap length c.truncate.ensures.items ∙ length-needed _ _ _ c.push_words.new.bytes.items c.requires
    m c.push_words.ensures.count c.push_words.ensures.bits ∙ m

pub returns-clause-bits : goal.returns-clause-bits
returns-clause-bits c =
    let m = need_of_bytes c.args.len c.div_ceil.result c.div_ceil.ensures in
    rw (c.truncate.ensures.items, ← m) (bytes_list-needed _ _ _ c.push_words.new.bytes.items
    c.requires m c.push_words.ensures.count c.push_words.ensures.bits)
