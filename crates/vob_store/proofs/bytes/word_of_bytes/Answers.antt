-- The bytes of the word are the bytes, and each is reversed.
use Rattle.std.proofs.Common.{rules}
use Rattle.vob_store.proofs.ReverseLemmas.{reversed_bits}
use Rattle.vob_store.proofs.bytes.word_of_bytes.Goals as goal

pub returns-clause-places : goal.returns-clause-places
returns-clause-places c = reversed_bits c.args.bytes (search rules) c.reverse_each_byte.result
    (rw c.from_le_bytes.ensures at c.reverse_each_byte.ensures)
