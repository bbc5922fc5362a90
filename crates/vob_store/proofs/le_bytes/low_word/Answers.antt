-- The places of the number are those of its bytes.
use Rattle.std.proofs.Common.{rules}
use Rattle.vob_store.proofs.LowBytesLemmas.{low_places}
use Rattle.vob_store.proofs.le_bytes.low_word.Goals as goal

pub returns-clause-places : goal.returns-clause-places
returns-clause-places c = low_places c.args.bytes (search rules) c.from_le_bytes.result
    c.from_le_bytes.ensures
