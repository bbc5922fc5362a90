-- By the three exchanges.
use Rattle.vob_store.proofs.ReverseLemmas.{reversed_places}
use Rattle.vob_store.proofs.bytes.reverse_each_byte.Goals as goal

pub returns : goal.returns
returns c = reversed_places c.args.word c.exchange-pairs.result c.exchange-halves.result
    c.exchange.result c.exchange-pairs.ensures c.exchange-halves.ensures c.exchange.ensures
