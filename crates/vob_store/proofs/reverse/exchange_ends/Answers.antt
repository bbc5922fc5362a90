-- Both ends are read before either is written.
use Rattle.vob_store.proofs.ReversingLemmas.{AreExchanged-by}
use Rattle.vob_store.proofs.reverse.exchange_ends.Goals as goal

pub returns-clause-exchanged : goal.returns-clause-exchanged
returns-clause-exchanged g c = AreExchanged-by g.T.BitBlock.BITS c.args.start c.args.end
    c.args.count _ _ _ _ _ c.requires.few c.requires.apart c.reversed_at-low.ensures
    c.reversed_at-high.ensures c.write_bits.ensures.copied c.write_bits-2.ensures.copied
