-- Six stages, of groups of half the size each.
use Rattle.std.proofs.Common.{refl}
use Rattle.vob_matrix.proofs.TileLemmas.{IsMask-looked, AreSquaresTurned-start, AreSquaresTurned-more, AreTurned-whole}
use Rattle.vob_matrix.proofs.tiles.turn_words.Goals as goal

pub exchange_all-requires-clause-mask : goal.exchange_all-requires-clause-mask
exchange_all-requires-clause-mask c = IsMask-looked 32 1 4294967295 refl

pub exchange_all-requires-2-clause-mask : goal.exchange_all-requires-2-clause-mask
exchange_all-requires-2-clause-mask c = IsMask-looked 16 2 281470681808895 refl

pub exchange_all-requires-3-clause-mask : goal.exchange_all-requires-3-clause-mask
exchange_all-requires-3-clause-mask c = IsMask-looked 8 4 71777214294589695 refl

pub exchange_all-requires-4-clause-mask : goal.exchange_all-requires-4-clause-mask
exchange_all-requires-4-clause-mask c = IsMask-looked 4 8 1085102592571150095 refl

pub exchange_all-requires-5-clause-mask : goal.exchange_all-requires-5-clause-mask
exchange_all-requires-5-clause-mask c = IsMask-looked 2 16 3689348814741910323 refl

pub exchange_all-requires-6-clause-mask : goal.exchange_all-requires-6-clause-mask
exchange_all-requires-6-clause-mask c = IsMask-looked 1 32 6148914691236517205 refl

pub returns : goal.returns
returns c = AreTurned-whole _ _
    (AreSquaresTurned-more 1 32 _ _ _
    (AreSquaresTurned-more 2 16 _ _ _
    (AreSquaresTurned-more 4 8 _ _ _
    (AreSquaresTurned-more 8 4 _ _ _
    (AreSquaresTurned-more 16 2 _ _ _
    (AreSquaresTurned-more 32 1 _ _ _ (AreSquaresTurned-start _) c.exchange_all.ensures)
    c.exchange_all-2.ensures)
    c.exchange_all-3.ensures)
    c.exchange_all-4.ensures)
    c.exchange_all-5.ensures)
    c.exchange_all-6.ensures)
