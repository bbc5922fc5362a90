-- What is read is transposed, and written.
use Rattle.vob_matrix.proofs.TurnLemmas.{AreTaken-tile}
use Rattle.vob_matrix.proofs.tiles.turn_tile.Goals as goal

pub returns-clause-taken : goal.returns-clause-taken
returns-clause-taken c = AreTaken-tile _ _ _ c.args.first c.args.last c.args.start c.args.end _ _
    c.requires.few c.requires.width c.load_words.ensures c.turn_words.ensures
    c.store_words.ensures.stored
