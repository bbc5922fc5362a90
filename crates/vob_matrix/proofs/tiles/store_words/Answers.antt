-- A row has the bits that are written, and they become the places of its word.
use Rattle.std.proofs.Common.{◌∙◌, ◌+◌, refl, arith}
use Rattle.vob_matrix.proofs.TurnLemmas.{IsStored-more}
use Rattle.vob_matrix.proofs.tiles.store_words.Goals as goal

pub loop-k-preserved : goal.loop-k-preserved
loop-k-preserved c = record {
  stored = IsStored-more _ c.args.words.now c.args.first c.args.last c.args.start c.loop-k.k
      (c.args.start + c.loop-k.k) c.loop-k.rows.rows _ _
      (omega (arith, c.loop-k.invariant.stored.shape.count)) refl c.requires.width
      c.store.ensures.rows c.store.ensures.each c.loop-k.invariant.stored;
  columns = c.store.ensures.columns ∙ c.loop-k.invariant.columns;
}
