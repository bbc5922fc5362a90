-- The columns of blank words are marked.
use Rattle.std.proofs.Common.{◌∙◌, false, replicate, ap, refl, sym}
use Rattle.vob_matrix.proofs.MatrixLemmas.{IsTransposed-marked}
use Rattle.vob_c.specs.Rows.{matrix_in, rows_in}
use Rattle.vob_c.proofs.LinkingLemmas.{blank_in, blank_words, no_transpose, no_words}
use Rattle.vob_c.proofs.RowsLemmas.{length-rows_in}
use Rattle.vob_c.proofs.transposes.transpose.Goals as goal

pub mark_columns-requires-clause-made : goal.mark_columns-requires-clause-made
mark_columns-requires-clause-made c = blank_words c.args.columns c.args.rows c.clear.new.words
    (c.clear.ensures ∙ ap (λ n. replicate n 0) c.requires.made)

pub returns-clause-transposed : goal.returns-clause-transposed
returns-clause-transposed c =
    let rows = c.args.rows in
    let columns = c.args.columns in
    let count = length-rows_in rows columns c.args.words.now in
    IsTransposed-marked (matrix_in rows columns c.args.words.now)
    (matrix_in columns rows c.mark_columns.new.made) (rows_in columns rows c.clear.new.words)
    (rows_in columns rows c.mark_columns.new.made)
    (blank_in columns rows c.clear.new.words (c.clear.ensures
    ∙ ap (λ n. replicate n 0) c.requires.made) ∙ ap (λ n. replicate columns (replicate n false)) (sym count))
    refl (sym count) c.mark_columns.ensures.marked

pub returns-then-made-eq0-clause-canonical : goal.returns-then-made-eq0-clause-canonical
returns-then-made-eq0-clause-canonical c = no_words c.args.columns c.args.rows c.args.made.now
    (sym c.requires.made ∙ c.if-made-eq0.true) c.requires.made

pub returns-then-made-eq0-clause-transposed : goal.returns-then-made-eq0-clause-transposed
returns-then-made-eq0-clause-transposed c = no_transpose c.args.columns c.args.rows c.args.made.now
    (sym c.requires.made ∙ c.if-made-eq0.true) c.args.words.now
