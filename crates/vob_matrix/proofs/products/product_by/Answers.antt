-- The rows and the table are blank at first, and of as many columns.
use Rattle.std.proofs.Common.{◌∙◌}
use Rattle.vob_matrix.proofs.ProductLemmas.{IsProduct-linked}
use Rattle.vob_matrix.proofs.products.product_by.Goals as goal

pub returns : goal.returns
returns c = IsProduct-linked c.args.by.now c.args.others.now c.add_products.new.rows _ c.columns.result
    (rw c.rows.ensures at c.in_ok-made.ensures.rows) (c.add_products.ensures.columns
    ∙ c.in_ok-made.ensures.columns ∙ c.columns.ensures.columns) c.add_products.ensures.linked
