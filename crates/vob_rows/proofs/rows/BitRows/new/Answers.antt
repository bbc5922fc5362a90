-- Blocks that are all empty store rows that are all false.
use Rattle.std.proofs.Common.{◌≡◌, ◌*◌, replicate, ap, ◌∙◌, rules}
use Rattle.std.specs.Prelude.{is_ok}
use Rattle.vob_block.specs.Packing.{need}
use Rattle.vob_rows.proofs.BlankLemmas.{blank_canonical, blank_rows, resized}
use Rattle.vob_rows.proofs.rows.BitRows.new.Given as given
use Rattle.vob_rows.proofs.rows.BitRows.new.Goals as goal
use Rattle.vob_rows.proofs.rows.BitRows.new.Goals.{In_ok-resize}

items : (g : given.Over) (c : In_ok-resize g) → c.resize.new.self.items
    ≡ replicate (c.args.rows * need c.args.columns g.T.BitBlock.BITS) c.ZERO.result
items g c =
    let count : c.in-Some.count ≡ c.args.rows * c.block_count.result = search rules in
    resized c.in_ok-blocks.blocks.items c.resize.new.self.items c.in-Some.count _ c.ZERO.result _
    c.in_ok-blocks.ensures.items c.in_ok-blocks.ensures.len (ap is_ok c.in_ok-resize.was)
    c.resize.ensures.items
    ∙ ap (λ m. replicate m c.ZERO.result) (count ∙ ap (λ m. c.args.rows * m) c.block_count.ensures)

pub invariant_of-result : goal.invariant_of-result
invariant_of-result g c = rw (items g (goal.at.invariant_of-result g c).In_ok-resize)
    (blank_canonical g.T.BitBlock.number g.T.BitBlock.BITS g.met.T.BitBlock.wide_law c.args.rows
    c.args.columns _ (ap g.T.BitBlock.number c.ZERO.ensures ∙ g.met.T.BitBlock.zero_number_law))

pub returns-clause-rows : goal.returns-clause-rows
returns-clause-rows g c = rw (items g (goal.at.returns-clause-rows g c).In_ok-resize)
    (blank_rows g.T.BitBlock.number g.T.BitBlock.BITS g.met.T.BitBlock.wide_law c.args.rows
    c.args.columns _ (ap g.T.BitBlock.number c.ZERO.ensures ∙ g.met.T.BitBlock.zero_number_law))
