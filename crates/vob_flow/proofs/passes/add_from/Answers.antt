-- What the mask lets through is a row, or what it and the mask's row combine to.
use Rattle.std.proofs.Common.{◌≡◌, ◌&&◌, ◌∙◌, true, ap, refl, sym, get_or, [], length}
use Rattle.vob_block.specs.Pointwise.{pointwise, without}
use Rattle.vob_block.proofs.PointwiseLemmas.{length-pointwise}
use Rattle.vob_flow.proofs.DrawLemmas.{HasGained-row, kept_of, left_of}
use Rattle.vob_flow.proofs.passes.add_from.Goals as goal

pub returns-in-All-clause-gained : goal.returns-in-All-clause-gained
returns-in-All-clause-gained c =
    let sets = c.args.sets.now.rows in
    let long = c.columns-columns.ensures.long in
    rw c.in-All.is (HasGained-row sets c.args.set c.args.source (λ v. true)
    (get_or sets c.args.source []) _ _ c.requires.set
    (long c.args.set [] c.requires.set ∙ sym (long c.args.source [] c.requires.source))
    (λ v. ((λ e. (refl, e)), (λ p. p.1))) c.or_row.ensures.rows c.or_row.ensures.more)

pub returns-in-Keep-clause-gained : goal.returns-in-Keep-clause-gained
returns-in-Keep-clause-gained c =
    let sets = c.args.sets.now.rows in
    let long = c.columns-columns.ensures.long in
    let source = get_or sets c.args.source [] in
    let fits = rw c.in-Keep.is at c.requires.masks in
    let kept = get_or c.in-Keep.kept.now.rows c.args.set [] in
    let same : length source ≡ length kept = long c.args.source [] c.requires.source
    ∙ c.columns-columns.ensures.columns ∙ sym fits.1 ∙ sym c.row.ensures.long
    ∙ ap length c.row.ensures.bits in
    rw c.in-Keep.is (HasGained-row sets c.args.set c.args.source _ (pointwise ◌&&◌ source kept) _ _
    c.requires.set (long c.args.set [] c.requires.set ∙ sym (long c.args.source [] c.requires.source)
    ∙ sym (length-pointwise ◌&&◌ source kept same)) (kept_of source kept same)
    (rw c.row.ensures.bits at c.or_row_and.ensures.rows) c.or_row_and.ensures.more)

pub returns-in-Without-clause-gained : goal.returns-in-Without-clause-gained
returns-in-Without-clause-gained c =
    let sets = c.args.sets.now.rows in
    let long = c.columns-columns.ensures.long in
    let source = get_or sets c.args.source [] in
    let others = get_or c.in-Without.others.now.rows c.args.set [] in
    let fits = rw c.in-Without.is at c.requires.masks in
    let same : length source ≡ length others = long c.args.source [] c.requires.source
    ∙ c.columns-columns.ensures.columns ∙ sym fits.1 ∙ sym c.row-in-Without.ensures.long
    ∙ ap length c.row-in-Without.ensures.bits in
    rw c.in-Without.is (HasGained-row sets c.args.set c.args.source _ (pointwise without source others) _
    _ c.requires.set (long c.args.set [] c.requires.set ∙ sym (long c.args.source [] c.requires.source)
    ∙ sym (length-pointwise without source others same)) (left_of source others same)
    (rw c.row-in-Without.ensures.bits at c.or_row_and_not.ensures.rows) c.or_row_and_not.ensures.more)
