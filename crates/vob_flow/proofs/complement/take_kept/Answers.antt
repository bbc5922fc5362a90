-- What the mask lets through is all, a row, or what a row doesn't have.
use Rattle.std.proofs.Common.{◌≡◌, ◌&&◌, ◌∙◌, ap, false, refl, replicate, sym, get_or, [], length}
use Rattle.std.proofs.lemmas.Bool.{false≢true}
use Rattle.std.proofs.lemmas.List.{length-replicate}
use Rattle.vob_block.specs.Pointwise.{pointwise, without}
use Rattle.vob_block.proofs.PointwiseLemmas.{length-pointwise}
use Rattle.vob.proofs.BitsLemmas.{AreCombined-pointwise, and_true, item_false, without_true}
use Rattle.vob_flow.proofs.ChangesLemmas.{Becomes-row}
use Rattle.vob_flow.proofs.GreatestLemmas.{not_drops}
use Rattle.vob_flow.proofs.complement.take_kept.Goals as goal

pub returns-in-All-clause-left : goal.returns-in-All-clause-left
returns-in-All-clause-left c =
    let columns = c.args.sets.now.columns in
    let long = c.columns-columns.ensures.long c.args.set [] c.requires.set
    ∙ c.columns-columns.ensures.columns in
    rw c.in-All.is (Becomes-row c.args.set _ (replicate columns false) c.requires.set
    c.fill_row.ensures.rows (length-replicate columns false ∙ sym long) (λ v less. (
      (λ e. absurd (false≢true (sym (item_false columns v) ∙ e))),
      (λ both. absurd (false≢true (sym both.1))),
    )))

pub returns-in-Keep-clause-left : goal.returns-in-Keep-clause-left
returns-in-Keep-clause-left c =
    let row = get_or c.args.sets.now.rows c.args.set [] in
    let kept = get_or c.in-Keep.kept.now.rows c.args.set [] in
    let fits = rw c.in-Keep.is at c.requires.masks in
    let same : length row ≡ length kept = c.columns-columns.ensures.long c.args.set [] c.requires.set
    ∙ c.columns-columns.ensures.columns ∙ sym fits.1 ∙ sym c.row.ensures.long
    ∙ ap length c.row.ensures.bits in
    rw c.in-Keep.is (Becomes-row c.args.set _ (pointwise without row kept) c.requires.set
    (rw c.row.ensures.bits at c.and_not_with.ensures.rows) (length-pointwise without row kept same)
    (λ v less. without_true row kept _ v (AreCombined-pointwise without row kept same refl)))

pub returns-in-Without-clause-left : goal.returns-in-Without-clause-left
returns-in-Without-clause-left c =
    let row = get_or c.args.sets.now.rows c.args.set [] in
    let others = get_or c.in-Without.others.now.rows c.args.set [] in
    let fits = rw c.in-Without.is at c.requires.masks in
    let same : length row ≡ length others = c.columns-columns.ensures.long c.args.set [] c.requires.set
    ∙ c.columns-columns.ensures.columns ∙ sym fits.1 ∙ sym c.row-in-Without.ensures.long
    ∙ ap length c.row-in-Without.ensures.bits in
    rw c.in-Without.is (Becomes-row c.args.set _ (pointwise ◌&&◌ row others) c.requires.set
    (rw c.row-in-Without.ensures.bits at c.and_with.ensures.rows) (length-pointwise ◌&&◌ row others same)
    (λ v less.
    let both = and_true row others _ v (AreCombined-pointwise ◌&&◌ row others same refl) in
    let drops = not_drops _ in (
      (λ e. let p = both.0 e in (p.0, drops.1 p.1)),
      (λ p. both.1 (p.0, drops.0 p.1)),
    )))
