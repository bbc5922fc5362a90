-- One more cell is picked.
use Rattle.std.proofs.Common.{◌∙◌, ◌<◌, ◌∷◌, ◌++◌, [], ap, arith, length}
use Rattle.csv.specs.Records.{fields_of}
use Rattle.files_filter.specs.Answers.{cell_at}
use Rattle.files_filter.proofs.LayoutLemmas.{more_picked}
use Rattle.files_filter.proofs.lines.picked.Goals as goal

pub loop-place-preserved : goal.loop-place-preserved
loop-place-preserved c =
    let less : c.loop-place.place-index < length c.args.places.now = omega (arith, c.loop-place-test.true) in
    let before = fields_of c.loop-place.part in record {
      fields = c.in_ok-push_field.ensures.fields
          ∙ ap (λ first. before ++ (first ++ c.cell.result.now) ∷ []) c.loop-place.invariant.whole
          ∙ more_picked (cell_at (fields_of c.args.row.now)) c.args.places.now c.loop-place.place-index before _ less
          c.loop-place.invariant.fields c.cell.ensures;
      whole = c.in_ok-push_field.ensures.partial;
    }
