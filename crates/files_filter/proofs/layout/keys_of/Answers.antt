-- One more name is a key.
use Rattle.std.specs.Result.{is_ok}
use Rattle.std.specs.String.{string_bytes}
use Rattle.std.proofs.Common.{◌≡◌, ◌∙◌, ◌<◌, ◌∷◌, [], ap, arith, length, rules, true}
use Rattle.std.proofs.lemmas.List.{map-append}
use Rattle.csv.specs.Records.{fields_of}
use Rattle.files_forms.specs.Forms.{json_name}
use Rattle.files_filter.specs.Layouts.{picked}
use Rattle.files_filter.proofs.LayoutLemmas.{more_turned}
use Rattle.files_filter.proofs.layout.keys_of.Goals as goal

pub loop-number-preserved : goal.loop-number-preserved
loop-number-preserved c =
    let cells = picked c.args.places.now (fields_of c.args.header.now) in
    let less : c.loop-number.number < length cells =
    omega (arith, c.loop-number-test.true, c.width-number-end.ensures) in
    let good : is_ok c.push.result ≡ true = search rules in
    rw (
      c.in_ok-push.ensures.items,
      map-append (λ key. string_bytes key) c.loop-number.keys.items (c.in_ok-key.field-0 ∷ []),
    )
    (more_turned json_name cells c.loop-number.number _ _ less c.loop-number.invariant
    (c.in_ok-key.ensures.ok ∙ ap json_name c.picked_cell.ensures))
