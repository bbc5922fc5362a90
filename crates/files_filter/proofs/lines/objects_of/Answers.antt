-- The next row is written.
use Rattle.std.specs.Prelude.{map}
use Rattle.std.specs.Io.KnownBytes.{Appends}
use Rattle.std.specs.String.{string_bytes}
use Rattle.std.proofs.Common.{◌≡◌, ◌<◌, ◌≤◌, [], Some, ap, arith, get_or, length, refl, subst, sym}
use Rattle.std.proofs.lemmas.List.{drop_all, drop_more, get_or-map}
use Rattle.csv.specs.Records.{fields_of}
use Rattle.files_filter.specs.FilterText.{answered}
use Rattle.files_filter.specs.Layouts.{object_line, picked}
use Rattle.files_filter.specs.Written.{cells_of}
use Rattle.files_text.proofs.PrintedLemmas.{items_all, items_more, items_none}
use Rattle.files_filter.proofs.lines.objects_of.Goals as goal

pub loop-number-init : goal.loop-number-init
loop-number-init c = rw (c.new-text.ensures.items) (items_all _ _ _ _ refl)

pub loop-number-preserved : goal.loop-number-preserved
loop-number-preserved c =
    let rows = c.args.rows.now in
    let at = c.loop-number.number-index in
    let number = get_or c.args.numbers.now at 0 in
    let less : at < length c.args.numbers.now = omega (arith, c.loop-number-test.true) in
    let item = get_or rows number c.index-rows-number.result in
    let row : cells_of rows number ≡ fields_of item.cells =
    ap (λ answered. answered.0)
    (get_or-map answered rows number c.index-rows-number.result ([], []) (c.requires at 0 less)) in
    let keys = map (λ key. string_bytes key) c.args.keys.now in
    items_more _ _ _ _ _ _ _ number (drop_more c.args.numbers.now at 0 less) c.loop-number.invariant
    (subst (λ cells. Appends (Some c.loop-number.text.items) (Some c.put_object.new.output.items)
    (object_line keys (picked c.args.layout.now.places cells))) (sym row) c.in_ok-put_object.ensures.ok)

pub returns-clause-ok : goal.returns-clause-ok
returns-clause-ok c =
    let past : length c.args.numbers.now ≤ c.loop-number.number-index = omega (arith, c.loop-number-test.false) in
    items_none _ _ _ _ _ (drop_all c.loop-number.number-index c.args.numbers.now past) c.loop-number.invariant
