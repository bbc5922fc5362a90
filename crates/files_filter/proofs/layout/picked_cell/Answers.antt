-- A cell of those that are picked.
use Rattle.std.proofs.Common.{◌≡◌, ◌∙◌, ◌<◌, ◌≤◌, get_or, length, rules}
use Rattle.csv.specs.Records.{fields_of}
use Rattle.files_filter.proofs.LayoutLemmas.{picked_past, picked_there}
use Rattle.files_filter.proofs.layout.picked_cell.Goals as goal

pub returns-in-Some-get : goal.returns-in-Some-get
returns-in-Some-get c =
    let places = c.in-Some.places.items in
    let less : c.args.number < length places = search rules in
    let is : c.in-Some-get.place.now ≡ get_or places c.args.number 0 = search rules in
    rw (c.in-Some.is) (c.cell.ensures ∙ picked_there (fields_of c.args.row.now) places c.args.number _ less is)

pub returns-in-None-get : goal.returns-in-None-get
returns-in-None-get c =
    let places = c.in-Some.places.items in
    let past : length places ≤ c.args.number = search rules in
    rw (c.in-Some.is) (picked_past (fields_of c.args.row.now) places c.args.number past)
