-- One more name has its place.
use Rattle.std.specs.Result.{is_ok}
use Rattle.std.proofs.Common.{◌≡◌, ◌<◌, arith, length, refl, rules, true}
use Rattle.csv.specs.Records.{fields_of}
use Rattle.files_filter.specs.Columns.{IsColumn}
use Rattle.files_filter.proofs.AnswersLemmas.{matched_up}
use Rattle.files_filter.proofs.layout.places_of.Goals as goal

pub loop-name-preserved : goal.loop-name-preserved
loop-name-preserved g c =
    let less : c.loop-name.name-index < length c.args.names.now = omega (arith, c.loop-name-test.true) in
    let good : is_ok c.push.result ≡ true = search rules in
    rw (c.in_ok-push.ensures.items) (matched_up (λ name place. IsColumn (fields_of c.args.table.now.header) name.now place)
    c.args.names.now c.loop-name.name-index _ _ _ _ less refl c.loop-name.invariant c.in_ok-selected.ensures.ok)
