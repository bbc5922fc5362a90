-- One more name differs.
use Rattle.std.proofs.Common.{arith}
use Rattle.csv.specs.Records.{fields_of}
use Rattle.files_filter.proofs.HeaderLemmas.{all_names, names_none, names_up}
use Rattle.files_filter.proofs.table.Table.check_names.Goals as goal

pub loop-place-init : goal.loop-place-init
loop-place-init g c = record {
  names = rw (c.new-names.ensures) (names_none (fields_of c.args.self.now.header));
  differ = λ before less. absurd (omega (arith, less));
}

pub loop-place-preserved : goal.loop-place-preserved
loop-place-preserved g c =
    let added = c.in_ok-add_name.ensures.ok c.loop-place.invariant.names in record {
      names = added.0;
      differ = names_up (fields_of c.args.self.now.header) c.loop-place.place c.loop-place.invariant.differ added.1;
    }

pub returns-clause-ok : goal.returns-clause-ok
returns-clause-ok g c =
    all_names (fields_of c.args.self.now.header) c.loop-place.place
    (omega (arith, c.loop-place-test.false, c.len-place-end.ensures)) c.loop-place.invariant.differ
