-- The first column with the name is found.
use Rattle.std.proofs.Common.{arith, inr, refl}
use Rattle.csv.specs.Records.{fields_of}
use Rattle.files_filter.proofs.AnswersLemmas.{first_place, no_column, not_empty}
use Rattle.files_filter.proofs.table.Table.place.Goals as goal

pub returns-then-is_called-clause-some : goal.returns-then-is_called-clause-some
returns-then-is_called-clause-some g c = record { some = not_empty c.args.name.now c.if-is_empty.ensures; here = c.if-is_called.ensures.0 refl; first = c.loop-place.invariant }

pub loop-place-preserved : goal.loop-place-preserved
loop-place-preserved g c =
    first_place (fields_of c.args.self.now.header) c.args.name.now c.loop-place.place c.loop-place.invariant
    (λ there. cc (c.if-is_called.ensures.1 there))

pub returns-clause-none : goal.returns-clause-none
returns-clause-none g c = inr (no_column (fields_of c.args.self.now.header) c.args.name.now c.loop-place.place
    (omega (arith, c.loop-place-test.false, c.len-place-end.ensures)) c.loop-place.invariant)
