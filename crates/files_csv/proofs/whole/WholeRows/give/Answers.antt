-- The rows that are given are bytes less.
use Rattle.std.proofs.Common.{◌≡◌, ◌≤◌, arith, length, refl}
use Rattle.files_csv.specs.Whole.{rows_at_hand}
use Rattle.files_csv.proofs.KeepLemmas.{gives_on}
use Rattle.files_csv.proofs.WholeLemmas.{gives}
use Rattle.files_csv.proofs.whole.WholeRows.give.Goals as goal

pub returns-clause-bytes : goal.returns-clause-bytes
returns-clause-bytes g c =
    let self = c.args.self.now in
    let rows : c.rows-rows.result.now ≡ rows_at_hand self = c.rows-rows.ensures in
    let fits : c.min-count.result ≤ length c.rows-rows.result.now = omega (arith, c.min-count.ensures) in
    gives self.text.items self.given self.whole self.filled c.min-count.result (g.R.Read.remaining self.input)
    c.copy_from_slice.new.self _ (rw rows at fits) (rw rows at c.copy_from_slice.ensures.after)

pub returns-clause-progress : goal.returns-clause-progress
returns-clause-progress g c = λ text has.
    let rows : c.rows-rows.result.now ≡ rows_at_hand c.args.self.now = c.rows-rows.ensures in
    let fits : c.min-count.result ≤ length c.rows-rows.result.now = omega (arith, c.min-count.ensures) in
    gives_on g.R.Read.remaining text c.args.self.now _ c.min-count.result refl (rw rows at fits) has
