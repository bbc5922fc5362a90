-- The bytes that are left come to the front.
use Rattle.std.proofs.Common.{arith, refl, rules}
use Rattle.files_csv.proofs.KeepLemmas.{forgets_on}
use Rattle.files_csv.proofs.WholeLemmas.{keeps_same, moved}
use Rattle.files_csv.proofs.whole.WholeRows.forget.Goals as goal

pub returns-clause-unread : goal.returns-clause-unread
returns-clause-unread g c =
    let rows = c.args.self.now in
    rw (c.copy_within.ensures.items) (keeps_same (g.R.Read.remaining rows.input)
    (moved rows.text.items rows.given rows.filled c.min-filled.result c.min-given.result
    (omega (arith, c.min-filled.ensures, c.len.ensures)) (omega (arith, c.min-given.ensures))))

pub returns-clause-progress : goal.returns-clause-progress
returns-clause-progress g c = λ text all.
    forgets_on g.R.Read.remaining text c.args.self.now _ c.min-filled.result c.min-given.result all (record {
      filled_is = omega (arith, c.min-filled.ensures, c.len.ensures);
      given_is = omega (arith, c.min-given.ensures);
      input = refl;
      part = refl;
      refused = refl;
      none_given = refl;
      filled_now = refl;
      whole = search rules;
      cell = search rules;
      bytes = search rules;
      lines = search rules;
      text = c.copy_within.ensures.items;
      inside = search rules;
    })
