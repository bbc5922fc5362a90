-- The text is read on until a row is whole.
use Rattle.std.proofs.Common.{◌≡◌, ◌∙◌, [], None, arith, length, rules, sym}
use Rattle.std.proofs.lemmas.Bool.{eqb-true}
use Rattle.std.proofs.lemmas.List.{nil_from_length}
use Rattle.files_csv.specs.Whole.{rows_at_hand}
use Rattle.files_csv.proofs.ProgressLemmas.{nothing_more}
use Rattle.files_csv.proofs.whole.WholeRows.fill.Goals.{in-Err, in-Ok, in-Ok-eq0-2}
use Rattle.files_csv.proofs.whole.WholeRows.fill.Goals as goal

pub loop-init : goal.loop-init
loop-init g c =
    let none : rows_at_hand c.args.self.now ≡ [] =
    sym c.rows.ensures ∙ nil_from_length c.rows.result.now
    (eqb-true (length c.rows.result.now) 0 (sym c.if-not-is_empty.ensures)) in record {
      fresh = c.forget.ensures.fresh;
      unread = c.forget.ensures.unread;
      progress = λ text has. c.forget.ensures.progress text none has;
    }

pub returns-in-Ok-eq0-clause-progress : goal.returns-in-Ok-eq0-clause-progress
returns-in-Ok-eq0-clause-progress g c = λ text has.
    let filled = rw c.in-Ok-eq0.is at c.read_more.ensures.filled in
    let same : c.loop.self.filled ≡ c.read_more.new.self.filled = omega (arith, filled, c.in-Ok-eq0.field-0-test) in
    rw same at (c.read_more.ensures.progress text (c.loop.invariant.progress text has))

pub returns-in-Ok-eq0-clause-is_csv : goal.returns-in-Ok-eq0-clause-is_csv
returns-in-Ok-eq0-clause-is_csv g c = λ false text has.
    let none : c.loop.self.refused ≡ None = search rules in
    let end = rw c.in-Ok-eq0.is at c.read_more.ensures.end in
    nothing_more g.R.Read.remaining text c.read_more.new.self c.loop.self.filled
    (c.read_more.ensures.progress text (c.loop.invariant.progress text has)) c.if-self-eq0.true
    (c.read_more.ensures.refused ∙ none) (end c.in-Ok-eq0.field-0-test)

pub returns-in-Err-2-clause-progress : goal.returns-in-Err-2-clause-progress
returns-in-Err-2-clause-progress g c = λ text has.
    rw (sym c.in-Err.ensures.filled) at (c.read_more.ensures.progress text (c.loop.invariant.progress text has))

pub loop-preserved : goal.loop-preserved
loop-preserved g c =
    let none : c.loop.self.refused ≡ None = search rules in
    let still = c.read_more.ensures.refused ∙ none in record {
      fresh = search rules;
      unread = search rules;
      progress = λ text has.
          let now = c.read_more.ensures.progress text (c.loop.invariant.progress text has) in
          elim c.match-read_more.branch [
            | in-Ok-eq0-2 w ↦
                let filled = rw w.in-Ok-eq0.is at c.read_more.ensures.filled in
                let same : c.loop.self.filled ≡ c.read_more.new.self.filled =
                omega (arith, filled, w.in-Ok-eq0.field-0-test) in
                let end = rw w.in-Ok-eq0.is at c.read_more.ensures.end in
                rw w.self-is (w.end.ensures.progress text still (end w.in-Ok-eq0.field-0-test) (rw same at now))
            | in-Ok w ↦ rw w.self-is (w.scan.ensures.progress text still now)
            | in-Err w ↦ rw w.self-is (rw (sym w.in-Err.ensures.filled) at now)
          ];
    }
