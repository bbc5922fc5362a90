-- All bytes at hand are scanned.
use Rattle.std.proofs.Common.{◌≡◌, ap, arith, inl, inr, length}
use Rattle.files_csv.proofs.whole.WholeRows.scan.Goals as goal

pub returns-clause-progress : goal.returns-clause-progress
returns-clause-progress g c = λ text none has.
    let same = c.loop-at.invariant.same in elim (c.loop-at.invariant.progress text none has) [
      | inl now ↦
          let whole : c.loop-at.at ≡ c.loop-at.self.filled =
          omega (
            arith,
            c.loop-at-test.false,
            c.min-at-end.ensures,
            c.len.ensures,
            same.filled,
            now.scanned,
            now.read.inside,
            ap (λ text. length text.items) same.text,
          ) in inl (rw whole at now)
      | inr was ↦ inr (inl (rw was.scanned at was))
    ]
