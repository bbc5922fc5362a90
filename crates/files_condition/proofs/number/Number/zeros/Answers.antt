-- The zeros of the digits before the point, and behind it if these are all.
use Rattle.std.specs.List.{prefix_len}
use Rattle.files_condition.specs.Padded.{is_zero}
use Rattle.std.proofs.Common.{◌≡◌, length, arith, sym, ◌∙◌}
use Rattle.std.proofs.lemmas.Bool.Decides.{nat_tests}
use Rattle.files_condition.proofs.NumberLemmas.{zeros-within, zeros-through}
use Rattle.files_condition.proofs.number.Number.zeros.Goals as goal

pub returns-then-count-self-clause-count : goal.returns-then-count-self-clause-count
returns-then-count-self-clause-count c = rw (← c.self.view_is)
    (c.zeros-count.ensures.count ∙ sym (zeros-within c.self.inside.whole.now c.self.inside.fraction.now
    (grind (arith, nat_tests, c.zeros-count.ensures.count, c.if-count-self.true))))

pub returns-clause-count : goal.returns-clause-count
returns-clause-count c =
    let all : prefix_len is_zero c.self.inside.whole.now ≡ length c.self.inside.whole.now =
    grind (arith, nat_tests, c.zeros-count.ensures.count, c.zeros-count.ensures.within, c.if-count-self.false) in
    rw (← c.self.view_is) (omega (
      arith,
      c.zeros-count.ensures.count,
      c.zeros.ensures.count,
      zeros-through c.self.inside.whole.now c.self.inside.fraction.now all,
    ))
