-- Numbers are read until no word is left.
use Rattle.std.proofs.Common.{◌≡◌, ◌≢◌, [], true, length, ap, ◌∙◌, arith, sym}
use Rattle.vob_lines.proofs.WordsLemmas.{no_numbers, number_more, all_numbers, no_number}
use Rattle.vob_lines.proofs.command.Words.numbers.Goals as goal

pub loop-self-init : goal.loop-self-init
loop-self-init c = rw c.new-values.ensures.items (no_numbers c.args.self.now)

-- a word that is none
pub returns-in_err-number-clause-err : goal.returns-in_err-number-clause-err
returns-in_err-number-clause-err c =
    let some : c.loop-self.self ≢ [] =
    λ none. let blank : c.is_blank.result ≡ true = c.is_blank.ensures.1 (c.self.view_is ∙ none) in
    grind arith in
    λ _ all. no_number _ _ _ c.loop-self.invariant some c.in_err-number.ensures.err.1 all

-- one more
pub loop-self-smaller : goal.loop-self-smaller
loop-self-smaller c = omega (arith, ap length c.in_ok-number.ensures.ok.first)

pub loop-self-preserved : goal.loop-self-preserved
loop-self-preserved c =
    rw c.in_ok-push.ensures.items
    (number_more _ _ _ _ _ c.loop-self.invariant c.in_ok-number.ensures.ok)

-- no word is left
pub returns-clause-ok : goal.returns-clause-ok
returns-clause-ok c =
    let blank : c.is_blank.result ≡ true = grind arith in
    let none : c.loop-self.self ≡ [] = sym c.self.view_is ∙ c.is_blank.ensures.0 blank in
    all_numbers _ _ _ c.loop-self.invariant none
