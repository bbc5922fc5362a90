-- Each word has its turn.
use Rattle.std.proofs.Common.{◌∙◌, refl, arith}
use Rattle.vob_c.proofs.bytes.store_words.Goals as goal

pub loop-k-init : goal.loop-k-init
loop-k-init c = record { long = refl; each = λ i less. absurd (omega (arith, less)) }

pub loop-k-preserved : goal.loop-k-preserved
loop-k-preserved c = record {
  long = c.store_word.ensures.long ∙ c.loop-k.invariant.long;
  each = λ i less. c.store_word.ensures.each c.loop-k.invariant.each i (omega (arith, less));
}

pub returns-clause-each : goal.returns-clause-each
returns-clause-each c = λ i less.
    c.loop-k.invariant.each i (omega (arith, less, c.loop-k-test.false))
