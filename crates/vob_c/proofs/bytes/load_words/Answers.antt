-- Each word is that of its eight bytes.
use Rattle.std.proofs.Common.{◌∙◌, refl, arith}
use Rattle.std.proofs.lemmas.List.{length-set}
use Rattle.vob_c.proofs.BytesLemmas.{words_more}
use Rattle.vob_c.proofs.bytes.load_words.Goals as goal

pub loop-k-init : goal.loop-k-init
loop-k-init c = record { long = refl; each = λ i less. absurd (omega (arith, less)) }

pub loop-k-preserved : goal.loop-k-preserved
loop-k-preserved c =
    let h = c.loop-k.invariant in record {
      long = length-set c.loop-k.words c.loop-k.k c.word_at.result ∙ h.long;
      each = words_more c.args.most_first c.args.bytes.now c.loop-k.words c.loop-k.k c.word_at.result
          (omega (arith, c.loop-k-test.true, h.long, c.requires)) c.word_at.ensures h.each;
    }

pub returns-clause-each : goal.returns-clause-each
returns-clause-each c = λ i less.
    c.loop-k.invariant.each i (omega (arith, less, c.loop-k.auto.k-end))
