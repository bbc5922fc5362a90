-- The places of the number are those of its bytes.
use Rattle.std.proofs.Common.{◌∙◌, ℕ, arith}
use Rattle.std.proofs.lemmas.List.{length-replicate, length-set}
use Rattle.vob_store.proofs.LowBytesLemmas.{low_places}
use Rattle.vob_c.proofs.BytesLemmas.{eight_more, eight_places, small_set, zeros_small}
use Rattle.vob_c.proofs.bytes.word_at.Goals as goal

pub loop-j-init : goal.loop-j-init
loop-j-init c = record {
  long = length-replicate {A = ℕ} 8 0;
  small = zeros_small;
  each = λ k less. absurd (omega (arith, less));
}

pub loop-j-preserved : goal.loop-j-preserved
loop-j-preserved c =
    let eight = c.loop-j.eight in
    let h = c.loop-j.invariant in
    record {
      long = length-set eight c.loop-j.j c.turned.result ∙ h.long;
      small = small_set eight c.loop-j.j c.turned.result (omega (arith, h.long, c.loop-j-test.true))
          c.turned.type_inv h.small;
      each = eight_more c.args.most_first c.args.bytes.now eight c.args.at c.loop-j.j c.turned.result
          (omega (arith, h.long, c.loop-j-test.true)) c.turned.ensures h.each;
    }

pub returns : goal.returns
returns c = eight_places c.args.most_first c.args.bytes.now c.loop-j.eight c.args.at
    c.from_le_bytes.result (low_places c.loop-j.eight c.loop-j.invariant.small c.from_le_bytes.result
    c.from_le_bytes.ensures)
    (λ j less. c.loop-j.invariant.each j (omega (arith, less, c.loop-j-test.false)))
