-- Eight bytes are the places of the next block.
use Rattle.std.specs.Prelude.{is_ok}
use Rattle.std.proofs.Common.{◌≡◌, ◌++◌, true, length, refl, ◌∙◌, arith, rules}
use Rattle.std.proofs.lemmas.Bool.{cond-true}
use Rattle.std.proofs.lemmas.List.{length-append}
use Rattle.vob_store.proofs.WordLemmas.{bits-eight}
use Rattle.vob_store.proofs.bytes.push_words.Goals as goal

pub loop-k-preserved : goal.loop-k-preserved
loop-k-preserved c =
    let h = c.loop-k in
    let old = h.bytes.items in
    let eight = c.bytes_of_word.result in
    let long : length eight ≡ 8 = search rules in
    let done : is_ok c.extend_from_slice.result ≡ true =
    c.extend_from_slice.ensures.succeeds (omega (
      arith,
      h.bytes.ok.0,
      h.invariant.count,
      h.invariant.room,
      long,
      c.loop-k-test.true,
    )) in
    let items : c.extend_from_slice.new.self.items ≡ old ++ eight =
    c.extend_from_slice.ensures.items
    ∙ cond-true (is_ok c.extend_from_slice.result) (old ++ eight) old done in
    rw items (record {
      count = omega (arith, length-append old eight, long, h.invariant.count);
      bits = bits-eight c.args.blocks.now old eight h.k _ h.invariant.count long refl
          c.bytes_of_word.ensures h.invariant.bits;
      room = omega (arith, h.invariant.room, c.extend_from_slice.ensures.capacity);
    })
