-- Eight bytes are the places of the next block.
use Rattle.std.specs.Prelude.{is_ok}
use Rattle.std.proofs.Common.{◌≡◌, ◌<◌, ◌++◌, ℕ, true, List, length, get_or, refl, sym, ap, subst, ◌∙◌, arith, rules}
use Rattle.std.specs.Int.{w64, from_le_bytes}
use Rattle.std.proofs.lemmas.Nat.{from_le_bytes-to_le_bytes_8}
use Rattle.std.proofs.lemmas.Bool.{cond-true}
use Rattle.std.proofs.lemmas.List.{length-append}
use Rattle.vob_store.proofs.LowBytesLemmas.{low_bits-eight, low_places, small-append}
use Rattle.vob_store.proofs.WordLemmas.{bytes_small}
use Rattle.vob_store.proofs.le_bytes.push_low_words.Goals as goal

pub loop-k-preserved : goal.loop-k-preserved
loop-k-preserved c =
    let h = c.loop-k in
    let old = h.bytes.items in
    let eight = c.to_le_bytes.result in
    let long : length eight ≡ 8 = search rules in
    let done : is_ok c.extend_from_slice.result ≡ true =
    c.extend_from_slice.ensures.succeeds (omega (
      arith,
      h.bytes.ok.0,
      h.invariant.count,
      h.invariant.room,
      long,
      c.loop-k-test.true,
    )) in
    let items : c.extend_from_slice.new.self.items ≡ old ++ eight =
    c.extend_from_slice.ensures.items
    ∙ cond-true (is_ok c.extend_from_slice.result) (old ++ eight) old done in
    let x = get_or c.args.blocks.now h.k 0 in
    let small = λ (i : ℕ). subst (λ (bs : List ℕ). get_or bs i 0 < 256) (sym c.to_le_bytes.ensures)
    (bytes_small 8 0 x i) in
    let back : from_le_bytes w64 eight ≡ x = ap (from_le_bytes w64) c.to_le_bytes.ensures
    ∙ from_le_bytes-to_le_bytes_8 x (search rules) in
    rw items (record {
      count = omega (arith, length-append old eight, long, h.invariant.count);
      bits = low_bits-eight c.args.blocks.now old eight h.k x h.invariant.count long refl
          (low_places eight small x (sym back)) h.invariant.bits;
      within = small-append old eight h.invariant.within small;
      room = omega (arith, h.invariant.room, c.extend_from_slice.ensures.capacity);
    })
