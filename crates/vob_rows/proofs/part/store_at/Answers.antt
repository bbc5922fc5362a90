-- The kernel's clauses on blocks are those on bits, with the block as the other's only one.
use Rattle.std.proofs.Common.{◌≡◌, ◌+◌, ◌*◌, ◌-◌, [], ◌∷◌, length, map, refl, sym, ap, arith}
use borrow.Rule.Slice.PartMut.{put_mid}
use Rattle.vob_block.specs.Packing.{unpacking}
use Rattle.vob_block.proofs.PackingLemmas.{length-unpacking, take-unpacking}
use Rattle.vob.proofs.CopyLemmas.{HasCopied, copied_here, written-is}
use Rattle.vob.proofs.MovesLemmas.{own_blocks, own_inside}
use Rattle.vob.proofs.WordsLemmas.{one_canonical}
use Rattle.vob_rows.specs.Part.{blocks_of}
use Rattle.vob_rows.proofs.part.store_at.Given as given
use Rattle.vob_rows.proofs.part.store_at.Goals as goal
use Rattle.vob_rows.proofs.part.store_at.Goals.{After-write_bits}

pub write_bits-requires-clause-inside : goal.write_bits-requires-clause-inside
write_bits-requires-clause-inside g c =
    let number = g.T.BitBlock.number in
    let w = g.T.BitBlock.BITS in
    let row = blocks_of c.args.count c.args.blocks.now c.args.i in
    own_inside number w g.met.T.BitBlock.wide_law c.args.columns row c.requires.row.canonical refl
    c.args.range.start (c.args.range.end - c.args.range.start)
    (omega (arith, c.requires.order, c.requires.inside, length-unpacking c.args.columns (map number row) w))

written : (g : given.Over) (c : After-write_bits g)
    → HasCopied g.T.BitBlock.BITS c.args.columns c.args.range.start 0
    (c.args.range.end - c.args.range.start) (unpacking c.args.columns (map g.T.BitBlock.number
    (blocks_of c.args.count c.args.blocks.now c.args.i)) g.T.BitBlock.BITS)
    (unpacking g.T.BitBlock.BITS (g.T.BitBlock.number c.args.word ∷ []) g.T.BitBlock.BITS)
    (map g.T.BitBlock.number c.write_bits.new.own)
written g c =
    let number = g.T.BitBlock.number in
    let w = g.T.BitBlock.BITS in
    let wide = g.met.T.BitBlock.wide_law in
    let row = blocks_of c.args.count c.args.blocks.now c.args.i in
    let word = number c.args.word in
    copied_here number w wide c.args.columns c.args.range.start 0
    (c.args.range.end - c.args.range.start) row (c.args.word ∷ [])
    (unpacking c.args.columns (map number row) w) (unpacking w (word ∷ []) w)
    c.requires.row.canonical refl (own_blocks number w wide w (c.args.word ∷ [])
    (one_canonical w wide word c.in_range.ensures) refl)
    (omega (arith, c.requires.order, c.requires.inside, length-unpacking c.args.columns (map number row) w))
    refl refl c.write_bits.auto.own c.write_bits.ensures.within c.write_bits.ensures.copied

pub returns-clause-put : goal.returns-clause-put
returns-clause-put g c =
    let number = g.T.BitBlock.number in
    let w = g.T.BitBlock.BITS in
    let done = written g (goal.at.returns-clause-put g c).After-write_bits in
    let n = c.args.range.end - c.args.range.start in
    let start = c.args.i * c.args.count in
    let one = number c.args.word ∷ [] in
    let whole : start + c.args.count - start ≡ c.args.count = omega arith in
    record {
      new = c.write_bits.new.own;
      stores = record {
        canonical = done.canonical;
        bits = written-is (unpacking n one w) done.each
            (sym (take-unpacking n w one w (omega (arith, c.requires.few)))) (length-unpacking n one w)
            (omega (
              arith,
              c.requires.order,
              c.requires.inside,
              length-unpacking c.args.columns
                  (map number (blocks_of c.args.count c.args.blocks.now c.args.i)) w,
            ));
      };
      put = ap (λ k. put_mid start k c.args.blocks.now c.write_bits.new.own) whole;
    }

pub returns-clause-copied : goal.returns-clause-copied
unfolding returns-clause-put
returns-clause-copied g c =
    rw (← (returns-clause-put g c).stores.bits)
    (written g (goal.at.returns-clause-copied g c).After-write_bits).each
