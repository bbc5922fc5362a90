-- The blocks are the packing of the bits, and hold each of their ranks.
use Rattle.std.proofs.Common.{◌*◌, arith, length, map, ap, sym}
use Rattle.std.proofs.lemmas.List.{length-map}
use Rattle.vob_block.proofs.NeedLemmas.{need_enough}
use Rattle.vob_block.proofs.PackingLemmas.{length-packing, length-unpacking}
use Rattle.vob.proofs.SelectLemmas.{some_inside, IsIndexOfRank-blocks}
use Rattle.vob.proofs.SetsLemmas.{IsIndexOfRank-inside}
use Rattle.vob.proofs.vob.Vob.select.Goals as goal

pub index_of_rank-requires : goal.index_of_rank-requires
index_of_rank-requires g c =
    let w = g.T.BitBlock.BITS in
    let own = map g.T.BitBlock.number c.self.inside.vec.items in
    let long = ap (λ v. length v.bits) c.self.view_is in
    let held = length-unpacking c.self.inside.len own w in
    let bits = c.args.self.now.bits in
    let blocks = c.blocks-2.ensures.blocks in record {
      fits = λ i there.
          let inside = some_inside w g.met.T.BitBlock.wide_law bits _ blocks i there in
          omega (arith, inside, long, held);
    }

pub returns-clause-rank : goal.returns-clause-rank
returns-clause-rank g c =
    let w = g.T.BitBlock.BITS in
    let wide = g.met.T.BitBlock.wide_law in
    let bits = c.args.self.now.bits in
    let items = c.blocks-2.result.items in
    let many = ap (λ n. n * w) (sym (length-map items g.T.BitBlock.number)) in
    let whole = ap (λ xs. length xs * w) c.blocks-2.ensures.blocks in
    let need = ap (λ n. n * w) (length-packing w wide bits) in
    IsIndexOfRank-blocks w wide bits _ c.blocks-2.ensures.blocks c.args.k (length items * w)
    c.index_of_rank.result (omega (arith, many, whole, need, need_enough w wide (length bits)))
    c.index_of_rank.ensures.found

pub returns-clause-inside : goal.returns-clause-inside
returns-clause-inside g c = IsIndexOfRank-inside _ _ _ (returns-clause-rank g c)
