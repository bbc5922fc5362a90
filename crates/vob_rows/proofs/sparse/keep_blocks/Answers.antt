-- One block more is kept.
use Rattle.std.proofs.Common.{◌≡◌, ◌∙◌, length, sym, arith, map-id}
use Rattle.vob_block.specs.Packing.{packing}
use Rattle.vob_rows.proofs.SparseLemmas.{kept_all, kept_inside, kept_more, kept_start}
use Rattle.vob_rows.proofs.sparse.keep_blocks.Goals as goal
use Rattle.vob_rows.proofs.sparse.keep_blocks.Goals.{After-get_storage-blocks}

packed : (c : After-get_storage-blocks) → c.get_storage-blocks.result.now ≡ packing c.args.row.now 64
packed c = sym (map-id c.get_storage-blocks.result.now) ∙ c.get_storage-blocks.ensures

pub loop-k-init : goal.loop-k-init
loop-k-init c =
    kept_start _ _ _ (packed (goal.at.loop-k-init c).After-get_storage-blocks) c.args.kept.now.items

pub overflow_mul-k : goal.overflow_mul-k
overflow_mul-k c =
    let inside = kept_inside c.args.from _ _ (packed (goal.at.overflow_mul-k c).After-get_storage-blocks)
    c.args.kept.now.items c.loop-k.k c.loop-k-test.true in
    omega (arith, inside, c.requires)

pub overflow_add-from : goal.overflow_add-from
overflow_add-from c =
    let inside = kept_inside c.args.from _ _ (packed (goal.at.overflow_add-from c).After-get_storage-blocks)
    c.args.kept.now.items c.loop-k.k c.loop-k-test.true in
    omega (arith, inside, c.requires)

pub loop-k-preserved : goal.loop-k-preserved
loop-k-preserved c =
    kept_more _ _ _ (packed (goal.at.loop-k-preserved c).After-get_storage-blocks) _ _ _ _
    c.loop-k-test.true c.loop-k.invariant c.in_ok-keep_block.ensures

pub returns : goal.returns
returns c =
    kept_all _ _ _ (packed (goal.at.returns c).After-get_storage-blocks) _ _ c.loop-k.k
    (omega (arith, c.loop-k-test.false)) c.loop-k.invariant
