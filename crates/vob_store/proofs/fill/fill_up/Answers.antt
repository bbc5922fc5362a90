-- The last block is filled up, and blocks of the one bit follow.
use Rattle.std.specs.Prelude.{is_ok}
use Rattle.std.proofs.Common.{◌∙◌, ◌*◌, ◌≤◌, map, length, arith}
use Rattle.std.proofs.lemmas.List.{length-map}
use Rattle.vob_block.specs.Packing.{unpacking}
use Rattle.vob_block.proofs.NeedLemmas.{need_enough}
use Rattle.vob_store.proofs.FillLemmas.{resized_is, Stores-filled_up}
use Rattle.vob_store.proofs.fill.fill_up.Goals as goal

pub fill_last-requires : goal.fill_last-requires
fill_last-requires g c = rw c.deref_mut.ensures.value c.requires.canonical

pub returns-clause-stores : goal.returns-clause-stores
returns-clause-stores g c =
    let w = g.T.BitBlock.BITS in
    let number = g.T.BitBlock.number in
    let olds = c.args.blocks.now.items in
    let filled = c.fill_last.new.blocks in
    let items = resized_is filled olds c.resize.new.self.items c.splat.result c.args.count
    c.args.blocks.now.len (is_ok c.resize.result)
    (c.fill_last.auto.blocks ∙ c.deref_mut.ensures.len)
    (omega (arith, c.requires.longer, c.args.blocks.now.ok.0))
    (c.resize.ensures.succeeds c.requires.room) c.resize.ensures.items in
    let enough : c.args.len ≤ length olds * w = rw (← c.requires.canonical.count, length-map) at
    (need_enough w g.met.T.BitBlock.wide_law c.args.len) in
    rw (items, c.args.blocks.now.ok.0) (Stores-filled_up number w g.met.T.BitBlock.wide_law
    c.args.len (length olds) c.args.count (unpacking c.args.len (map number olds) w) filled
    c.args.value c.splat.result enough c.requires.longer
    (rw c.deref_mut.ensures.value at c.fill_last.ensures) c.splat.ensures)
