-- The blocks were as many as the bits need where they are masked, and what they then are is taken.
use Rattle.std.proofs.Common.{◌≡◌, false, not, length, map, refl, sym, inl, ◌∙◌}
use Rattle.std.specs.Prelude.{◌==◌, ◌&&◌}
use Rattle.std.proofs.lemmas.List.{length-map}
use Rattle.vob_block.specs.Packing.{need}
use Rattle.vob_run.specs.Call.{FromRaw}
use Rattle.vob_run.specs.Blocks.{masked}
use Rattle.vob_run.specs.Run.{lists}
use Rattle.vob_run.proofs.RawLemmas.{step-from_raw, taken_step, no_copy_step}
use Rattle.vob_run.proofs.calls.raw.from_raw.Goals as goal

pub returns-then-not-can_take : goal.returns-then-not-can_take
returns-then-not-can_take g c =
    let many = length-map c.args.blocks.now g.T.BitBlock.number in
    inl (rw (many, ← c.if-not-can_take.ensures) refl)

pub returns-in-Ok : goal.returns-in-Ok
returns-in-Ok g c =
    let width = g.T.BitBlock.BITS in
    let items = c.args.vobs.now.items in
    let len = c.args.len in
    let mask = c.args.mask in
    let blocks = map g.T.BitBlock.number c.args.blocks.now in
    let many = length-map c.args.blocks.now g.T.BitBlock.number in
    let enough : (mask && not (length blocks == need len width)) ≡ false =
    rw many (sym c.if-not-can_take.ensures) in
    let is = step-from_raw width (lists items) len mask blocks enough in
    let raw = c.masked_raw.ensures in
    let parts = c.from_parts.ensures in
    let long = raw.len ∙ parts.len in
    let copy = parts.blocks ∙ c.in-Ok.ensures in
    let canonical = rw (raw.blocks, long, parts.len, copy) at c.into_vob.ensures.taken in
    let bits = rw (raw.blocks, long, parts.len, copy) at c.into_vob.ensures.bits in
    taken_step width g.met.T.BitBlock.wide_law items (FromRaw len mask blocks) len
    (masked width len mask blocks) is tt c.into_vob.result _ c.taken.new.vobs.items canonical bits
    c.taken.ensures.ok c.taken.ensures.err

pub returns-in-Err : goal.returns-in-Err
returns-in-Err g c =
    let width = g.T.BitBlock.BITS in
    let items = c.args.vobs.now.items in
    let len = c.args.len in
    let mask = c.args.mask in
    let blocks = map g.T.BitBlock.number c.args.blocks.now in
    let many = length-map c.args.blocks.now g.T.BitBlock.number in
    let enough : (mask && not (length blocks == need len width)) ≡ false =
    rw many (sym c.if-not-can_take.ensures) in
    let is = step-from_raw width (lists items) len mask blocks enough in
    rw (c.refused.ensures, c.from.ensures)
    (no_copy_step width g.met.T.BitBlock.wide_law items (FromRaw len mask blocks) len
    (masked width len mask blocks) is tt)
