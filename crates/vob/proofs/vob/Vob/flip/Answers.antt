-- The bit that was stored is known, and so is what it becomes.
use Rattle.std.proofs.Common.{◌≡◌, ◌∙◌, Bool, not, drop, length, sym, ap, subst}
use Rattle.std.specs.Prelude.{Some, slice_get, slice_set}
use Rattle.std.proofs.lemmas.List.{take_at}
use Rattle.vob_block.specs.Packing.{item}
use Rattle.vob_block.proofs.PackingLemmas.{length-unpacking}
use Rattle.vob_store.proofs.WriteLemmas.{not-not}
use Rattle.vob.specs.Bits.{IsWritten}
use Rattle.vob.proofs.BitsLemmas.{IsWritten-set, slice_get-item}
use Rattle.vob.proofs.vob.Vob.flip.Goals as goal

pub flip_bit-requires-clause-in_range : goal.flip_bit-requires-clause-in_range
flip_bit-requires-clause-in_range g c = rw (← c.self.view_is, length-unpacking) at
    c.requires.in_range

pub flip_bit-requires-clause-canonical : goal.flip_bit-requires-clause-canonical
flip_bit-requires-clause-canonical g c = rw c.deref_mut.ensures.value c.self.invariant

pub returns-clause-value : goal.returns-clause-value
returns-clause-value g c =
    let bits = c.args.self.now.bits in
    let value = c.flip_bit.result in
    let was : slice_get bits c.args.index ≡ Some (not value) =
    rw (← c.self.view_is) (rw c.deref_mut.ensures.value at c.flip_bit.ensures.was) in
    let read = sym (slice_get-item bits c.args.index c.requires.in_range) ∙ was in
    let item_is : item bits c.args.index ≡ not value = cc (read) in
    sym (not-not value) ∙ ap not (sym item_is)

pub returns-clause-bits : goal.returns-clause-bits
returns-clause-bits g c =
    let left = take_at c.flip_bit.new.blocks (drop (length c.flip_bit.new.blocks)
    c.self.inside.vec.items) c.self.inside.vec.len
    (c.flip_bit.auto.blocks ∙ c.deref_mut.ensures.len) in
    rw (left, ← c.self.view_is) (rw c.deref_mut.ensures.value at c.flip_bit.ensures.stores.bits)
    ∙ ap (slice_set c.args.self.now.bits c.args.index) (returns-clause-value g c)

pub returns-clause-written : goal.returns-clause-written
returns-clause-written g c =
    let bits = c.args.self.now.bits in
    let value = not (item bits c.args.index) in
    rw (returns-clause-bits g c) (IsWritten-set bits c.args.index value c.requires.in_range)
