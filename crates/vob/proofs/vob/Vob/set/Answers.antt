-- The index is below the length of the list, which is the length that the fields have.
use Rattle.std.proofs.Common.{◌∙◌, drop, length, sym, subst}
use Rattle.std.proofs.lemmas.List.{take_at}
use Rattle.vob_block.proofs.BoolLemmas.{same_from_differ}
use Rattle.vob_block.proofs.PackingLemmas.{length-unpacking}
use Rattle.vob.specs.Bits.{IsWritten}
use Rattle.vob.proofs.BitsLemmas.{IsWritten-set, differ-at, set-same}
use Rattle.vob.proofs.vob.Vob.set.Goals as goal

pub write_bit-requires-clause-in_range : goal.write_bit-requires-clause-in_range
write_bit-requires-clause-in_range g c = rw (← c.self.view_is, length-unpacking) at
    c.requires.in_range

pub returns-clause-bits : goal.returns-clause-bits
returns-clause-bits g c =
    let left = take_at c.write_bit.new.blocks (drop (length c.write_bit.new.blocks)
    c.self.inside.vec.items) c.self.inside.vec.len
    (c.write_bit.auto.blocks ∙ c.deref_mut.ensures.len) in
    rw (left, ← c.self.view_is)
    (rw c.deref_mut.ensures.value at c.write_bit.ensures.stores.bits)

pub returns-clause-changed : goal.returns-clause-changed
returns-clause-changed g c = rw (← c.self.view_is)
    (rw c.deref_mut.ensures.value at c.write_bit.ensures.changed)

pub write_bit-requires-clause-canonical : goal.write_bit-requires-clause-canonical
write_bit-requires-clause-canonical g c = rw c.deref_mut.ensures.value c.self.invariant

pub returns-clause-written : goal.returns-clause-written
returns-clause-written g c =
    subst (λ after. IsWritten c.args.self.now.bits c.args.index c.args.value after)
    (sym (returns-clause-bits g c))
    (IsWritten-set c.args.self.now.bits c.args.index c.args.value c.requires.in_range)

pub returns-clause-differs : goal.returns-clause-differs
returns-clause-differs g c =
    differ-at c.args.self.now.bits c.args.index c.args.value _ c.requires.in_range
    (returns-clause-changed g c)

pub returns-clause-same : goal.returns-clause-same
returns-clause-same g c = λ quiet.
    returns-clause-bits g c
    ∙ set-same c.args.self.now.bits c.args.index c.args.value
    (same_from_differ _ _ (sym (returns-clause-differs g c) ∙ quiet))
