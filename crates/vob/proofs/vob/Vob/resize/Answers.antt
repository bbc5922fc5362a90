-- To cut is to take the first bits and add none; to grow is to take all and add the rest.
use Rattle.std.proofs.Common.{◌≡◌, ◌-◌, ◌++◌, ◌∙◌, sym, ap, length, map, take, replicate, refl, arith, append-nil}
use Rattle.std.proofs.lemmas.List.{take_all, length-map}
use Rattle.std.proofs.lemmas.Result.{err_from_is_err_and}
use Rattle.vob_block.specs.Packing.{unpacking}
use Rattle.vob_block.proofs.PackingLemmas.{length-unpacking}
use Rattle.vob_store.proofs.RoomLemmas.{no_room}
use Rattle.vob.proofs.vob.Vob.resize.Goals as goal

pub returns-then-new_len-self-clause-ok : goal.returns-then-new_len-self-clause-ok
returns-then-new_len-self-clause-ok g c =
    let long : length c.args.self.now.bits ≡ c.self.inside.len =
    ap (λ v. length v.bits) (sym c.self.view_is) ∙ length-unpacking _ _ _ in
    let none : c.args.new_len - length c.args.self.now.bits ≡ 0 =
    omega (arith, long, c.if-new_len-self.true) in
    c.truncate.ensures.bits ∙ sym (rw none (append-nil (take c.args.new_len c.args.self.now.bits)))

pub returns-in_err-reserve_bits-clause-memory : goal.returns-in_err-reserve_bits-clause-memory
returns-in_err-reserve_bits-clause-memory g c =
    let p = err_from_is_err_and c.from_residual.result c.from_residual.ensures.1 in
    let full = c.in_err-reserve_bits.ensures.full in
    let vec = c.self.inside.vec in
    let count = sym (length-map vec.items g.T.BitBlock.number) ∙ c.self.invariant.count in
    let short = no_room g.T.BitBlock.BITS g.met.T.BitBlock.wide_law c.args.new_len vec.cap full in
    rw (p.1, p.2, ← c.self.view_is, length-unpacking)
    (refl, short, omega (arith, full, count, vec.ok))

pub returns-clause-ok : goal.returns-clause-ok
returns-clause-ok g c =
    let long : length c.args.self.now.bits ≡ c.self.inside.len =
    ap (λ v. length v.bits) (sym c.self.view_is) ∙ length-unpacking _ _ _ in
    let own : unpacking c.self.inside.len (map g.T.BitBlock.number c.reserve_bits.new.blocks.items)
    g.T.BitBlock.BITS ≡ c.args.self.now.bits =
    ap (λ xs. unpacking c.self.inside.len (map g.T.BitBlock.number xs) g.T.BitBlock.BITS)
    c.in_ok-reserve_bits.ensures.items ∙ ap (λ v. v.bits) c.self.view_is in
    let all = take_all c.args.new_len c.args.self.now.bits
    (omega (arith, long, c.if-new_len-self.false)) in
    rw (all, long) (c.append_fill.ensures.stores.bits
    ∙ ap (λ bs. bs ++ replicate (c.args.new_len - c.self.inside.len) c.args.value) own)
