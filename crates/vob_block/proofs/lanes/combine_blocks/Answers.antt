-- A block alone, or whole turns, are all that there is.
use Rattle.std.proofs.Common.{◌*◌, ◌/◌, length, eqb, refl, arith, eqb-true, eq-eqb}
use Rattle.std.proofs.lemmas.List.{map-id}
use Rattle.vob_block.proofs.KernelLemmas.{IsCombined-taken}
use Rattle.vob_block.proofs.lanes.combine_blocks.Goals as goal

pub returns-then-own-eq1-clause-combined : goal.returns-then-own-eq1-clause-combined
returns-then-own-eq1-clause-combined g c =
    let one = c.combine_block in
    IsCombined-taken 64 g.C.Combine.of_bits c.args.other.now.items c.args.own.now one.new.own 1 0
    one.result (simp map-id at one.ensures.taken) refl (omega (arith, c.if-own-eq1.true))
    (eqb one.result 0) (eqb-true one.result 0, eq-eqb one.result 0)

pub returns-then-turns-own-clause-combined : goal.returns-then-turns-own-clause-combined
returns-then-turns-own-clause-combined g c =
    let all = c.combine_turns in
    IsCombined-taken 64 g.C.Combine.of_bits c.args.other.now.items c.args.own.now all.new.own
    (16 * (length c.args.own.now / 16)) 0 all.result all.ensures.taken refl
    (omega (arith, all.auto.own)) (eqb all.result 0) (eqb-true all.result 0, eq-eqb all.result 0)
