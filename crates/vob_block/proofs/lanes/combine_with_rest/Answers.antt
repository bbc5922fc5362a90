-- Blocks are taken from the first on to the last, and what changed is gathered from 0.
use Rattle.std.proofs.Common.{◌+◌, ◌*◌, ◌-◌, ◌/◌, length, eqb, refl, arith, eqb-true, eq-eqb}
use Rattle.std.proofs.lemmas.List.{map-id}
use Rattle.vob_block.proofs.KernelLemmas.{Takes-more, IsCombined-taken}
use Rattle.vob_block.proofs.lanes.combine_with_rest.Goals as goal

pub returns-then-own-lt-MANY-clause-combined : goal.returns-then-own-lt-MANY-clause-combined
returns-then-own-lt-MANY-clause-combined g c =
    let all = c.combine_from in
    let own = c.args.own.now in
    IsCombined-taken 64 g.C.Combine.of_bits c.args.other.now.items own all.new.own (length own - 0) 0
    all.result (simp map-id at all.ensures.taken) refl (omega arith) (eqb all.result 0)
    (eqb-true all.result 0, eq-eqb all.result 0)

pub returns-clause-combined : goal.returns-clause-combined
returns-clause-combined g c =
    let f = g.C.Combine.of_bits in
    let own = c.args.own.now in
    let others = c.args.other.now.items in
    let turns = c.combine_turns-changed in
    let rest = c.combine_from-2 in
    let from = 16 * (length own / 16) in
    let left = length turns.new.own - from in
    let all = Takes-more 64 f others own turns.new.own rest.new.own 0 from left from 0 turns.result
    rest.result turns.ensures.taken (omega arith)
    (rw turns.ensures.items at (simp map-id at rest.ensures.taken)) in
    IsCombined-taken 64 f others own rest.new.own (from + left) 0 rest.result all refl
    (omega (arith, turns.auto.own)) (eqb rest.result 0)
    (eqb-true rest.result 0, eq-eqb rest.result 0)
