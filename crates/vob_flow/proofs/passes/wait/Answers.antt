-- One set more waits.
use Rattle.std.proofs.Common.{◌≡◌, ◌↔◌, ◌⊎◌, ◌∙◌, ℕ, arith, sym, subst, true}
use Rattle.std.specs.List.{Any}
use Rattle.std.proofs.lemmas.Grind.{get_or_default_zero}
use Rattle.std.proofs.lemmas.List.{take_all}
use Rattle.vob_block.specs.Packing.{item}
use Rattle.vob.proofs.VobsLemmas.{either_next}
use Rattle.vob_flow.specs.Schedules.{place_of}
use Rattle.vob_flow.proofs.PassLemmas.{written_true}
use Rattle.vob_flow.proofs.passes.wait.Goals as goal

pub loop-user-preserved : goal.loop-user-preserved
loop-user-preserved c =
    let users = c.args.users.now in
    let places = c.args.places.now in
    let k = c.loop-user.user-index in
    record {
      len = c.set.ensures.written.len ∙ c.loop-user.invariant.len;
      each = λ p. either_next (λ user. place_of places user ≡ p) users k _ c.loop-user-test.true
          (sym (get_or_default_zero users k _ c.loop-user-test.true))
          (written_true _ p c.set.ensures.written) (c.loop-user.invariant.each p);
    }

pub returns-clause-each : goal.returns-clause-each
returns-clause-each c =
    let users = c.args.users.now in
    let all = take_all c.loop-user.user-index users (omega arith) in
    subst (λ xs. (p : ℕ) → (item c.loop-user.pending.bits p ≡ true)
    ↔ ((item c.args.pending.now.bits p ≡ true) ⊎ Any (λ user. place_of c.args.places.now user ≡ p) xs)) all
    c.loop-user.invariant.each
