-- Rule 0 is as long as the stack, and the end is accepted in the newest state.
use Rattle.std.proofs.Common.{◌≡◌, ◌↔◌, ◌≤◌, ◌∙◌, ℕ, Some, ap, arith, length, slice_get, subst, sym}
use Rattle.std.specs.Bool.{IsTrue}
use Rattle.std.proofs.lemmas.Option.{none-some, same_Some}
use Rattle.vob_lr.specs.Accepting.{Accepts}
use Rattle.vob_arrays.proofs.StepLemmas.{accepted_is, accepted_long}
use Rattle.vob_arrays.proofs.arrays.Arrays.accepts.Goals as goal

pub returns-in-Some : goal.returns-in-Some
returns-in-Some c = λ table of.
    let tokens = c.args.tokens.now in
    let run = c.args.run.now in
    let read : length tokens ≤ run.read = omega (arith, c.if-read-tokens.false, c.read.ensures) in
    let long : slice_get c.args.self.now.lengths 0 ≡ Some (length run.states) =
    sym c.length.ensures ∙ c.in-Some.is ∙ ap Some (c.if-length-depth.true ∙ c.depth.ensures) in
    let is = accepted_is table c.args.self.now of tokens run read long in
    let at = subst (λ (q : ℕ). IsTrue c.accepts_at.result ↔ Accepts table q 0) c.state.ensures
    (c.accepts_at.ensures table of) in
    ((λ on. is.0 (at.0 on)), (λ a. at.1 (is.1 a)))

pub returns-in_default : goal.returns-in_default
returns-in_default c = λ table of. (
  (λ on. cc),
  (λ a.
      let long = accepted_long table c.args.self.now of c.args.tokens.now c.args.run.now a in
      let same = same_Some c.in-Some.length (length c.args.run.now.states)
      (sym c.in-Some.is ∙ c.length.ensures ∙ long) in
      absurd (c.if-length-depth.false (same ∙ sym c.depth.ensures))),
)

pub returns-in_default-2 : goal.returns-in_default-2
returns-in_default-2 c = λ table of. (
  (λ on. cc),
  (λ a.
      let long = accepted_long table c.args.self.now of c.args.tokens.now c.args.run.now a in
      absurd (none-some (length c.args.run.now.states)
      (sym c.in_default.is ∙ c.length.ensures ∙ long))),
)
