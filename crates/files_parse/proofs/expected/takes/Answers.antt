-- The stack is tried on a copy. A parser takes one way, so that what isn't taken there doesn't fit.
use Rattle.std.proofs.Common.{rules, ◌≡◌, [], List, ℕ, refl, reverse, subst, sym}
use Rattle.std.proofs.lemmas.Bool.{false≢true}
use Rattle.files_parse.specs.Stacks.{HasRead}
use Rattle.files_parse.proofs.StackLemmas.{endless_not, refused_not, taken_fits}
use Rattle.files_parse.proofs.expected.takes.Goals as goal

pub returns-in-Taken : goal.returns-in-Taken
returns-in-Taken c tokens has =
    let same : c.in_ok-own.own.items ≡ c.args.states.now = search rules in
    let read = subst (λ (l : List ℕ). HasRead c.args.table.now tokens (reverse l)) (sym same) has in (
      λ e. taken_fits c.args.table.now tokens c.args.terminal (reverse c.in_ok-own.own.items) _ read
          (rw c.in-Taken.is at c.in_ok-take.ensures),
      λ f. refl,
    )

pub returns-in-Refused : goal.returns-in-Refused
returns-in-Refused c tokens has =
    let same : c.in_ok-own.own.items ≡ c.args.states.now = search rules in
    let read = subst (λ (l : List ℕ). HasRead c.args.table.now tokens (reverse l)) (sym same) has in (
      λ e. absurd (false≢true e),
      λ f. absurd (refused_not c.steps_are_one.ensures c.args.table.now c.lookaheads-states.ensures.sound tokens
          c.args.terminal (reverse c.in_ok-own.own.items) [] read (rw c.in-Refused.is at c.in_ok-take.ensures) f),
    )

pub returns : goal.returns
returns c tokens has =
    let same : c.in_ok-own.own.items ≡ c.args.states.now = search rules in
    let read = subst (λ (l : List ℕ). HasRead c.args.table.now tokens (reverse l)) (sym same) has in (
      λ e. absurd (false≢true e),
      λ f. absurd (endless_not c.steps_are_one.ensures c.args.table.now c.lookaheads-states.ensures.sound tokens
          c.args.terminal (reverse c.in_ok-own.own.items) [] read (rw c.in-Endless.is at c.in_ok-take.ensures) f),
    )
