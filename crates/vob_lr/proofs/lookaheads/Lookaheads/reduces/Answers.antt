-- An item that the state doesn't have has no lookaheads.
use Rattle.std.proofs.Common.{◌∙◌, Some, ap, false, subst, sym, true}
use Rattle.std.specs.Bool.{beq}
use Rattle.std.specs.Option.{option_eq}
use Rattle.std.proofs.lemmas.Option.{get_or_from_slice_get, slice_get-get_or}
use Rattle.vob_block.proofs.PackingLemmas.{true_inside}
use Rattle.vob_lr.specs.ItemSets.{HasItem}
use Rattle.vob_lr.specs.Items.{Completes}
use Rattle.vob_lr.specs.Lookaheads.{LooksAhead, Machine}
use Rattle.vob_lr.specs.States.{AreStates}
use Rattle.vob_lr.proofs.ItemLemmas.{one_complete}
use Rattle.vob_lr.proofs.MemberLemmas.{ahead_inside}
use Rattle.vob_lr.proofs.TableLemmas.{read_set}
use Rattle.vob_lr.proofs.lookaheads.Lookaheads.reduces.Goals as goal

pub returns-in-None : goal.returns-in-None
returns-in-None c =
    let m = c.args.self.now in
    let states = subst (λ (z : Machine). AreStates z.grammar.rules.items z.sets z.moves) c.self.view_is
    c.self.invariant.states in (
      (λ on. cc),
      (λ (i, complete, ahead).
          let own = subst (λ (z : Machine).
          Completes z.grammar.rules.items c.args.rule c.complete.result) c.self.view_is
          c.complete.ensures in
          let same = one_complete m.grammar.rules.items c.args.rule i c.complete.result complete own in
          absurd (c.in-None.ensures.none (subst (λ n. HasItem m.sets c.args.state n) same
          (ahead_inside m states ahead)))),
    )

pub returns-in-Some : goal.returns-in-Some
returns-in-Some c =
    let m = c.args.self.now in
    let states = subst (λ (z : Machine). AreStates z.grammar.rules.items z.sets z.moves) c.self.view_is
    c.self.invariant.states in
    let own = subst (λ (z : Machine). Completes z.grammar.rules.items c.args.rule c.complete.result)
    c.self.view_is c.complete.ensures in
    let set = c.in-Some.set in
    let t = c.args.terminal in
    let each = c.in-Some.ensures.some.each t in (
      (λ on.
          let is = sym c.get.ensures ∙ read_set c.get.result (sym c.eq.ensures ∙ on) in
          (c.complete.result, own, each.0 (get_or_from_slice_get set t true false is))),
      (λ (i, complete, ahead).
          let same = one_complete m.grammar.rules.items c.args.rule i c.complete.result complete own in
          let there = each.1 (subst (λ n. LooksAhead m t c.args.state n) same ahead) in
          let low = true_inside set t there in
          let read = slice_get-get_or set t false low ∙ ap Some there in
          c.eq.ensures ∙ ap (λ bit. option_eq beq bit (Some true)) (c.get.ensures ∙ read)),
    )
