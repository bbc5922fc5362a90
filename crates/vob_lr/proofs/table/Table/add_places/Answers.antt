-- One terminal more.
use Rattle.std.proofs.Common.{◌∙◌, ap, arith, sym}
use Rattle.std.proofs.lemmas.Bool.{false≢true}
use Rattle.vob_lr.specs.declared.grammar.Grammar.{Grammar}
use Rattle.vob_lr.specs.Lookaheads.{Machine}
use Rattle.vob_lr.proofs.ConflictLemmas.{place_inside, places_of_row, places_with, places_without}
use Rattle.vob_lr.proofs.table.Table.add_places.Goals.{then-branch+in_ok-push, else-branch}
use Rattle.vob_lr.proofs.table.Table.add_places.Goals as goal

pub loop-terminal-preserved : goal.loop-terminal-preserved
loop-terminal-preserved c = elim c.if-branch.branch [
  | then-branch+in_ok-push w ↦
      rw (w.found-is, w.in_ok-push.ensures.items)
      (places_with c.args.self.now c.args.question c.args.state c.loop-terminal.terminal
      c.loop-terminal.found.items c.loop-terminal.invariant
      (c.in_ok-is_at.ensures.0 w.if-branch.true))
  | else-branch w ↦
      rw w.found-is
      (places_without c.args.self.now c.args.question c.args.state c.loop-terminal.terminal
      c.loop-terminal.found.items c.loop-terminal.invariant
      (λ own. false≢true (sym w.if-branch.false ∙ c.in_ok-is_at.ensures.1 own)))
]

pub returns : goal.returns
returns c =
    let table = c.args.self.now in
    let own = ap (λ (g : Grammar). g.terminals)
    (c.grammar.ensures ∙ c.items.ensures ∙ ap (λ (m : Machine). m.grammar) c.lookaheads-2.ensures.machine) in
    places_of_row table c.args.question c.args.state c.loop-terminal.terminal c.loop-terminal.found.items
    c.loop-terminal.invariant
    (λ place yes.
    let inside = place_inside table c.lookaheads.ensures.sound c.args.question place yes in
    omega (arith, inside.1, own))
