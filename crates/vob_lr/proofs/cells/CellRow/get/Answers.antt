-- The cell of the terminal is kept, or holds nothing.
use Rattle.std.proofs.Common.{◌∙◌, ap, arith, get_or}
use Rattle.vob_lr.proofs.KeptLemmas.{cells_past, kept_inside, kept_read, nothing_read, place_there}
use Rattle.vob_lr.proofs.cells.CellRow.get.Goals as goal

pub returns-then-terminal-self-clause-none : goal.returns-then-terminal-self-clause-none
returns-then-terminal-self-clause-none c =
    let r = c.self.inside in
    rw (← c.self.view_is)
    (cells_past r.count r.terminals.items r.places.items r.kept.items r.nothing c.args.terminal (omega arith))

pub index-requires : goal.index-requires
index-requires c =
    let r = c.self.inside in
    let found = rw c.deref.ensures.value at c.in-Some.ensures.some in
    omega (
      arith,
      place_there r.count r.terminals.items r.places.items r.kept.items r.nothing c.self.invariant
          c.args.terminal c.in-Some.place found.0 found.1,
    )

pub index-requires-in-Some : goal.index-requires-in-Some
index-requires-in-Some c =
    let r = c.self.inside in
    let found = rw c.deref.ensures.value at c.in-Some.ensures.some in
    let there = place_there r.count r.terminals.items r.places.items r.kept.items r.nothing c.self.invariant
    c.args.terminal c.in-Some.place found.0 found.1 in
    omega (
      arith,
      kept_inside r.count r.terminals.items r.places.items r.kept.items r.nothing c.self.invariant
          c.in-Some.place there c.index.result.now,
      c.index.ensures,
    )

pub returns-in-Some-clause-some : goal.returns-in-Some-clause-some
returns-in-Some-clause-some c =
    let r = c.self.inside in
    let found = rw c.deref.ensures.value at c.in-Some.ensures.some in
    let cell = c.index-in-Some.result.now in
    rw (← c.self.view_is)
    (kept_read r.count r.terminals.items r.places.items r.kept.items r.nothing c.self.invariant
    c.args.terminal c.in-Some.place (omega arith) found.0 found.1 c.index.result.now cell
    (c.index-in-Some.ensures ∙ ap (λ k. get_or r.kept.items k cell) c.index.ensures))

pub returns-in-None-clause-some : goal.returns-in-None-clause-some
returns-in-None-clause-some c =
    let r = c.self.inside in
    rw (← c.self.view_is)
    (nothing_read r.count r.terminals.items r.places.items r.kept.items r.nothing c.self.invariant
    c.args.terminal (omega arith) (rw c.deref.ensures.value at c.in-None.ensures.none))
