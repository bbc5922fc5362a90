-- The free slots from the next one on are enough, or no room begins before their end.
use Rattle.std.proofs.Common.{false, refl, sym, ap, ◌∙◌, subst, arith}
use Rattle.std.specs.Option.{unwrap_or}
use Rattle.vob_walk.specs.Runs.{IsFirstFrom}
use Rattle.vob_slots.proofs.RoomLemmas.{EndsAt, ends_at, enough, no_room, too_few}
use Rattle.vob_slots.proofs.slots.room_from.Goals as goal
use Rattle.vob_slots.proofs.slots.room_from.Goals.{After-unwrap_or-end}

first : (c : After-unwrap_or-end) → IsFirstFrom false c.args.taken.now.bits c.runs.at c.in-Some.start
first c = (c.in-Some.ensures.next.some c.in-Some.start).0 refl

ends : (c : After-unwrap_or-end) → EndsAt c.args.taken.now.bits c.runs.at c.in-Some.start (first c) c.unwrap_or-end.result
ends c =
    let bits = c.args.taken.now.bits in
    subst (EndsAt bits c.runs.at c.in-Some.start (first c))
    (sym (c.unwrap_or-end.ensures ∙ ap (unwrap_or c.next_set.result) c.len.ensures.len))
    (ends_at bits c.runs.at c.in-Some.start (first c) c.next_set.result c.next_set.ensures.next)

pub returns-then-end-start : goal.returns-then-end-start
returns-then-end-start c =
    let at = (goal.at.returns-then-end-start c).After-unwrap_or-end in
    enough c.args.taken.now.bits c.runs.at c.in-Some.start (first at) c.args.count c.requires.some c.runs.invariant
    c.unwrap_or-end.result (ends at) (omega (arith, c.if-end-start.true))

pub runs-preserved : goal.runs-preserved
runs-preserved c =
    let at = (goal.at.runs-preserved c).After-unwrap_or-end in
    too_few c.args.taken.now.bits c.runs.at c.in-Some.start (first at) c.args.count c.requires.some c.runs.invariant
    c.unwrap_or-end.result (ends at) (omega (arith, c.if-end-start.false))

pub returns : goal.returns
returns c = no_room c.args.count c.args.taken.now.bits c.runs.at c.requires.some c.runs.invariant
    (c.in_default.ensures.next.none.0 refl)
