-- The actions stand after the place.
use Rattle.files_text.specs.Printed.{line_end}
use Rattle.files_grammar.specs.ConflictText.{place_text}
use Rattle.files_grammar.proofs.TextLemmas.{after, before, writes_as}
use Rattle.files_grammar.proofs.conflicts.Choice.put.Goals as goal

pub returns : goal.returns
returns g c =
    let number = c.in-Some.number in
    let has = rw c.state.ensures at (c.number.ensures number).0 c.in-Some.is in
    let by_shift = rw c.shift.ensures at c.in_ok-put_actions.ensures in
    let actions = rw c.rules.ensures at by_shift in
    writes_as _ _ (λ text says. (number, has, says))
    (after _ _ _ (place_text c.args.names.now number c.args.self.now) c.in_ok-put_place.ensures
    (before _ _ _ line_end actions c.in_ok-end_line.ensures))
