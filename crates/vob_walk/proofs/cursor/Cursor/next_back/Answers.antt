-- A run gives its last index, and otherwise the back is filled, and gives its last one.
use Rattle.std.specs.Prelude.{None}
use Rattle.std.proofs.Common.{◌≡◌, refl, sym, ◌∙◌, arith}
use Rattle.vob_walk.proofs.CursorLemmas.{reads-pulled, none-left, nil_left, last-steps, goes-last, nil_both}
use Rattle.vob_walk.proofs.cursor.Cursor.next_back.Goals as goal

pub returns-then-is_run-clause-steps : goal.returns-then-is_run-clause-steps
returns-then-is_run-clause-steps g c =
    let s = c.self.inside in
    rw (← c.self.view_is) (last-steps c.next_back.result s.back c.next_back.new.self s.front
    s.unread.rest _ refl (λ none. absurd (c.is_run.ensures c.if-is_run.true none))
    c.next_back.ensures)

pub returns-then-is_run-clause-goes : goal.returns-then-is_run-clause-goes
returns-then-is_run-clause-goes g c =
    goes-last c.next_back.result c.args.self.now _ (returns-then-is_run-clause-steps g c)

pub returns-clause-steps : goal.returns-clause-steps
returns-clause-steps g c =
    let e = c.fill_back.ensures in
    let after = c.fill_back.new in
    rw (← c.self.view_is) (last-steps c.next_back-2.result after.back c.next_back-2.new.self
    after.front after.unread.rest _ e.rest (λ none. sym e.rest
    ∙ nil_both after.front after.unread.rest after.back none (e.empty none))
    c.next_back-2.ensures)

pub returns-clause-goes : goal.returns-clause-goes
returns-clause-goes g c =
    goes-last c.next_back-2.result c.args.self.now _ (returns-clause-steps g c)

pub returns-clause-reads : goal.returns-clause-reads
returns-clause-reads g c =
    let s = c.self.inside in
    let e = c.fill_back.ensures in
    let after = c.fill_back.new in
    let none = λ (gave : c.next_back-2.result ≡ None).
    none-left _ gave (λ gone. nil_left _ _ (e.empty gone)) c.next_back-2.ensures in
    rw (← c.self.view_is) (reads-pulled s.unread after.unread s.back c.next_back-2.new.self s.front
    after.front e.reads e.falls e.fewer c.next_back-2.result _ _
    refl (omega arith) refl refl (omega arith) refl none)
