-- The front gives its first index, or is filled, and gives its first one.
use Rattle.std.specs.Prelude.{None}
use Rattle.std.proofs.Common.{◌≡◌, refl}
use Rattle.vob_walk.proofs.CursorLemmas.{reads-pulled, none-left, nil_right}
use Rattle.vob_walk.proofs.cursor.Cursor.next.Goals as goal

pub returns-clause-reads : goal.returns-clause-reads
returns-clause-reads g c =
    let s = c.self.inside in
    let e = c.fill_front.ensures in
    let after = c.fill_front.new in
    let none = λ (gave : c.next-2.result ≡ None).
    none-left _ gave (λ gone. nil_right _ _ (e.empty gone)) c.next-2.ensures in
    rw (← c.self.view_is) (reads-pulled s.unread after.unread s.front c.next-2.new.self s.back
    after.back e.reads e.falls e.fewer c.next-2.result _ _
    refl refl refl refl refl refl none)
