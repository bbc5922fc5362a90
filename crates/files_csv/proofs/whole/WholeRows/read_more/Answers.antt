-- The bytes that the read gave come after those at hand.
use Rattle.std.proofs.Common.{◌≡◌, ◌<◌, ◌-◌, ◌∙◌, ap, arith, drop, length, refl, take}
use Rattle.std.proofs.lemmas.List.{length-drop}
use Rattle.files_csv.proofs.KeepLemmas.{kept_bytes, reads_on, reads_over, same_bytes}
use Rattle.files_csv.proofs.WholeLemmas.{read_grows, written_over}
use Rattle.files_csv.proofs.whole.WholeRows.read_more.Goals as goal

pub returns-clause-unread : goal.returns-clause-unread
returns-clause-unread g c =
    let text = c.make_room.new.self in
    let now = c.read_from.new.text in
    let value = c.deref_mut.ensures.value in
    let len : length now ≡ length c.deref_mut.result.now = c.read_from.ensures.len in
    read_grows g.R.Read.remaining c.args.self.now text now _
    c.in_ok-count.count (g.R.Read.remaining c.read_from.new.input) c.make_room.ensures.same c.make_room.ensures.fresh
    (written_over now _ text.text.len (omega (arith, len, ap length value, c.deref_mut.ensures.len)))
    (c.read_from.ensures.before ∙ ap (take text.filled) value) c.in_ok-count.ensures.bytes.0

pub returns-clause-end : goal.returns-clause-end
returns-clause-end g c = λ none.
    let filled = c.make_room.new.self.filled in
    let size : length (drop filled c.read_from.new.text) ≡ length c.read_from.new.text - filled =
    length-drop filled c.read_from.new.text in
    let len : length c.read_from.new.text ≡ length c.deref_mut.result.now = c.read_from.ensures.len in
    let room : filled < length c.make_room.new.self.text.items = c.in_ok-make_room.ensures.room in
    c.in_ok-count.ensures.bytes.1 none (omega (arith, size, len, room, ap length c.deref_mut.ensures.value))

pub returns-in_err-make_room-clause-progress : goal.returns-in_err-make_room-clause-progress
returns-in_err-make_room-clause-progress g c = λ text.
    let new = c.make_room.new.self in
    reads_on g.R.Read.remaining text c.args.self.now new new 0 c.make_room.ensures.same refl (omega arith) refl
    (omega arith) (same_bytes (g.R.Read.remaining new.input))

pub returns-in_err-count-clause-progress : goal.returns-in_err-count-clause-progress
returns-in_err-count-clause-progress g c = λ text.
    let mid = c.make_room.new.self in
    let now = c.read_from.new.text in
    let value = c.deref_mut.ensures.value in
    let len : length now ≡ length c.deref_mut.result.now = c.read_from.ensures.len in
    reads_over g.R.Read.remaining text c.args.self.now mid _ 0 c.make_room.ensures.same refl (omega arith) now
    (written_over now _ mid.text.len (omega (arith, len, ap length value, c.deref_mut.ensures.len)))
    (c.read_from.ensures.before ∙ ap (take mid.filled) value) (omega arith)
    (kept_bytes (g.R.Read.remaining mid.input) (g.R.Read.remaining c.read_from.new.input) c.in_err-count.ensures.bytes)

pub returns-clause-progress : goal.returns-clause-progress
returns-clause-progress g c = λ text.
    let mid = c.make_room.new.self in
    let now = c.read_from.new.text in
    let value = c.deref_mut.ensures.value in
    let len : length now ≡ length c.deref_mut.result.now = c.read_from.ensures.len in
    reads_over g.R.Read.remaining text c.args.self.now mid _ c.in_ok-count.count c.make_room.ensures.same refl refl now
    (written_over now _ mid.text.len (omega (arith, len, ap length value, c.deref_mut.ensures.len)))
    (c.read_from.ensures.before ∙ ap (take mid.filled) value) c.in_ok-count.ensures.bound c.in_ok-count.ensures.bytes.0
