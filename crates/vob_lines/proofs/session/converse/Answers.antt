-- What is told is written whole, or a first part of it with status 1.
use Rattle.std.proofs.Common.{refl, inl, inr}
use Rattle.vob_lines.proofs.SessionLemmas.{keeps_all, tells}
use Rattle.vob_lines.proofs.session.converse.Goals as goal

pub returns-in-Ok : goal.returns-in-Ok
returns-in-Ok g c =
    let said = c.in-Ok.ensures.ok in
    inr (tells c.write_replies.result _ _ _ said.0 _ 0 _ said.1 (inl (refl, said.2))
    (rw c.deref.ensures.value at c.write_replies.ensures) c.status_after.ensures.ok
    c.status_after.ensures.err)

pub returns-in-Err-BadLine : goal.returns-in-Err-BadLine
returns-in-Err-BadLine g c =
    let said = rw c.in-Err-BadLine.field-0-is at c.in-Err-BadLine.ensures.err in
    inr (tells c.write_bad_line.result _ _ _ said.0 _ 2 _ said.1
    (inr (inl (refl, (c.in-Err-BadLine.line, said.2, refl)))) c.write_bad_line.ensures
    c.status_after-in-Err-BadLine.ensures.ok c.status_after-in-Err-BadLine.ensures.err)

pub returns-in-Err-Memory : goal.returns-in-Err-Memory
returns-in-Err-Memory g c =
    let said = rw c.in-Err-Memory.field-0-is at c.in-Err-Memory.ensures.err in
    inr (tells c.put.result _ _ _ said.0 _ 3 _ said.1 (inr (inr (refl, said.2, refl))) c.put.ensures
    c.status_after-in-Err-Memory.ensures.ok c.status_after-in-Err-Memory.ensures.err)

pub returns-in-Err-Failed : goal.returns-in-Err-Failed
returns-in-Err-Failed g c = inl (refl, keeps_all _)
