-- A row takes the same one of the others.
use Rattle.std.proofs.Common.{◌<◌, ◌∙◌, ◌||◌, true, length, refl, sym, subst, arith}
use Rattle.std.proofs.lemmas.Bool.{false≢true}
use Rattle.vob.specs.Bits.{AreCombined}
use Rattle.vob_matrix.proofs.JoinLemmas.{AreJoinedBefore-start, AreJoinedBefore-more, AreJoined-whole, changed-joined}
use Rattle.vob_matrix.proofs.unions.join_rows.Goals as goal
use Rattle.vob_matrix.proofs.unions.join_rows.Goals.{then-or_with, else-or_with}

pub loop-row-init : goal.loop-row-init
loop-row-init c = record { joined = AreJoinedBefore-start _ _; columns = refl }

pub loop-row-preserved : goal.loop-row-preserved
loop-row-preserved c =
    let row = c.loop-row.row in
    let before = c.loop-row.changed in
    let or = c.or_with.ensures in
    let h = c.loop-row.invariant.joined in
    let inside : row < length c.loop-row.rows.rows = omega (arith, c.requires.count, h.shape.count) in
    let each = rw c.row.ensures.bits at or.each in
    let columns = or.columns ∙ c.loop-row.invariant.columns in
    elim c.if-or_with.branch [
      | then-or_with w ↦ rw w.changed-is record {
        joined = AreJoinedBefore-more _ _ row _ _ _ before c.or_with.result true inside h or.rows each
            or.more or.changed (λ on. refl) (λ off. absurd (false≢true (sym off ∙ w.if-or_with.true)));
        columns = columns;
      }
      | else-or_with w ↦ rw w.changed-is record {
        joined = AreJoinedBefore-more _ _ row _ _ _ before c.or_with.result before inside h or.rows each
            or.more or.changed (λ on. absurd (false≢true (sym w.if-or_with.false ∙ on))) (λ off. refl);
        columns = columns;
      }
    ]

pub returns-clause-joined : goal.returns-clause-joined
returns-clause-joined c = AreJoined-whole _ _ c.loop-row.row _ _
    (omega (arith, c.requires.count)) (omega arith) c.loop-row.invariant.joined

pub returns-clause-changed : goal.returns-clause-changed
returns-clause-changed c = changed-joined _ _ c.loop-row.row _ _ c.loop-row.invariant.joined
