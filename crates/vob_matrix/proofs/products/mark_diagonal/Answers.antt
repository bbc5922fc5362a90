-- Bit i of row i is set, and no other.
use Rattle.std.proofs.Common.{[], ◌≡◌, ◌<◌, ◌∙◌, length, true, ap, sym, subst, arith, inl, inr}
use Rattle.std.proofs.lemmas.Bool.{cases_eq}
use Rattle.vob_matrix.specs.Matrix.{entry}
use Rattle.vob_matrix.proofs.ShapeLemmas.{HaveShapeOf-trans, IsEntryWritten-at}
use Rattle.vob_matrix.proofs.products.mark_diagonal.Goals as goal

pub set-requires-clause-column : goal.set-requires-clause-column
set-requires-clause-column c =
    omega (arith, c.loop-row.invariant.columns, c.requires)

pub loop-row-preserved : goal.loop-row-preserved
loop-row-preserved c =
    let row = c.loop-row.row in
    let h = c.loop-row.invariant in
    let inside : row < length c.loop-row.rows.rows = omega (arith, h.shape.count) in
    let long = c.columns-columns.ensures.long row [] inside in
    let written = IsEntryWritten-at _ row row true _ inside
    (omega (arith, long, c.columns-columns.ensures.columns, h.columns, c.requires))
    c.set.ensures.rows in
    record {
      shape = HaveShapeOf-trans _ _ _ h.shape written.shape;
      columns = c.set.ensures.columns ∙ h.columns;
      there = λ i less. elim (cases_eq i row) [
        | inl here ↦ subst (λ n. entry c.set.new.self.rows n n ≡ true) (sym here) written.there
        | inr other ↦ written.others i i (inl other) ∙ h.there i (omega (arith, less, other))
      ];
      others = λ i j apart. elim (cases_eq i row) [
        | inl here ↦ written.others i j (inr (λ same. apart (here ∙ sym same))) ∙ h.others i j apart
        | inr other ↦ written.others i j (inl other) ∙ h.others i j apart
      ];
    }
