-- A group is of eight nodes, or of those that are left.
use Rattle.std.proofs.Common.{◌≤◌, ◌⊎◌, ◌∙◌, length, refl, arith, inl, inr}
use Rattle.std.proofs.lemmas.Bool.{cases_lt}
use Rattle.vob_matrix.proofs.PathLemmas.{IsClosedThrough-start, IsClosedThrough-more, AreClosed-through}
use Rattle.vob_matrix.proofs.closing.close_by_table.Goals as goal

pub groups-init : goal.groups-init
groups-init c = record {
  within = omega arith;
  table = c.requires.table;
  unions = refl;
  closed = IsClosedThrough-start _;
  columns = refl;
}

pub groups-preserved : goal.groups-preserved
groups-preserved c = record {
  within = omega (arith, c.min.ensures);
  table = c.close_group.ensures.table;
  unions = c.close_group.ensures.unions ∙ c.groups.invariant.unions;
  closed = IsClosedThrough-more _ _ _ c.groups.first _ (omega arith) c.groups.invariant.closed
      c.close_group.ensures.closed;
  columns = c.close_group.ensures.columns ∙ c.groups.invariant.columns;
}

pub returns-clause-closed : goal.returns-clause-closed
returns-clause-closed c =
    let rows = c.args.rows.now.rows in
    let all : (length rows ≤ c.groups.first) ⊎ (c.columns.result ≤ c.groups.first)
    = elim (cases_lt c.columns.result (length rows)) [
      | inl fewer ↦ inr (omega (arith, fewer, c.min-nodes.ensures, c.groups-test.false))
      | inr more ↦ inl (omega (arith, more, c.min-nodes.ensures, c.groups-test.false))
    ] in
    AreClosed-through _ _ c.columns.result c.groups.first c.columns.ensures.long all
    c.groups.invariant.closed
