-- The least sets that have what they start with and draw along the edges.
use Rattle.std.proofs.Common.{◌∙◌, ap, length}
use Rattle.std.proofs.lemmas.List.FromFn.{length-map-range_with_len}
use Rattle.vob_lr.specs.Equations.{System}
use Rattle.vob_lr.proofs.SolvedLemmas.{AreSolved-least}
use Rattle.vob_lr.proofs.equations.Equations.solve.Goals as goal

pub least-requires : goal.least-requires
least-requires c = ap length c.in-Ok.ensures.edges ∙ length-map-range_with_len _ _ _ ∙ c.rows.ensures

pub returns-clause-solved : goal.returns-clause-solved
returns-clause-solved c =
    let nodes = ap length c.in-Ok.ensures.edges ∙ length-map-range_with_len _ _ _ ∙ c.rows.ensures in
    let own : System = record {
      starts = c.self.inside.starts.rows;
      places = c.self.inside.starts.columns;
      edges = c.self.inside.edges.items;
    } in
    rw (← c.self.view_is)
    (AreSolved-least own _ c.self.invariant nodes (rw (c.rows.ensures, c.deref.ensures.value) at c.in-Ok.ensures.each) _
    c.in-Ok-least.ensures.least)
