-- The graph and the rows are those of the arrays.
use Rattle.std.proofs.Common.{◌∙◌, ℕ, List, Bool, ap, length, subst, sym}
use Rattle.vob_flow.specs.Reaching.{AreReaching}
use Rattle.vob_rows.specs.Ends.{lists_of}
use Rattle.vob_c.specs.Live.{stays_live}
use Rattle.vob_c.specs.Rows.{rows_in}
use Rattle.vob_c.proofs.RowsLemmas.{length-rows_in}
use Rattle.vob_c.proofs.live.solve_live.Goals as goal

pub reaching_definitions-requires : goal.reaching_definitions-requires
reaching_definitions-requires c =
    c.in_ok-next.ensures.count ∙ sym (ap length c.in_ok-before.ensures.rows ∙ length-rows_in _ _ _)

pub returns-clause-live : goal.returns-clause-live
returns-clause-live c =
    let lists = lists_of c.args.offsets.now c.args.ends.now in
    let writes = rows_in c.args.shape.rows c.args.shape.columns c.args.writes.now in
    let before = c.in_ok-before.before.rows in
    let written = c.in_ok-written.written.rows in
    let after = c.in_ok-after.after.rows in
    let found = c.reaching_definitions.new.ends.rows in
    subst (λ (gens : List (List Bool)). AreReaching lists (stays_live writes) gens after found)
    c.in_ok-before.ensures.rows
    (subst (λ (kills : List (List Bool)). AreReaching lists (stays_live kills) before after found)
    c.in_ok-written.ensures.rows
    (subst (λ (next : List (List ℕ)). AreReaching next (stays_live written) before after found)
    c.in_ok-next.ensures.lists c.in_ok-after.ensures.reaching))
