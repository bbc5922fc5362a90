-- The graph, the masks and the sets are those of the arrays.
use Rattle.std.proofs.Common.{◌≡◌, ◌∙◌, ℕ, List, Bool, ap, length, subst, sym}
use Rattle.vob_flow.specs.Draws.{AreLeast, mask_of}
use Rattle.vob_rows.specs.Ends.{lists_of}
use Rattle.vob_c.specs.Draws.{lets}
use Rattle.vob_c.specs.Rows.{rows_in}
use Rattle.vob_c.proofs.RowsLemmas.{length-rows_in}
use Rattle.vob_c.proofs.draws.solve_least.Goals as goal

pub least-requires : goal.least-requires
least-requires c = c.in_ok-graph.ensures.count ∙ sym (ap length c.in_ok-made.ensures.rows ∙ length-rows_in _ _ _)

pub returns-clause-least : goal.returns-clause-least
returns-clause-least c =
    let lists = lists_of c.args.offsets.now c.args.ends.now in
    let starts = c.in_ok-made.made.rows in
    let found = c.least.new.sets.rows in
    let mask : mask_of c.masks_of.result
    ≡ lets c.args.keep (rows_in c.args.shape.rows c.args.shape.columns c.args.masks.now) =
    c.masks_of.ensures.mask ∙ ap (lets c.args.keep) c.in_ok-kept.ensures.rows in
    subst (λ (sets : List (List Bool)). AreLeast lists (lets c.args.keep
    (rows_in c.args.shape.rows c.args.shape.columns c.args.masks.now)) sets found) c.in_ok-made.ensures.rows
    (subst (λ (m : ℕ → ℕ → Bool). AreLeast lists m starts found) mask
    (subst (λ (next : List (List ℕ)). AreLeast next (mask_of c.masks_of.result) starts found)
    c.in_ok-graph.ensures.lists c.in_ok-least.ensures.least))

pub returns-clause-shape : goal.returns-clause-shape
returns-clause-shape c = (
  c.in_ok-least.ensures.least.solution.shape.count ∙ ap length c.in_ok-made.ensures.rows ∙ length-rows_in _ _ _,
  c.in_ok-least.ensures.columns ∙ c.in_ok-made.ensures.columns,
)
