-- The lists fit, and all places are solved.
use Rattle.std.proofs.Common.{◌∙◌, ℕ, Vec, Global, sym}
use Rattle.std.proofs.lemmas.List.{length-map}
use Rattle.vob_flow.specs.Lists.{keeps, lists_of, sets_of}
use Rattle.vob_flow.proofs.PartsLemmas.{sets_count, sets_long, solved_all}
use Rattle.vob_flow.proofs.lists.solve_lists.Goals as goal

pub returns-clause-solved : goal.returns-clause-solved
returns-clause-solved c =
    let lists = c.args.lists.now in
    let generates = lists_of lists.generates.now in
    let fit = c.fit_lists.ensures.0 c.if-not-fit_lists.false in
    let h = c.in_ok-sides.ensures in record {
      near_sets = h.near_sets;
      far_sets = h.far_sets;
      solved = solved_all c.args.paths lists.places c.args.graph.now
          (keeps (lists_of lists.by_variable.now) (lists_of lists.writes.now)) (sets_of lists.places generates) _ _
          (sym (sets_count lists.places generates ∙ length-map lists.generates.now (λ (v : Vec ℕ Global). v.items)
          ∙ fit.generates ∙ c.nodes-nodes.ensures.count)) (sets_long lists.places generates)
          (rw c.nodes-nodes.ensures.count at c.nodes-nodes.ensures.inside) h;
      near_is = h.near_is;
      far_is = h.far_is;
    }
