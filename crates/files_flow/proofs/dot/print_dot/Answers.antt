-- The names of the graph have its numbers.
use Rattle.std.proofs.Common.{ℕ, List, inr, subst}
use Rattle.std.proofs.KnownBytes.{Keeps-refl}
use Rattle.std.proofs.lemmas.Result.{err_from_is_err_and}
use Rattle.files_dot.specs.declared.notation.Notation.TheVariants.{Dot}
use Rattle.files_dot.proofs.PairLemmas.{pairs_inside}
use Rattle.files_text.specs.Printed.{Writes}
use Rattle.files_flow.specs.DotFlows.{ListsDominance}
use Rattle.files_flow.proofs.FaultLemmas.{text_fails}
use Rattle.files_flow.proofs.FromLemmas.{from_names}
use Rattle.files_flow.proofs.dot.print_dot.Goals as goal

pub print_graph-requires : goal.print_graph-requires
print_graph-requires g c =
    let graph = c.in_ok-graph.ensures.ok in
    record {
      reads = c.requires;
      inside = pairs_inside graph.part.mentions _ graph.part.edges _ graph.named graph.numbers;
    }

pub returns-in_err-graph-clause-err : goal.returns-in_err-graph-clause-err
returns-in_err-graph-clause-err g c =
    let refused = c.from_residual-in_err-graph in
    let p = err_from_is_err_and refused.result refused.ensures.1 in
    rw (p.1, p.2)
    (text_fails c.args.text.now c.args.analysis c.args.form _ _ Dot (Keeps-refl _) _
    (inr (_, _, c.in_ok-tokens.ensures.ok, c.in_err-graph.ensures.err)))

pub returns-clause-ok : goal.returns-clause-ok
returns-clause-ok g c =
    let graph = c.in_ok-graph.ensures.ok in
    let found = c.in_ok-print_graph.ensures.ok in
    record {
      part = graph.part;
      says = record { tokens = _; end = _; are_tokens = c.in_ok-tokens.ensures.ok; is_graph = graph.is_graph };
      before = found.0;
      are_from = from_names graph.part _ _ found.0 graph.named graph.numbers found.1;
      written = subst (λ (names : List (List ℕ)). Writes (g.W.Write.contents c.args.output.now)
          (g.W.Write.contents c.print_graph.new.output) (ListsDominance c.args.analysis c.args.form found.0 names))
          graph.named found.2;
    }
