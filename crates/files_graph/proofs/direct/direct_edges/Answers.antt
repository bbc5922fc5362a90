-- The direct edges of a node more.
use Rattle.std.proofs.Common.{ℕ, List, [], sym, subst, arith, inl, inr}
use Rattle.std.specs.List.{Contains}
use Rattle.std.proofs.lemmas.Bool.{cases_eq, cases_lt}
use Rattle.std.proofs.lemmas.List.{get_or_past}
use Rattle.files_graph.specs.Direct.{IsDirect}
use Rattle.files_graph.proofs.direct.direct_edges.Goals as goal

pub loop-node-preserved : goal.loop-node-preserved
loop-node-preserved c =
    let h = c.loop-node.invariant in
    let links = c.args.links.now in
    let f = c.in_ok-put_direct.ensures in
    let node = c.loop-node.node in
    record {
      clear = f.clear;
      direct = λ n m. (
        (λ there. elim ((f.direct n m).0 there) [
          | inl old ↦ let p = (h.direct n m).0 old in (omega (arith, p.0), p.1)
          | inr new ↦ (omega (arith, new.0), subst (λ k. IsDirect links k m) (sym new.0) new.1)
        ]),
        (λ both. (f.direct n m).1 (elim (cases_eq n node) [
          | inl here ↦ inr (here, subst (λ k. IsDirect links k m) here both.1)
          | inr apart ↦ inl ((h.direct n m).1 (omega (arith, both.0, apart), both.1))
        ])),
      );
    }

pub returns : goal.returns
returns c = λ n m. (
  (λ there. ((c.loop-node.invariant.direct n m).0 there).1),
  (λ direct. (c.loop-node.invariant.direct n m).1 (
    elim (cases_lt n c.loop-node.node) [
      | inl less ↦ less
      | inr past ↦
          let links = c.args.links.now in
          let none = get_or_past links n [] (omega (arith, past, c.loop-node-test.false, c.nodes-node-end.ensures.count)) in
          let edge = subst (λ (xs : List ℕ). Contains xs m) none direct.edge in
          absurd (omega (arith, edge.1))
    ],
    direct,
  )),
)
