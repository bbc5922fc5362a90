-- The edges of a node more are followed.
use Rattle.std.proofs.Common.{◌≡◌, ◌∙◌, ◌<◌, true, get_or, length, sym, subst, arith, inl, inr}
use Rattle.std.proofs.lemmas.Bool.{cases_lt}
use Rattle.std.proofs.lemmas.List.{get_or_default}
use Rattle.vob_block.specs.Packing.{item}
use Rattle.vob_block.proofs.PackingLemmas.{true_inside}
use Rattle.vob_flow.specs.Closure.{IsEdge}
use Rattle.files_graph.proofs.direct.follow.Goals as goal
use Rattle.files_graph.proofs.direct.follow.Goals.{After-index-node}

pub turns-init : goal.turns-init
turns-init c = record {
  search = c.requires;
  fewer = omega arith;
  kept = λ x on. on;
  from = λ ends starts h. h;
}

less : (c : After-index-node) → c.turns.search.followed < length c.turns.search.found.items
less c = omega (arith, c.if-search-len.true, c.len.ensures, c.turns.search.found.ok.0)

node_is : (c : After-index-node) →
    get_or c.turns.search.found.items c.turns.search.followed 0 ≡ c.index-node.result.now
node_is c = sym (c.index-node.ensures
    ∙ get_or_default c.turns.search.found.items c.turns.search.followed c.index-node.result.now 0 (less c))

on : (c : After-index-node) → item c.turns.search.seen.bits c.index-node.result.now ≡ true
on c = subst (λ n. item c.turns.search.seen.bits n ≡ true) (node_is c)
    (c.turns.invariant.search.listed c.turns.search.followed (less c))

pub find_ends-requires-clause-there : goal.find_ends-requires-clause-there
find_ends-requires-clause-there c =
    let at = (goal.at.find_ends-requires-clause-there c).After-index-node in
    let there = true_inside c.turns.search.seen.bits c.index-node.result.now (on at) in
    omega (arith, there, c.turns.invariant.search.seen_long)

pub turns-preserved : goal.turns-preserved
turns-preserved c =
    let at = (goal.at.turns-preserved c).After-index-node in
    let h = c.turns.invariant in
    let f = c.in_ok-find_ends.ensures in
    let new = c.find_ends.new.search in
    let k = c.turns.search.followed in
    record {
      search = record {
        seen_long = f.search.seen_long;
        missing_long = f.search.missing_long;
        listed = f.search.listed;
        whole = f.search.whole;
        steps = f.search.steps;
        left_is = f.search.left_is;
        within = omega (arith, less at, f.more.followed, f.more.longer);
      };
      fewer = omega (arith, f.search.left_is, f.more.fewer, h.search.left_is, h.fewer);
      kept = λ x was. f.more.kept x (h.kept x was);
      from = λ ends starts g.
          let next = f.from ends starts (on at) (h.from ends starts g) in
          record {
            sound = next.sound;
            wanted = next.wanted;
            closed = λ j y below edge above. elim (cases_lt j k) [
              | inl early ↦ next.closed j y (omega (arith, early, f.more.followed)) edge above
              | inr past ↦
                  let here : j ≡ k = omega (arith, past, below, f.more.followed) in
                  let same = f.more.prefix j (omega (arith, here, less at)) in
                  let is = same ∙ subst (λ i. get_or c.turns.search.found.items i 0 ≡ c.index-node.result.now)
                  (sym here) (node_is at) in
                  f.given y (subst (λ n. IsEdge c.args.links.now n y) is edge) above
            ];
          };
    }
