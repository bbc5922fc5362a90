-- Each place leads to the variables that have it, as a place leads to the nodes that generate it.
use Rattle.std.proofs.Common.{◌≡◌, ◌+◌, ℕ, Vec, Global, ap, ◌∙◌, sym, subst, length, arith}
use Rattle.std.proofs.lemmas.List.{length-map}
use Rattle.vob_flow.specs.Closure.{IsEdge}
use Rattle.vob_flow.specs.Lists.{lists_of}
use Rattle.vob_flow.proofs.touched.owners_of.Goals as goal

pub returns : goal.returns
returns c =
    let lists = c.args.by_variable.now in
    let made = c.in_ok-owners.ensures in
    let as_many = length-map lists (λ (v : Vec ℕ Global). v.items) in
    let apart : length c.in-Ok.apart ≡ length (lists_of lists) = c.in-Ok.ensures.nodes ∙ sym as_many in record {
      count = made.count ∙ ap (λ n. n + c.args.places + 1) apart;
      lead = λ x v low within. subst (λ n. IsEdge c.in_ok-owners.owners (n + v) x) apart
          (made.edges.starts x v (omega (arith, low, apart)) within);
    }
