-- All moves are made again.
use Rattle.std.proofs.Common.{rules, ◌≡◌, ◌++◌, [], length, reverse, arith, refl, ap, List, ◌∙◌}
use Rattle.vob_lr.specs.declared.tree.Node.{Node}
use Rattle.vob_lr.proofs.ReplayLemmas.{begun, ended}
use Rattle.vob_lr.proofs.tree.replayed.Goals as goal

pub moves-init : goal.moves-init
moves-init c =
    begun c.args.rules.now c.args.tokens.now c.args.parsed.now c.args.symbols.now (record {
      nodes = c.in_ok-with_capacity.field-0;
      roots = c.new.result;
      read = 0;
    }) (reverse c.in_ok-moves.moves.items) (omega arith) c.in_ok-with_capacity.ensures.items c.new.ensures.items refl c.in_ok-moves.ensures

nodes_are : (c : goal.After-drop-moves-2) →
    c.extend_from_slice.new.self.items ≡ c.moves.forest.nodes.items ++ c.moves.forest.roots.items
nodes_are c = c.in_ok-extend_from_slice.ensures.items ∙ ap (λ (l : List Node). c.moves.forest.nodes.items ++ l) c.deref.ensures.value

first_is : (c : goal.After-drop-moves-2) → c.len-first.result ≡ length c.moves.forest.nodes.items
first_is c = omega (arith, c.len-first.ensures, c.moves.forest.nodes.ok.0)

pub returns : goal.returns
returns c =
    let none : reverse c.moves.moves.items ≡ [] = search rules in
    ended c.args.rules.now c.args.tokens.now c.args.parsed.now c.args.symbols.now c.moves.forest
    (reverse c.moves.moves.items) _ none (nodes_are c) (first_is c) c.moves.invariant
