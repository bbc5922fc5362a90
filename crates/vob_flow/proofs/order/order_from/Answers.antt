-- The root was seen, and waits alone.
use Rattle.std.proofs.Common.{◌∙◌, ◌++◌, ◌∷◌, [], length, subst, ap, sym, List, ℕ}
use Rattle.vob_flow.specs.Order.{IsVisited, sets_of, visit_of}
use Rattle.vob_flow.proofs.OrderLemmas.{IsVisited-enter, still_seen}
use Rattle.vob_flow.proofs.SearchLemmas.{IsSearched-root}
use Rattle.vob_flow.proofs.order.order_from.Goals as goal

pub visits-init : goal.visits-init
visits-init c =
    let root = c.args.root in
    let seen = c.enter.new.seen.bits in
    let stack = c.in_ok-enter.ensures.stack ∙ ap (λ visits. visits ++ visit_of root 0 ∷ []) c.requires.empty in
    let alone = ap sets_of stack in
    record {
      visited = subst (λ (waiting : List ℕ). IsVisited (length c.args.graph.now) seen waiting c.args.order.now.items) (sym alone)
          (IsVisited-enter root c.requires.visited (sym c.get_unchecked.ensures.item ∙ c.if-get_unchecked.false) c.enter.ensures.seen);
      searched = rw stack (IsSearched-root _ _ _ root seen (still_seen root c.enter.ensures.seen)
          c.requires.searched);
      seen_more = still_seen root c.enter.ensures.seen;
      root = c.enter.ensures.seen.there;
    }
