-- The item behind this one is added where the symbol stands between their dots.
use Rattle.std.proofs.Common.{◌≡◌, ◌∙◌, ◌+◌, arith, sym}
use Rattle.std.proofs.lemmas.Bool.{false≢true}
use Rattle.vob_lr.specs.Expansions.{Advances}
use Rattle.vob_lr.proofs.ClosureLemmas.{Adds-as, Adds-none, Adds-push}
use Rattle.vob_lr.proofs.ItemLemmas.{next_inside}
use Rattle.vob_lr.proofs.closure.Closures.advance.Goals as goal

pub returns-then-not-stands_behind : goal.returns-then-not-stands_behind
returns-then-not-stands_behind c =
    let rules = c.self.inside.items.rules.items in
    rw (← c.self.view_is)
    (Adds-none (Advances rules c.args.symbol c.args.number) c.args.made.now.items
    (λ i a. false≢true (sym c.if-not-stands_behind.true
    ∙ c.stands_behind.ensures.1 ((c.next.ensures c.args.symbol).1 a.0))))

pub overflow_add-number : goal.overflow_add-number
overflow_add-number c =
    let rules = c.self.inside.items.rules.items in
    let ahead = (c.next.ensures c.args.symbol).0
    (c.stands_behind.ensures.0 c.if-not-stands_behind.false) in
    omega (arith, next_inside rules c.args.number c.args.symbol ahead, c.len-len.ensures)

pub returns : goal.returns
returns c =
    let rules = c.self.inside.items.rules.items in
    let ahead = (c.next.ensures c.args.symbol).0
    (c.stands_behind.ensures.0 c.if-not-stands_behind.false) in
    rw (← c.self.view_is, c.in_ok-push.ensures.items)
    (Adds-as _ _ (λ i. c.args.number + 1 ≡ i) (Advances rules c.args.symbol c.args.number)
    (λ i. ((λ e. (ahead, e)), (λ a. a.1)))
    (Adds-push c.args.made.now.items (c.args.number + 1)))
