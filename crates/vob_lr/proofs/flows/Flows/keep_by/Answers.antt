-- The item behind draws from the one before it.
use Rattle.std.proofs.Common.{◌+◌, ◌∙◌, ap, arith, subst, sym}
use Rattle.std.proofs.lemmas.Bool.{false≢true}
use Rattle.std.proofs.lemmas.Result.{on_ok_weaker}
use Rattle.vob_lr.specs.Flows.{HasTables, IsKeptBy}
use Rattle.vob_lr.specs.Items.{item_total}
use Rattle.vob_lr.specs.Lookaheads.{Machine}
use Rattle.vob_lr.specs.Nodes.{member_total, node}
use Rattle.vob_lr.specs.declared.grammar.Symbol.TheVariants.{Nonterminal}
use Rattle.vob_lr.proofs.EquationLemmas.{GainEach-as, GainEach-none}
use Rattle.vob_lr.proofs.FlowLemmas.{move_at}
use Rattle.vob_lr.proofs.MemberLemmas.{member_advances}
use Rattle.vob_lr.proofs.ItemLemmas.{next_inside}
use Rattle.vob_lr.proofs.flows.Flows.keep_by.Goals as goal

pub overflow_add-number : goal.overflow_add-number
overflow_add-number c =
    let next = next_inside c.args.self.now.grammar.rules.items c.args.number c.args.symbol
    c.requires.next in
    let len = c.len-len.ensures
    ∙ ap (λ (m : Machine). item_total m.grammar.rules.items) c.self.view_is in
    omega (arith, next, len)

pub number-to-requires : goal.number-to-requires
number-to-requires c =
    let h = subst (λ (z : Machine). HasTables z c.self.inside.nullable.now.bits
    c.self.inside.first.now.rows c.self.inside.opens.now.starts) c.self.view_is
    c.self.invariant in
    let by = move_at _ c.args.by c.args.symbol (sym (c.is_by.ensures.0 c.if-not-is_by.false)) c.requires.by in
    rw (ap (λ (m : Machine). m.sets) c.self.view_is)
    (member_advances c.args.self.now h.states c.args.state c.args.number c.args.symbol c.args.by.state
    c.requires.item c.requires.next by)

pub draw-requires : goal.draw-requires
draw-requires c =
    let sets = ap (λ (m : Machine). member_total m.sets) c.self.view_is in
    omega (arith, c.number-to.ensures.inside, sets, c.requires.sets)

pub returns-then-not-is_by : goal.returns-then-not-is_by
returns-then-not-is_by c =
    GainEach-none _ _ (λ n y kept. absurd (false≢true (sym c.if-not-is_by.true
    ∙ c.is_by.ensures.1 kept.0)))

pub returns : goal.returns
returns c =
    let m = c.args.self.now in
    let q = c.args.state in
    let j = c.args.number in
    let named = c.is_by.ensures.0 c.if-not-is_by.false in
    let from = ap Nonterminal (c.number-from.ensures.number
    ∙ ap (λ (z : Machine). node z.sets q j) c.self.view_is) in
    let at = c.number-to.ensures.number
    ∙ ap (λ (z : Machine). node z.sets c.args.by.state (j + 1)) c.self.view_is in
    on_ok_weaker c.draw.result (λ made.
    GainEach-as (IsKeptBy m q j c.args.symbol c.args.by) made (λ n y. (
      (λ e. (named, sym at ∙ e.0, sym from ∙ e.1)),
      (λ kept. (at ∙ kept.1, from ∙ kept.2)),
    ))) c.draw.ensures
