-- What an item brings is opened.
use Rattle.std.proofs.Common.{◌≡◌, ◌↔◌, ◌+◌, ◌∙◌, ℕ, Bool, List, ap, arith, drop, get_or, length, subst, sym}
use Rattle.std.proofs.lemmas.Option.{get_or_from_slice_get, slice_get_within}
use Rattle.std.proofs.lemmas.Result.{on_ok_weaker}
use Rattle.vob_lr.specs.Behind.{IsOfTrailer, IsTrailer}
use Rattle.vob_lr.specs.Equations.{GainEach}
use Rattle.vob_lr.specs.Flows.{HasTables, IsOpened}
use Rattle.vob_lr.specs.Walked.{IsOfMember}
use Rattle.vob_lr.specs.Expansions.{Has}
use Rattle.vob_lr.specs.ItemSets.{Opens}
use Rattle.vob_lr.specs.Items.{HasNext, IsItem, item_total}
use Rattle.vob_lr.specs.Lookaheads.{Machine}
use Rattle.vob_lr.specs.Nodes.{node}
use Rattle.vob_lr.specs.declared.grammar.Grammar.{Grammar}
use Rattle.vob_lr.specs.declared.grammar.Rule.{Rule}
use Rattle.vob_lr.specs.declared.grammar.Symbol.TheVariants.{Nonterminal}
use Rattle.vob_lr.proofs.EquationLemmas.{GainEach-as}
use Rattle.vob_lr.proofs.FirstLemmas.{rule_read}
use Rattle.vob_lr.proofs.ItemLemmas.{next_inside}
use Rattle.vob_lr.proofs.MemberLemmas.{member_closed}
use Rattle.vob_lr.proofs.FlowLemmas.{next_dot, next_then, opened_is, symbol_there}
use Rattle.vob_lr.proofs.flows.Flows.open.Goals as goal

pub item-item-requires : goal.item-item-requires
item-item-requires c =
    let next = next_inside c.args.self.now.grammar.rules.items c.args.number (Nonterminal c.args.nonterminal)
    c.requires.next in
    omega (arith, next, ap (λ (m : Machine). item_total m.grammar.rules.items) c.self.view_is)

pub index-rule-requires : goal.index-rule-requires
index-rule-requires c =
    let is = c.item-item.ensures in
    let less = slice_get_within c.self.inside.items.now.rules.items c.item-item.result.rule is.rule
    is.is in
    omega (arith, less, ap (λ (g : Grammar). length g.rules.items) c.grammar.ensures)

pub begin-empty-requires-clause-rule : goal.begin-empty-requires-clause-rule
begin-empty-requires-clause-rule c =
    let h = subst (λ (z : Machine). HasTables z c.self.inside.nullable.now.bits
    c.self.inside.first.now.rows c.self.inside.opens.now.starts) c.self.view_is
    c.self.invariant in
    let g = c.args.self.now.grammar in
    let is = c.item-item.ensures in
    let less = slice_get_within c.self.inside.items.now.rules.items c.item-item.result.rule is.rule
    is.is in
    let here = c.grammar.ensures ∙ ap (λ (m : Machine). m.grammar) c.self.view_is in
    let there = ap (λ (m : Machine). length m.grammar.rules.items) c.self.view_is in
    rule_read g h.rules c.item-item.result.rule c.index-rule.result.now
    (omega (arith, less, there))
    (c.index-rule.ensures ∙ ap (λ (z : Grammar). get_or z.rules.items c.item-item.result.rule
    c.index-rule.result.now) here)

pub begin-empty-requires-clause-dot : goal.begin-empty-requires-clause-dot
begin-empty-requires-clause-dot c =
    let own = c.self.inside.items.now.rules.items in
    let is = c.item-item.ensures in
    let read = c.index-rule.ensures ∙ ap (λ (z : Grammar). get_or z.rules.items
    c.item-item.result.rule c.index-rule.result.now) c.grammar.ensures
    ∙ get_or_from_slice_get own c.item-item.result.rule is.rule c.index-rule.result.now is.is in
    let next = subst (λ (m : Machine). HasNext m.grammar.rules.items c.args.number
    (Nonterminal c.args.nonterminal)) (sym c.self.view_is) c.requires.next in
    omega (
      arith,
      next_dot own c.args.number (Nonterminal c.args.nonterminal) c.item-item.result is next,
      ap (λ (r : Rule). length r.right.items) read,
    )

pub starts-opened-requires : goal.starts-opened-requires
starts-opened-requires c =
    let h = subst (λ (z : Machine). HasTables z c.self.inside.nullable.now.bits
    c.self.inside.first.now.rows c.self.inside.opens.now.starts) c.self.view_is
    c.self.invariant in
    let there = symbol_there _ _ _ _ h c.args.number (Nonterminal c.args.nonterminal)
    c.requires.next in
    omega (arith, there, h.openings.count)

pub open_items-requires-clause-opened : goal.open_items-requires-clause-opened
open_items-requires-clause-opened c = λ i own.
    let h = subst (λ (z : Machine). HasTables z c.self.inside.nullable.now.bits
    c.self.inside.first.now.rows c.self.inside.opens.now.starts) c.self.view_is
    c.self.invariant in
    let a = c.args.nonterminal in
    let there = subst (λ (bits : List Bool). Has bits i) c.starts-opened.ensures own in
    member_closed c.args.self.now h.states c.args.state c.args.number a i c.requires.item c.requires.next
    ((h.openings.each a i).0 there)

pub returns-clause-opened : goal.returns-clause-opened
returns-clause-opened c =
    let m = c.args.self.now in
    let rules = m.grammar.rules.items in
    let q = c.args.state in
    let j = c.args.number in
    let a = c.args.nonterminal in
    let item = c.item-item.result in
    let row = c.starts-opened.result in
    let starts = c.begin-empty.new.begins.bits in
    let empty = c.begin-empty.result in
    let h = subst (λ (z : Machine). HasTables z c.self.inside.nullable.now.bits
    c.self.inside.first.now.rows c.self.inside.opens.now.starts) c.self.view_is
    c.self.invariant in
    let brought = subst (λ (bits : List Bool). (i : ℕ) → Has bits i ↔ Opens rules a i)
    (sym c.starts-opened.ensures) (h.openings.each a) in
    let is = subst (λ (z : Machine). IsItem z.grammar.rules.items j item) c.self.view_is
    c.item-item.ensures in
    let here = c.grammar.ensures ∙ ap (λ (z : Machine). z.grammar) c.self.view_is in
    let read = c.index-rule.ensures
    ∙ ap (λ (g : Grammar). get_or g.rules.items item.rule c.index-rule.result.now) here
    ∙ get_or_from_slice_get rules item.rule is.rule c.index-rule.result.now is.is in
    let trailer = subst (λ (r : Rule). IsTrailer rules (drop (item.dot + 1) r.right.items) starts empty)
    read c.begin-empty.ensures.trailer in
    let from = c.number-from.ensures.number ∙ ap (λ (z : Machine). node z.sets q j) c.self.view_is in
    on_ok_weaker c.open_items.result (λ made.
    GainEach-as (IsOpened m q j)
    (subst (λ (k : ℕ). GainEach (IsOfMember row (λ i n y. (node m.sets q i ≡ n)
    × IsOfTrailer k starts empty y)) c.args.equations.now c.open_items.new.equations) from made)
    (opened_is m _ _ _ h q j a (drop (item.dot + 1) is.rule.right.items) row starts empty
    (next_then rules j a item is c.requires.next) brought trailer))
    c.open_items.ensures
