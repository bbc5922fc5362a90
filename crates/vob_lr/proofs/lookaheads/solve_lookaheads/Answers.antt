-- The least sets that flow so are the lookaheads.
use Rattle.std.proofs.Common.{subst}
use Rattle.vob_lr.specs.Equations.{AreEquations}
use Rattle.vob_lr.specs.Expansions.{Expands}
use Rattle.vob_lr.specs.Grammar.{AreFirst, AreNullable}
use Rattle.vob_lr.specs.Items.{item_total}
use Rattle.vob_lr.specs.Lookaheads.{machine_of}
use Rattle.vob_lr.specs.declared.grammar.Grammar.{Grammar}
use Rattle.vob_lr.proofs.FlowLemmas.{HasTables-of, HaveLookaheads-solved}
use Rattle.vob_lr.proofs.lookaheads.solve_lookaheads.Goals as goal

pub invariant_of-flows : goal.invariant_of-flows
invariant_of-flows c =
    let same = c.grammar-grammar.ensures in
    let nullable = c.in_ok-nullable.nullable.bits in
    let first = c.in_ok-first.first.rows in
    let opens = c.in_ok-opens.opens in
    rw (c.requires.nodes, c.deref.ensures.value)
    (HasTables-of (machine_of c.args.items.now c.args.automaton.now) nullable first opens
    c.requires.rules c.requires.states
    (subst (λ (g : Grammar). AreNullable g nullable) same c.in_ok-nullable.ensures.nullable)
    (subst (λ (g : Grammar). AreFirst g first) same c.in_ok-first.ensures.first)
    (subst (λ (g : Grammar). AreEquations g.nonterminals (item_total g.rules.items)
    (Expands g.rules.items) opens) same
    c.in_ok-opens.ensures))

pub returns : goal.returns
returns c =
    let same = c.grammar-grammar.ensures in
    let nullable = c.in_ok-nullable.nullable.bits in
    let first = c.in_ok-first.first.rows in
    let opens = c.in_ok-opens.opens in
    let h = HasTables-of (machine_of c.args.items.now c.args.automaton.now) nullable first opens
    c.requires.rules c.requires.states
    (subst (λ (g : Grammar). AreNullable g nullable) same c.in_ok-nullable.ensures.nullable)
    (subst (λ (g : Grammar). AreFirst g first) same c.in_ok-first.ensures.first)
    (subst (λ (g : Grammar). AreEquations g.nonterminals (item_total g.rules.items)
    (Expands g.rules.items) opens) same
    c.in_ok-opens.ensures) in
    let rows = c.in_ok-rows.ensures in
    let e = rw (c.requires.nodes, c.deref.ensures.value) at c.in_ok-equations.ensures in
    HaveLookaheads-solved (machine_of c.args.items.now c.args.automaton.now) _ _ _ h _ e rows.count rows.long
    rows.solved
