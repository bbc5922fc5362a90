-- The number of the symbol is added, if there is one.
use Rattle.std.proofs.Common.{◌≡◌, ◌∙◌, ap, arith, refl}
use Rattle.std.proofs.lemmas.Option.{none-some}
use Rattle.vob_lr.specs.Ahead.{HasAhead, number_of}
use Rattle.vob_lr.specs.declared.grammar.Grammar.{Grammar}
use Rattle.vob_lr.proofs.ClosureLemmas.{Gains-as, Gains-none, Gains-set}
use Rattle.vob_lr.proofs.AheadLemmas.{look_is, next_sound, number_below}
use Rattle.vob_lr.proofs.ahead.look.Goals as goal

pub symbol_number-requires : goal.symbol_number-requires
symbol_number-requires c =
    let symbol = c.in-Some.symbol in
    let grammar = c.args.items.now in
    let sound = next_sound grammar c.requires.rules c.args.number symbol
    ((c.in-Some.ensures symbol).0 refl) in
    let below = number_below grammar.terminals grammar.nonterminals symbol sound in
    let same = ap (λ (g : Grammar). number_of g.terminals symbol) c.grammar.ensures in
    omega (arith, below, same, c.requires.long)

pub set-requires : goal.set-requires
set-requires c =
    let symbol = c.in-Some.symbol in
    let grammar = c.args.items.now in
    let sound = next_sound grammar c.requires.rules c.args.number symbol
    ((c.in-Some.ensures symbol).0 refl) in
    let below = number_below grammar.terminals grammar.nonterminals symbol sound in
    let same = ap (λ (g : Grammar). number_of g.terminals symbol) c.grammar.ensures in
    record { in_range = omega (arith, below, same, c.symbol_number.ensures, c.requires.long) }

pub returns-in-Some : goal.returns-in-Some
returns-in-Some c =
    let symbol = c.in-Some.symbol in
    let number = c.symbol_number.ensures
    ∙ ap (λ (g : Grammar). number_of g.terminals symbol) c.grammar.ensures in
    Gains-as _ _ (λ k. c.symbol_number.result ≡ k) (HasAhead c.args.items.now c.args.number)
    (look_is c.args.items.now c.requires.rules c.args.number symbol c.in-Some.ensures
    c.symbol_number.result number)
    (Gains-set _ _ c.symbol_number.result c.set.ensures.written)

pub returns-in-None : goal.returns-in-None
returns-in-None c =
    Gains-none (HasAhead c.args.items.now c.args.number) _
    (λ k ahead. none-some _ ((c.in-None.ensures _).1 ahead))
