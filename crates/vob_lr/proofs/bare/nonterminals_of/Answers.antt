-- One symbol more.
use Rattle.std.proofs.Common.{◌∙◌, List, [], ◌∷◌, ◌++◌, ap, get_or, sym, take}
use Rattle.std.proofs.lemmas.List.{append-nil}
use Rattle.vob_lr.specs.Productive.{nonterminals_in}
use Rattle.vob_lr.specs.declared.grammar.Symbol.{Symbol}
use Rattle.vob_lr.specs.declared.grammar.Symbol.TheVariants.{Nonterminal, Terminal}
use Rattle.vob_lr.proofs.ProductiveLemmas.{nonterminals_in-more}
use Rattle.vob_lr.proofs.bare.nonterminals_of.Goals.{in-Nonterminal+in_ok-push, in_default}
use Rattle.vob_lr.proofs.bare.nonterminals_of.Goals as goal

pub loop-symbol-preserved : goal.loop-symbol-preserved
loop-symbol-preserved c =
    let xs = c.args.symbols.now in
    let i = c.loop-symbol.symbol-index in
    elim c.match-symbol.branch [
      | in-Nonterminal+in_ok-push w ↦
          let more = nonterminals_in-more xs i (Nonterminal w.in-Nonterminal.field-0) (Terminal 0)
          c.loop-symbol-test.true w.in-Nonterminal.is in
          ap (λ v. v.items) w.own-is ∙ w.in_ok-push.ensures.items
          ∙ ap (λ (ys : List Symbol). ys ++ get_or xs i (Terminal 0) ∷ []) c.loop-symbol.invariant
          ∙ ap (λ (y : Symbol). nonterminals_in (take i xs) ++ y ∷ []) w.in-Nonterminal.is ∙ sym more
      | in_default w ↦
          let more = nonterminals_in-more xs i (Terminal w.in_default.field-0) (Terminal 0)
          c.loop-symbol-test.true w.in_default.is in
          ap (λ v. v.items) w.own-is ∙ c.loop-symbol.invariant
          ∙ sym (append-nil (nonterminals_in (take i xs))) ∙ sym more
    ]
