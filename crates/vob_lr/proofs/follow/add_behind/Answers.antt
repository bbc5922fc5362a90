-- The set of a nonterminal gains what stands behind it.
use Rattle.std.proofs.Common.{◌≡◌, ap}
use Rattle.std.proofs.lemmas.Result.{on_ok_weaker}
use Rattle.vob_lr.specs.declared.grammar.Symbol.TheVariants.{Nonterminal}
use Rattle.vob_lr.proofs.EquationLemmas.{GainEach-as}
use Rattle.vob_lr.proofs.follow.add_behind.Goals as goal

pub returns-in-Nonterminal : goal.returns-in-Nonterminal
returns-in-Nonterminal c =
    rw c.in-Nonterminal.is
    (on_ok_weaker c.add_trailer.result
    (λ gains. GainEach-as _ gains (λ n x. (
      (λ both. (ap Nonterminal both.0, both.1)),
      (λ both.
          let named = both.0 in
          let e : c.in-Nonterminal.a ≡ n = cc in
          (e, both.1)),
    )))
    c.add_trailer.ensures)
