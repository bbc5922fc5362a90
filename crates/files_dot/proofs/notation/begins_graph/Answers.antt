-- The text goes on with another keyword, or with none.
use Rattle.std.proofs.Common.{◌≡◌, Bool, true, false, refl, sym, subst}
use Rattle.std.specs.Bool.{OnFalse}
use Rattle.files_dot.specs.Notations.{BeginsGraph, is_graph_word}
use Rattle.files_dot.proofs.OneGraphLemmas.{begins_otherwise, begins_with_none}
use Rattle.files_dot.proofs.notation.begins_graph.Goals as goal

pub returns-in-Some-clause-other : goal.returns-in-Some-clause-other
returns-in-Some-clause-other c =
    subst (λ b. OnFalse b (¬ BeginsGraph c.args.text.now)) (sym c.is_graph_word.ensures)
    (otherwise (is_graph_word c.in-Some.mark) refl)
  where
    otherwise : (b : Bool) → is_graph_word c.in-Some.mark ≡ b → OnFalse b (¬ BeginsGraph c.args.text.now)
    otherwise true is = tt
    otherwise false is =
        begins_otherwise c.pass_blanks.ensures.blanks c.pass_blanks.ensures.none c.in-Some.mark c.in-Some.ensures.some is

pub returns-in-None-clause-other : goal.returns-in-None-clause-other
returns-in-None-clause-other c =
    begins_with_none c.pass_blanks.ensures.blanks c.pass_blanks.ensures.none c.in-None.ensures.none
