-- Words are one graph at most, and a text is in one notation.
use Rattle.std.proofs.Common.{◌≡◌, ◌==◌, ℕ, Bool, true, false, None, Some, List, [], refl, sym, ap, ◌∙◌, subst}
use Rattle.std.proofs.lemmas.Bool.{false≢true}
use Rattle.std.proofs.lemmas.Option.{same_Some}
use Rattle.files_dot.specs.DotLaws.{GraphsAreOne, NotationsAreOne, TextsSayOne}
use Rattle.files_dot.specs.Graphs.{IsGraph, words_of}
use Rattle.files_dot.specs.Ids.{IsKeyword, bare_in}
use Rattle.files_dot.specs.Notations.{BeginsGraph, is_graph_word}
use Rattle.files_dot.specs.Places.{first_place}
use Rattle.files_dot.specs.Reading.{State, at}
use Rattle.files_dot.specs.Tokens.{AreBlanks, NoBlank}
use Rattle.files_dot.specs.declared.notation.Notation.TheVariants.{Dot, Lines}
use Rattle.files_dot.specs.declared.place.Place.{Place}
use Rattle.files_dot.specs.declared.token.Mark.{Mark}
use Rattle.files_dot.specs.declared.stage.Stage.TheVariants.{Done}
use Rattle.files_dot.proofs.CompleteLemmas.{graph_is_run}
use Rattle.files_dot.proofs.FirstByteLemmas.{no_blank_word, one_keyword}
use Rattle.files_dot.proofs.OneTokenLemmas.{one_blanks, tokens_one}
use Rattle.files_dot.proofs.RestLemmas.{state}

pub graphs_one : GraphsAreOne
graphs_one words part other is is' =
    let same = same_Some (state (at Done) part.mentions part.edges []) (state (at Done) other.mentions other.edges [])
    (sym (graph_is_run words part is) ∙ graph_is_run words other is') in
    ap (λ (s : State). record { mentions = s.mentions; edges = s.edges }) same

pub texts_one : TextsSayOne
texts_one text part other a b =
    let tokens = (tokens_one text a.tokens b.tokens a.end b.end a.are_tokens b.are_tokens).0 in
    graphs_one (words_of b.tokens) part other (subst (λ list. IsGraph (words_of list) part) tokens a.is_graph) b.is_graph

pub notations_one : NotationsAreOne
notations_one (Some said) text notation other is is' = is ∙ sym is'
notations_one None text Dot Dot is is' = refl
notations_one None text Dot Lines is is' = absurd (is' is)
notations_one None text Lines Dot is is' = absurd (is is')
notations_one None text Lines Lines is is' = refl

-- behind white space and comments a text goes on with one keyword at most
module _ {text rest : List ℕ} {to : Place} (blanks : AreBlanks first_place text to rest)
    (none : NoBlank (to.column == 1) rest) where
  same_rest : (begins : BeginsGraph text) → begins.rest ≡ rest
  same_rest begins =
      (one_blanks begins.are_blanks blanks (no_blank_word begins.place begins.rest begins.mark begins.is_keyword) none).text_is

  pub begins_with : (mark : Mark) → IsKeyword (bare_in rest) mark → (b : Bool) → b ≡ is_graph_word mark → b ≡ true →
      BeginsGraph text
  begins_with mark is b same sure = record {
    place = to;
    rest = rest;
    are_blanks = blanks;
    mark = mark;
    is_keyword = is;
    begins = sym same ∙ sure;
  }

  pub begins_otherwise : (mark : Mark) → IsKeyword (bare_in rest) mark → is_graph_word mark ≡ false → ¬ BeginsGraph text
  begins_otherwise mark is other begins =
      let same = one_keyword (bare_in rest) begins.mark mark
      (subst (λ t. IsKeyword (bare_in t) begins.mark) (same_rest begins) begins.is_keyword) is in
      false≢true (sym other ∙ sym (ap is_graph_word same) ∙ begins.begins)

  pub begins_with_none : ((mark : Mark) → ¬ IsKeyword (bare_in rest) mark) → ¬ BeginsGraph text
  begins_with_none none_there begins =
      none_there begins.mark (subst (λ t. IsKeyword (bare_in t) begins.mark) (same_rest begins) begins.is_keyword)
