-- A range is cut at its first dot.
use Rattle.std.proofs.Common.{◌≡◌, ◌++◌, sym, ◌∙◌, arith, None, Some, ap, codes}
use Rattle.std.proofs.lemmas.Bool.Decides.{Decides-eqb}
use Rattle.std.proofs.lemmas.Result.{err_from_is_err_and}
use Rattle.std.proofs.lemmas.Slice.Eq.{strip_prefix_is}
use Rattle.vob_lines.proofs.SpellingLemmas.{range-cut}
use Rattle.vob_lines.proofs.spelling.around_dots.Goals as goal

-- no dots
pub returns-in_err-back-clause-err : goal.returns-in_err-back-clause-err
returns-in_err-back-clause-err c =
    let none : c.strip_prefix.result ≡ None = grind arith in
    let other =
    rw none at (strip_prefix_is Decides-eqb c.split_at.result.1.now (codes "..")
    c.strip_prefix.result c.strip_prefix.ensures.cases) in
    let p = err_from_is_err_and c.from_residual.result c.from_residual.ensures.1 in
    rw (p.1, p.2) (
      grind arith,
      λ start end range.
          let cut = range-cut _ start end _ range c.first_place.ensures.place in
          other range.back (c.split_at.ensures.back ∙ cut.1),
    )

pub returns-clause-ok : goal.returns-clause-ok
returns-clause-ok c =
    let found : c.strip_prefix.result ≡ Some c.in_ok-back.back = grind arith in
    let dots =
    rw found at (strip_prefix_is Decides-eqb c.split_at.result.1.now (codes "..")
    c.strip_prefix.result c.strip_prefix.ensures.cases) in
    c.split_at.ensures.by_index.0 ∙ ap (λ xs. c.split_at.result.0.now ++ xs) dots

pub returns-clause-alone : goal.returns-clause-alone
returns-clause-alone c = λ start end range.
    let found : c.strip_prefix.result ≡ Some c.in_ok-back.back = grind arith in
    let dots =
    rw found at (strip_prefix_is Decides-eqb c.split_at.result.1.now (codes "..")
    c.strip_prefix.result c.strip_prefix.ensures.cases) in
    let cut = range-cut _ start end _ range c.first_place.ensures.place in
    let same : codes ".." ++ c.in_ok-back.back.now ≡ codes ".." ++ range.back =
    sym dots ∙ c.split_at.ensures.back ∙ cut.1 in
    let back : c.in_ok-back.back.now ≡ range.back = cc in
    (c.split_at.ensures.front ∙ cut.0, back)
