-- What fits is listed by the tokens before.
use Rattle.std.proofs.Common.{List, ℕ, string_bytes, subst, sym}
use Rattle.files_parse.specs.Fitting.{ListsExpected}
use Rattle.files_parse.proofs.ParseLemmas.{take_within}
use Rattle.files_parse.proofs.parse.unfit.Goals as goal

pub returns : goal.returns
returns c = record {
  at = c.args.at;
  unexpected = c.requires;
  place = sym c.place_of-line.ensures;
  is_called = c.in_ok-name.ensures;
  lists = subst (λ (l : List ℕ). ListsExpected c.args.table.now c.args.file.now.names l
      (string_bytes c.in_ok-expected.expected))
      (take_within c.args.tokens.now c.args.at c.min.result c.min.ensures) c.in_ok-expected.ensures;
}
