-- A byte that is no letter.
use Rattle.std.proofs.Common.{◌≡◌, ◌<◌, length, None, arith}
use Rattle.vob_lines.proofs.SpellingLemmas.{not_dash, letters-none}
use Rattle.vob_lines.proofs.spelling.letters_of.Goals as goal

pub returns-in_err-value-clause-err : goal.returns-in_err-value-clause-err
returns-in_err-value-clause-err g c =
    let below : c.loop-byte.byte-index < length c.args.word.now = omega arith in
    let none : c.read.result ≡ None = grind arith in
    let other = rw none at c.read.ensures.none in
    let some = not_dash _ _ _ c.eq.ensures c.if-eq.false c.as_slice.ensures in
    λ _. letters-none g.T.Letter.letter _ _ below other some
