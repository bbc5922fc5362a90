-- What the bytes so far stand for was added, and no quote is among them that belongs to no backslash.
use Rattle.std.proofs.Common.{◌≡◌, ◌++◌, ◌<◌, ℕ, false, take}
use Rattle.std.specs.List.{fold}
use Rattle.files_dot.specs.Pieces.{IsQuote, escapes, text_of}
use Rattle.files_dot.proofs.quoted.read_quoted.Given as goal

abbrev pub invariant-bytes : goal.invariant-bytes
invariant-bytes l = (l.is_escaped ≡ fold escapes false (take l.i l.inside))
    × (l.text.items ≡ l.initial.text.items ++ text_of false (take l.i l.inside))
    × ((j : ℕ) → j < l.i → ¬ IsQuote l.inside j)
