-- The names that are left make the same of the numbers so far.
use Rattle.std.proofs.Common.{◌≡◌, ℕ, List, drop}
use Rattle.std.specs.Borrow.{Bor}
use Rattle.files_parse.specs.Terminals.{is_quoted, last_number, number_at}
use Rattle.vob_flow.specs.Lists.{lists_of}
use Rattle.files_parse.proofs.terminals.add_characters.Given as goal

abbrev pub invariant-loop-number : goal.invariant-loop-number
invariant-loop-number l = (word : Bor (List ℕ)) →
    last_number (is_quoted word.now) (lists_of (drop l.number l.names)) l.number (number_at l.numbers word)
    ≡ last_number (is_quoted word.now) (lists_of l.names) 0 (number_at l.fn.numbers word)
