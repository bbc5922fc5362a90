use Rattle.std.proofs.Common.{◌≡◌, map, take}
use Rattle.vob_lines.proofs.spelling.letters_of.Given as goal

-- the first letters are those of the values
abbrev pub invariant-loop-byte : goal.invariant-loop-byte
invariant-loop-byte g l = take l.byte-index l.word ≡ map g.T.Letter.letter l.values.items
