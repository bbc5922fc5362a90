-- The numbers of the symbols so far.
use Rattle.std.proofs.Common.{◌≡◌, ◌++◌, map, take}
use Rattle.vob_arrays.specs.Arrays.{symbol_number}
use Rattle.vob_arrays.proofs.build.push_symbols.Given as goal

abbrev pub invariant-loop-symbol : goal.invariant-loop-symbol
invariant-loop-symbol l =
    l.numbers.items ≡ l.fn.numbers.items ++ map (symbol_number l.terminals) (take l.symbol-index l.symbols)
