-- Names of symbols, and the line of a rule.
use Rattle.std.specs.Prelude.{ℕ, List, ◌++◌, codes}
use Rattle.std.specs.List.{flat_map}
use Rattle.vob_flow.specs.Lists.{lists_of}
use Rattle.vob_lr.specs.declared.grammar.Rule.{Rule}
use Rattle.vob_lr.specs.declared.grammar.Symbol.{Symbol}
use Rattle.vob_lr.specs.declared.grammar.Symbol.TheVariants.{Terminal, Nonterminal}
use Rattle.files_text.specs.Printed.{line_end, name_at}
use Rattle.files_grammar.specs.declared.file.SymbolNames.{SymbolNames}

-- the name of a terminal, and nothing if there is none
abbrev pub terminal_name : SymbolNames → ℕ → List ℕ
terminal_name names t = name_at (lists_of names.terminals.items) t

-- the name of a nonterminal, and nothing if there is none
abbrev pub nonterminal_name : SymbolNames → ℕ → List ℕ
nonterminal_name names a = name_at (lists_of names.nonterminals.items) a

-- the name of a symbol
abbrev pub symbol_name : SymbolNames → Symbol → List ℕ
symbol_name names (Terminal t) = terminal_name names t
symbol_name names (Nonterminal a) = nonterminal_name names a

-- a space and the name of a symbol
abbrev pub next_name : SymbolNames → Symbol → List ℕ
next_name names symbol = codes " " ++ symbol_name names symbol

-- the line of a rule: its left side, a colon, and the symbols of its right side
abbrev pub rule_line : SymbolNames → Rule → List ℕ
rule_line names rule =
    nonterminal_name names rule.left ++ codes ":" ++ flat_map (next_name names) rule.right.items ++ line_end
