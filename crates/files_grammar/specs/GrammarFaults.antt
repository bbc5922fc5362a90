-- Why nothing is printed of a grammar.
use Rattle.std.specs.Prelude.{◌≡◌, ℕ, List, [], Option, ⊤}
use Rattle.std.specs.Io.KnownBytes.{Keeps}
use Rattle.vob_lr.specs.Faults.{IsBadRule}
use Rattle.vob_lr.specs.declared.grammar.Grammar.{Grammar}
use Rattle.vob_lr.specs.declared.grammar.GrammarError.{GrammarError}
use Rattle.vob_lr.specs.declared.grammar.GrammarError.TheVariants.{Memory, BadSymbol, NoRule}
use Rattle.files_text.specs.declared.fault.Fault.TheVariants.{Memory as NoMemory, Output}
use Rattle.files_grammar.specs.declared.fault.GrammarFault.{GrammarFault}
use Rattle.files_grammar.specs.declared.fault.GrammarFault.TheVariants.{Grammar as NoGrammar, Text, Rules}

-- the fault of what is wrong with a grammar
abbrev pub fault_of : GrammarError → GrammarFault
fault_of Memory = Text NoMemory
fault_of (BadSymbol rule) = Rules (BadSymbol rule)
fault_of NoRule = Rules NoRule

-- why a grammar has no table: memory ran out, there is no rule, or one names a symbol that isn't there
abbrev pub HasNoTable : Grammar → GrammarFault → Type 0
HasNoTable grammar (Text NoMemory) = ⊤
HasNoTable grammar (Rules (BadSymbol rule)) = IsBadRule grammar rule
HasNoTable grammar (Rules NoRule) = grammar.rules.items ≡ []
HasNoTable grammar fault = ⊥

-- why a grammar wasn't printed. Nothing was written then, unless the output failed
abbrev pub FailsBy : Grammar → GrammarFault → (old new : Option (List ℕ)) → Type 0
FailsBy grammar (Text (Output error)) old new = ⊤
FailsBy grammar fault old new = HasNoTable grammar fault × Keeps old new

-- a text is no grammar
abbrev pub IsOfText : GrammarFault → Type 0
IsOfText (NoGrammar error) = ⊤
IsOfText fault = ⊥
