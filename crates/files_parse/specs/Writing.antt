-- Why a tree isn't written.
use Rattle.std.specs.Prelude.{ℕ, List, Option, ⊤}
use Rattle.std.specs.Io.KnownBytes.{Keeps}
use Rattle.files_text.specs.declared.fault.Fault.TheVariants.{Memory, Output}
use Rattle.files_grammar.specs.declared.fault.GrammarFault.{GrammarFault}
use Rattle.files_grammar.specs.declared.fault.GrammarFault.TheVariants.{Text}

-- there was no memory, and nothing was written; or the output failed
abbrev pub IsUnwritten : GrammarFault → (old new : Option (List ℕ)) → Type 0
IsUnwritten (Text Memory) old new = Keeps old new
IsUnwritten (Text (Output error)) old new = ⊤
IsUnwritten fault old new = ⊥
