-- The lines of rules.
use Rattle.std.proofs.Common.{◌≡◌, ℕ, ◌<◌, List, ◌++◌, get_or, length, codes, refl}
use Rattle.std.specs.Fmt.{decimal}
use Rattle.std.proofs.lemmas.Option.{slice_get_read}
use Rattle.vob_lr.specs.declared.grammar.Rule.{Rule}
use Rattle.files_grammar.specs.Rules.{rule_line}
use Rattle.files_grammar.specs.ItemText.{SaysRule}
use Rattle.files_grammar.specs.declared.file.SymbolNames.{SymbolNames}

pub says_rule : (names : SymbolNames) (rules : List Rule) (number : ℕ) (rule : Rule) → number < length rules →
    rule ≡ get_or rules number rule →
    SaysRule names rules number ((codes "rule " ++ decimal number ++ codes " ") ++ rule_line names rule)
says_rule names rules number rule less is =
    (rule, slice_get_read rules (length rules) number rule refl less is, refl)
