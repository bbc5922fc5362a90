-- What is printed of the rules and of the items of states.
use Rattle.std.specs.Prelude.{◌≡◌, ◌⊎◌, ℕ, ◌<◌, List, [], ◌++◌, codes, drop, length, take, slice_get, Some}
use Rattle.std.specs.Fmt.{decimal}
use Rattle.std.specs.List.{flat_map, range_with_len}
use Rattle.vob_lr.specs.Items.{IsItem}
use Rattle.vob_lr.specs.Lookaheads.{LooksAhead, Machine}
use Rattle.vob_lr.specs.Those.{AreThose}
use Rattle.vob_lr.specs.declared.grammar.Rule.{Rule}
use Rattle.vob_lr.specs.declared.items.Item.{Item}
use Rattle.files_text.specs.Printed.{line_end}
use Rattle.files_grammar.specs.Rules.{next_name, nonterminal_name, rule_line}
use Rattle.files_grammar.specs.SetText.{terminals_text}
use Rattle.files_grammar.specs.Texts.{AreTexts, Both, SaysIf}
use Rattle.files_grammar.specs.declared.file.SymbolNames.{SymbolNames}

-- the line of the rule with a number
abbrev pub SaysRule : SymbolNames → List Rule → ℕ → List ℕ → Type 0
SaysRule names rules r text = (rule : Rule) × (slice_get rules r ≡ Some rule)
    × (text ≡ codes "rule " ++ decimal r ++ codes " " ++ rule_line names rule)

-- an empty line, and the lines of all rules
abbrev pub SaysRules : SymbolNames → List Rule → List ℕ → Type 0
SaysRules names rules = Both (λ text. text ≡ line_end)
    (AreTexts (SaysRule names rules) (range_with_len 0 (length rules)))

-- an item is shown: its dot is after a symbol, it is the start, or its dot is after all symbols
abbrev pub IsShown : Rule → Item → Type 0
IsShown rule item = (0 < item.dot) ⊎ (item.rule ≡ 0) ⊎ (item.dot ≡ length rule.right.items)

-- a parser reduces by an item: its dot is after all symbols, and it isn't of rule 0
abbrev pub CanReduce : Rule → Item → Type 0
CanReduce rule item = (item.dot ≡ length rule.right.items) × (0 < item.rule)

-- a rule with a point for the dot
abbrev pub dotted_rule : SymbolNames → Rule → ℕ → List ℕ
dotted_rule names rule dot = codes "  " ++ nonterminal_name names rule.left ++ codes ":"
    ++ flat_map (next_name names) (take dot rule.right.items) ++ codes " ."
    ++ flat_map (next_name names) (drop dot rule.right.items)

-- the lookaheads of item i of state q in brackets
abbrev pub SaysAhead : Machine → SymbolNames → ℕ → ℕ → List ℕ → Type 0
SaysAhead m names q i text = (ahead : List ℕ) × AreThose (λ t. LooksAhead m t q i) ahead
    × (text ≡ codes "  [" ++ terminals_text names ahead ++ codes " ]")

-- the line of item i of state q, if it is shown: its rule, and its lookaheads if a parser reduces by it
pub record SaysItem (m : Machine) (names : SymbolNames) (q i : ℕ) (text : List ℕ) : Type 0 where
  pub item : Item
  pub is : IsItem m.grammar.rules.items i item
  pub line : SaysIf (IsShown is.rule item) (Both (λ part. part ≡ dotted_rule names is.rule item.dot)
      (Both (SaysIf (CanReduce is.rule item) (SaysAhead m names q i)) (λ part. part ≡ line_end))) text

-- the line of the item with number i. A number of no item has no line
abbrev pub SaysItemAt : Machine → SymbolNames → (q i : ℕ) → List ℕ → Type 0
SaysItemAt m names q i text = SaysItem m names q i text
    ⊎ (((item : Item) → ¬ IsItem m.grammar.rules.items i item) × (text ≡ []))
