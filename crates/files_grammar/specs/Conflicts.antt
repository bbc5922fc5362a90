-- The conflicts of a grammar file, as bison finds them.
use Rattle.std.specs.Prelude.{◌≡◌, ◌↔◌, ◌⊎◌, ℕ, ◌<◌, Bool, true, false, if◌then◌else◌, nat_eq, List, [], ◌∷◌, slice_get, slice_index_or, None, Option, Some}
use Rattle.vob_lr.specs.Conflicts.{action_count}
use Rattle.vob_lr.specs.Entered.{IsEntered}
use Rattle.vob_lr.specs.Lookaheads.{HasMove, Machine, Reduces}
use Rattle.vob_lr.specs.Tables.{TableView, chosen_at}
use Rattle.vob_lr.specs.Those.{AreInOrder, AreThose}
use Rattle.vob_lr.specs.declared.grammar.Symbol.TheVariants.{Terminal}
use Rattle.vob_lr.specs.declared.precedence.Associativity.{Associativity}
use Rattle.vob_lr.specs.declared.precedence.Associativity.TheVariants.{Left, Right, Neither as NonAssociative, Unstated}
use Rattle.vob_lr.specs.declared.precedence.Precedence.{Precedence}
use Rattle.vob_lr.specs.declared.table.Cell.{Cell}
use Rattle.files_grammar.specs.GrammarFiles.{precedence_of, rule_precedence_of}
use Rattle.files_grammar.specs.declared.conflicts.Decided.{Decided}
use Rattle.files_grammar.specs.declared.conflicts.Decided.TheVariants.{One, Both as BothStay, Neither}
use Rattle.files_grammar.specs.declared.file.GrammarFile.{GrammarFile}

-- what is left to a parser in a state if a terminal is ahead: a shift, an error that precedence asks for, and rules
pub record Choice : Type 0 where
  pub state : ℕ
  pub terminal : ℕ
  pub shift : Option ℕ
  pub is_error : Bool
  pub rules : List ℕ

-- what the associativity of a terminal leaves of a shift and a rule that bind alike
abbrev pub decision_by : Associativity → Decided
decision_by Left = One
decision_by Right = One
decision_by NonAssociative = Neither
decision_by Unstated = BothStay

-- what precedence leaves of a rule and a shift: both if one of them has none, or else one if their levels differ
abbrev pub decision : (rule terminal : Option Precedence) → Decided
decision None terminal = BothStay
decision (Some rule) None = BothStay
decision (Some rule) (Some terminal) =
    if nat_eq rule.level terminal.level then decision_by terminal.associativity else One

-- the same of terminal t and rule r, by the precedences of a file
abbrev pub decision_in : GrammarFile → (t r : ℕ) → Decided
decision_in file t r = decision (rule_precedence_of file r) (precedence_of file t)

-- by the moves alone, a parser could shift terminal t in state q
abbrev pub CanShift : Machine → (q t : ℕ) → Type 0
CanShift m q t = (p : ℕ) × HasMove m.moves q (Terminal t) p

-- precedence makes a cell an error: a parser could shift the terminal, and the cell has no action
abbrev pub IsError : TableView → (q t : ℕ) → Type 0
IsError table q t = (chosen_at table.cells q t ≡ None) × CanShift table.machine q t

-- bison compares each rule with the shift until a rule removes the shift: such a rule goes itself, and all rules
-- after it stay, as no shift is left. A rule before it stays if precedence says nothing of it
abbrev pub left_after : Decided → ℕ → (others left : List ℕ) → List ℕ
left_after Neither r others left = others
left_after BothStay r others left = r ∷ left
left_after One r others left = left

-- the rules that bison leaves if precedence makes a cell an error
abbrev pub left_by_error : (ℕ → Decided) → List ℕ → List ℕ
left_by_error which [] = []
left_by_error which (r ∷ rules) = left_after (which r) r rules (left_by_error which rules)

-- the rules that bison leaves in a cell: those of the cell, unless precedence makes it an error
abbrev pub AreLeft : GrammarFile → TableView → (q t : ℕ) → Cell → (is_error : Bool) → List ℕ → Type 0
AreLeft file table q t cell false rules = rules ≡ cell.reduces.items
AreLeft file table q t cell true rules = (all : List ℕ) × AreThose (Reduces table.machine q t) all
    × (rules ≡ left_by_error (decision_in file t) all)

-- what bison leaves of a cell
pub record IsChoice (file : GrammarFile) (table : TableView) (choice : Choice) : Type 0 where
  pub cell : Cell
  pub is : slice_get (slice_index_or table.cells choice.state []) choice.terminal ≡ Some cell
  pub shift : choice.shift ≡ cell.shift
  pub error : (choice.is_error ≡ true) ↔ IsError table choice.state choice.terminal
  pub rules : AreLeft file table choice.state choice.terminal cell choice.is_error choice.rules

-- a conflict: a parser may enter the state, and a shift and a rule are left, or more rules than one
pub record IsConflict (file : GrammarFile) (table : TableView) (choice : Choice) : Type 0 where
  pub entered : IsEntered table choice.state
  pub choice_is : IsChoice file table choice
  pub more : 1 < action_count choice.shift choice.rules

-- the lower state comes first, and of a state the lower terminal
abbrev pub ComesBefore : Choice → Choice → Type 0
ComesBefore one other =
    (one.state < other.state) ⊎ ((one.state ≡ other.state) × (one.terminal < other.terminal))

-- all conflicts, in that order
abbrev pub AreConflicts : GrammarFile → TableView → List Choice → Type 0
AreConflicts file table choices = AreInOrder ComesBefore (IsConflict file table) choices
