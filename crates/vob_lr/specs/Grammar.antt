-- What the nonterminals of a grammar can become, and what can begin it.
use Rattle.std.specs.Prelude.{◌≡◌, ◌↔◌, ℕ, Bool, true, List, [], ◌∷◌, ◌++◌, length, Contains}
use Rattle.vob_block.specs.Packing.{item}
use Rattle.vob.specs.Vobs.{AreOfLength}
use Rattle.vob_flow.specs.Draws.{IsIn}
use Rattle.vob_lr.specs.declared.grammar.Grammar.{Grammar}
use Rattle.vob_lr.specs.declared.grammar.Rule.{Rule}
use Rattle.vob_lr.specs.declared.grammar.Symbol.{Symbol}
use Rattle.vob_lr.specs.declared.grammar.Symbol.TheVariants.{Terminal, Nonterminal}

-- one of the rules has nonterminal a on its left side, and these symbols on its right side
abbrev pub HasRule : List Rule → ℕ → List Symbol → Type 0
HasRule rules a right =
    (rule : Rule) × Contains rules rule × (rule.left ≡ a) × (rule.right.items ≡ right)

-- symbols that can become empty: there are none, or the first is a nonterminal with a rule whose
-- right side can become empty, and the rest can too
pub data BecomesEmpty (rules : List Rule) : List Symbol → Type 0 where
  nothing : BecomesEmpty rules []
  by_rule : {a : ℕ} {right rest : List Symbol} → HasRule rules a right →
      BecomesEmpty rules right → BecomesEmpty rules rest → BecomesEmpty rules (Nonterminal a ∷ rest)

-- terminal t can begin what symbols become: it is the first of them, or can begin a right side of
-- the first, or what stands behind the first where that can become empty
pub data BeginsWith (rules : List Rule) (t : ℕ) : List Symbol → Type 0 where
  here : {rest : List Symbol} → BeginsWith rules t (Terminal t ∷ rest)
  by_rule : {a : ℕ} {right rest : List Symbol} → HasRule rules a right →
      BeginsWith rules t right → BeginsWith rules t (Nonterminal a ∷ rest)
  behind : {x : Symbol} {rest : List Symbol} → BecomesEmpty rules (x ∷ []) →
      BeginsWith rules t rest → BeginsWith rules t (x ∷ rest)

-- terminal t can follow nonterminal a: on a right side it can begin what stands behind a, or that
-- can become empty and t can follow the left side
pub data Follows (rules : List Rule) (t : ℕ) : ℕ → Type 0 where
  in_rule : {a b : ℕ} (before after : List Symbol) →
      HasRule rules b (before ++ Nonterminal a ∷ after) → BeginsWith rules t after →
      Follows rules t a
  at_end : {a b : ℕ} (before after : List Symbol) →
      HasRule rules b (before ++ Nonterminal a ∷ after) → BecomesEmpty rules after →
      Follows rules t b → Follows rules t a

-- a bit for each nonterminal: true exactly if it can become empty
pub record AreNullable (grammar : Grammar) (nullable : List Bool) : Type 0 where
  pub count : length nullable ≡ grammar.nonterminals
  pub each : (a : ℕ) →
      (item nullable a ≡ true) ↔ BecomesEmpty grammar.rules.items (Nonterminal a ∷ [])

-- a row for each nonterminal, with a bit for each terminal: true exactly where Has holds
pub record AreRows (grammar : Grammar) (Has : ℕ → ℕ → Type 0) (rows : List (List Bool))
    : Type 0 where
  pub count : length rows ≡ grammar.nonterminals
  pub long : AreOfLength grammar.terminals rows
  pub each : (a t : ℕ) → IsIn rows a t ↔ Has a t

-- the terminals that can begin what each nonterminal becomes
abbrev pub AreFirst : Grammar → List (List Bool) → Type 0
AreFirst grammar rows =
    AreRows grammar (λ a t. BeginsWith grammar.rules.items t (Nonterminal a ∷ [])) rows

-- those that can follow each
abbrev pub AreFollow : Grammar → List (List Bool) → Type 0
AreFollow grammar rows = AreRows grammar (λ a t. Follows grammar.rules.items t a) rows
