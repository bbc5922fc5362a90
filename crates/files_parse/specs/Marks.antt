-- By which states a parser finds that it reduces without end. No public clause cites this page.
use Rattle.std.specs.Prelude.{◌≡◌, ℕ, ◌≤◌, List, ◌∷◌, ◌++◌, Option, None, Some, length, ⊤}
use Rattle.vob_lr.specs.Tables.{TableView}
use Rattle.files_parse.specs.Stacks.{Leads}
use Rattle.files_parse.specs.declared.parser.Mark.{Mark}

-- the two newest states, and how many are below them
abbrev pub HasMark : List ℕ → Option Mark → Type 0
HasMark xs None = ⊤
HasMark xs (Some mark) = (rest : List ℕ) × (xs ≡ mark.state ∷ mark.below ∷ rest) × (length rest ≡ mark.depth)

-- of two marks the older one is kept, as what is below it is still there
abbrev pub MayKeep : (mark now result : Option Mark) → Type 0
MayKeep (Some mark) (Some now) result = (result ≡ Some mark) × (mark.depth ≤ now.depth)
MayKeep mark now result = ⊥

-- both are of the same states, and what is below the older one is still there
abbrev pub Repeats : (mark now : Option Mark) → Type 0
Repeats (Some mark) (Some now) =
    (now.state ≡ mark.state) × (now.below ≡ mark.below) × (mark.depth ≤ now.depth)
Repeats mark now = ⊥

-- reductions led from the first states to two marked ones, and from these on, whatever is below them
pub record IsSince (table : TableView) (t : ℕ) (first xs : List ℕ) (mark : Mark) : Type 0 where
  pub n : ℕ
  pub rest : List ℕ
  pub before : Leads table t first n (mark.state ∷ mark.below ∷ rest)
  pub depth : length rest ≡ mark.depth
  pub k : ℕ
  pub above : List ℕ
  pub cut : xs ≡ above ++ mark.below ∷ rest
  pub leads : (other : List ℕ) → Leads table t (mark.state ∷ mark.below ∷ other) k (above ++ mark.below ∷ other)

-- reductions led from the first states to the others, since some were marked if any were
abbrev pub IsGoingOn : TableView → (t : ℕ) → (first xs : List ℕ) → Option Mark → Type 0
IsGoingOn table t first xs None = (n : ℕ) × Leads table t first n xs
IsGoingOn table t first xs (Some mark) = IsSince table t first xs mark
