-- Texts that are written one after another.
use Rattle.std.specs.Prelude.{◌≡◌, ◌⊎◌, ℕ, List, [], ◌∷◌, ◌++◌}

-- a text for each of some things, one after another
abbrev pub AreTexts : {X : Type 0} → (X → List ℕ → Type 0) → List X → List ℕ → Type 0
AreTexts Says [] text = text ≡ []
AreTexts Says (x ∷ xs) text =
    (first : List ℕ) × (rest : List ℕ) × (text ≡ first ++ rest) × Says x first × AreTexts Says xs rest

-- a text and another one after it
pub record Both (First Second : List ℕ → Type 0) (text : List ℕ) : Type 0 where
  pub first : List ℕ
  pub second : List ℕ
  pub joined : text ≡ first ++ second
  pub first_is : First first
  pub second_is : Second second

-- a text if something holds, and none otherwise
abbrev pub SaysIf : Type 0 → (List ℕ → Type 0) → List ℕ → Type 0
SaysIf Holds Says text = (Holds × Says text) ⊎ ((¬ Holds) × (text ≡ []))
