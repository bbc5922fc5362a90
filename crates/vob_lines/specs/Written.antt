-- What of a text was written, and what of it is still to be written.
use Rattle.std.specs.Prelude.{◌≡◌, ℕ, List, ◌++◌, Option, Result, MatchResult}
use Rattle.std.specs.Io.KnownBytes.{Appends}

-- known bytes grew by a text, but for this rest of it
pub record AppendsBut (old new : Option (List ℕ)) (text rest : List ℕ) : Type 0 where
  pub part : List ℕ
  pub appended : Appends old new part
  pub cut : text ≡ part ++ rest

-- known bytes grew by a first part of a text
abbrev pub AppendsPart : Option (List ℕ) → Option (List ℕ) → List ℕ → Type 0
AppendsPart old new text = (rest : List ℕ) × AppendsBut old new text rest

-- a text was written but for this rest, which waits; where that failed, a first part of it was
abbrev pub Puts : {T E : Type 0} → Result T E → Option (List ℕ) → Option (List ℕ) → List ℕ → List ℕ →
    Type 0
Puts result old new text rest =
    MatchResult result (λ _. AppendsBut old new text rest) (λ _. AppendsPart old new text)
