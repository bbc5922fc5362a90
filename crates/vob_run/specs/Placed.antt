-- What becomes of a Vob that is to stand after the others. No public contract cites this page.
use Rattle.std.specs.Prelude.{◌≡◌, ◌⊎◌, List, [], ◌∷◌, ◌++◌, length}
use Rattle.vob.specs.Vob.{BitVector}
use Rattle.vob_run.specs.Answer.{Answer, made, refused}

-- it stands there, and its number is told, or there is no room for it
abbrev pub IsPlaced : List BitVector → BitVector → Answer → List BitVector → Type 0
IsPlaced before vob answer after =
    ((answer ≡ made (length before)) × (after ≡ before ++ vob ∷ []))
    ⊎ ((answer ≡ refused 2) × (after ≡ before))
