-- Where the width of the blocks plays no part.
use Rattle.std.specs.Prelude.{◌≡◌, ◌≢◌, ℕ, List, [], ◌∷◌, Bool, All, ⊤}
use Rattle.vob_run.specs.Call.{Call, FromRaw, Storage, FromRecord}
use Rattle.vob_run.specs.Answer.{Answer, refused}
use Rattle.vob_run.specs.Step.{step}
use Rattle.vob_run.specs.Run.{IsRun}

-- a call speaks of blocks: it takes some, or gives some
abbrev pub SpeaksOfBlocks : Call → Type 0
SpeaksOfBlocks (FromRaw len mask blocks) = ⊤
SpeaksOfBlocks (Storage which) = ⊤
SpeaksOfBlocks (FromRecord len blocks) = ⊤
SpeaksOfBlocks _ = ⊥

-- a run in which no call speaks of blocks, and none is refused for want of memory
pub record IsOfListsAlone (width : ℕ) (before : List (List Bool)) (calls : List Call)
    (answers : List Answer) (after : List (List Bool)) : Type 0 where
  pub run : IsRun width before calls answers after
  pub no_blocks : All (λ call. SpeaksOfBlocks call → ⊥) calls
  pub none_refused : All (λ answer. answer ≢ refused 2) answers

-- the answers of calls that each take their step, one after another, and the lists after them
abbrev pub step_answers : ℕ → List (List Bool) → List Call → List Answer
step_answers width before [] = []
step_answers width before (call ∷ calls) =
    (step width before call).answer ∷ step_answers width (step width before call).lists calls

-- the lists after these calls
abbrev pub step_lists : ℕ → List (List Bool) → List Call → List (List Bool)
step_lists width before [] = before
step_lists width before (call ∷ calls) = step_lists width (step width before call).lists calls

-- such a run is its calls' steps one after another, at any width: no width occurs in it
abbrev pub RunIsItsSteps : Type 0
RunIsItsSteps =
    (width other : ℕ) (before : List (List Bool)) (calls : List Call) (answers : List Answer)
    (after : List (List Bool)) → IsOfListsAlone width before calls answers after
    → (answers ≡ step_answers other before calls) × (after ≡ step_lists other before calls)

-- such runs of the same calls on the same lists, at any two widths, have the same answers and leave
-- the same lists
abbrev pub SameAtEveryWidth : Type 0
SameAtEveryWidth =
    (width other : ℕ) (before : List (List Bool)) (calls : List Call)
    (answers others : List Answer) (after afterwards : List (List Bool))
    → IsOfListsAlone width before calls answers after
    → IsOfListsAlone other before calls others afterwards
    → (answers ≡ others) × (after ≡ afterwards)
