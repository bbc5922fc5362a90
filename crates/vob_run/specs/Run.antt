-- What a list of calls means: a run, one answer a call.
use Rattle.std.specs.Prelude.{◌≡◌, ◌⊎◌, ℕ, List, [], ◌∷◌, map, Bool}
use Rattle.vob.specs.Vob.{BitVector}
use Rattle.vob_run.specs.Call.{Call}
use Rattle.vob_run.specs.Answer.{Answer, refused, outcome}
use Rattle.vob_run.specs.Memory.{MayWantMemory}
use Rattle.vob_run.specs.Step.{step}

-- the bits of each numbered Vob
abbrev pub lists : List BitVector → List (List Bool)
lists vobs = map (λ v. v.bits) vobs

module _ (width : ℕ) where
  -- a call takes its step, or it is refused for want of memory and all lists are as they were
  abbrev pub IsStep : List (List Bool) → Call → Answer → List (List Bool) → Type 0
  IsStep before call answer after =
      (step width before call ≡ outcome answer after)
      ⊎ (MayWantMemory width before call × (answer ≡ refused 2) × (after ≡ before))

  -- these calls lead from the lists before to the lists after, with these answers
  abbrev pub IsRun : List (List Bool) → List Call → List Answer → List (List Bool) → Type 0
  IsRun before [] [] after = after ≡ before
  IsRun before (call ∷ calls) (answer ∷ answers) after =
      (between : List (List Bool)) × IsStep before call answer between
      × IsRun between calls answers after
  IsRun before [] (answer ∷ answers) after = ⊥
  IsRun before (call ∷ calls) [] after = ⊥
