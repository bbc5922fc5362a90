-- What a Vob that was made, and put behind the others, is as a step.
use Rattle.std.proofs.Common.{◌≡◌, ◌≢◌, ◌<◌, ◌≤◌, ℕ, List, [], ◌∷◌, ◌++◌, Bool, length, take, drop}
use Rattle.std.proofs.Common.{set, Result, Ok, Err, IfOk, IfErr, OnErr, ap, refl, ◌∙◌, inl, inr}
use Rattle.std.proofs.lemmas.Bool.{lt-ltb, le-ltb}
use Rattle.std.proofs.lemmas.List.{map_push, length-map}
use Rattle.vob.specs.Refusal.{refusal_number}
use Rattle.vob.specs.declared.error.VobError.{VobError}
use Rattle.vob.specs.declared.error.VobError.TheVariants.{TooLong, Memory, PastEnd}
use Rattle.vob.specs.Vob.{BitVector}
use Rattle.vob_run.specs.Call.{Call, SplitOff}
use Rattle.vob_run.specs.Answer.{Answer, outcome, made, refused}
use Rattle.vob_run.specs.Memory.{TakesMemory, MayWantMemory}
use Rattle.vob_run.specs.Outcomes.{makes, divides}
use Rattle.vob_run.specs.Placed.{IsPlaced}
use Rattle.vob_run.specs.Step.{step}
use Rattle.vob_run.specs.Run.{lists, IsStep}
use Rattle.vob_run.proofs.StepLemmas.{IsLent, list_at, lists-set, lists-same}

-- a call that makes a list of these bits
pub record Makes (width : ℕ) (before : List BitVector) (call : Call) (bits : List Bool)
    : Type 0 where
  pub is : step width (lists before) call ≡ makes (lists before) bits
  pub takes : TakesMemory width (lists before) call

MayWantMemory-made : (width : ℕ) (before : List BitVector) (call : Call) (bits : List Bool)
    → Makes width before call bits → MayWantMemory width (lists before) call
MayWantMemory-made width before call bits makes =
    let answers : (step width (lists before) call).answer ≡ made (length (lists before)) =
    ap (λ o. o.answer) makes.is in
    (makes.takes, (λ e. cc), (λ e. cc), (λ e. cc))

-- a Vob with these bits, put behind the others where there is room, or a refusal
module _ {width : ℕ} {before : List BitVector} {call : Call} {bits : List Bool}
    (makes : Makes width before call bits) where
  pub placed_step : (vob : BitVector) (answer : Answer) (after : List BitVector)
      → vob.bits ≡ bits → IsPlaced before vob answer after
      → IsStep width (lists before) call answer (lists after)
  placed_step vob answer after same (inl put) =
      inl (makes.is ∙ rw (put.0, put.1, map_push, length-map, same) refl)
  placed_step vob answer after same (inr full) =
      inr (MayWantMemory-made width before call bits makes, full.0, ap lists full.1)

  pub made_step : {E : Type 0} (result : Result BitVector E) (answer : Answer)
      (after : List BitVector) → IfOk result (λ v. v.bits ≡ bits)
      → IfOk result (λ v. IsPlaced before v answer after)
      → OnErr result ((answer ≡ refused 2) × (after ≡ before))
      → IsStep width (lists before) call answer (lists after)
  made_step (Ok v) answer after same placed err = placed_step v answer after same placed
  made_step (Err e) answer after same placed err =
      inr (MayWantMemory-made width before call bits makes, err.0, ap lists err.1)

  pub added_step : (result : Result BitVector VobError) (answer : Answer)
      (after : List BitVector) → (result ≡ Err TooLong → ⊥) × (result ≡ Err PastEnd → ⊥)
      → IfOk result (λ v. v.bits ≡ bits)
      → IfOk result (λ v. IsPlaced before v answer after)
      → IfErr result (λ refusal. (answer ≡ refused (refusal_number refusal)) × (after ≡ before))
      → IsStep width (lists before) call answer (lists after)
  added_step (Ok v) answer after fits same placed err = placed_step v answer after same placed
  added_step (Err TooLong) answer after fits same placed err = absurd (fits.0 refl)
  added_step (Err Memory) answer after fits same placed err =
      inr (MayWantMemory-made width before call bits makes, err.0, ap lists err.1)
  added_step (Err PastEnd) answer after fits same placed err = absurd (fits.1 refl)

-- a Vob of which a part is put behind the others, or a refusal
module _ (width : ℕ) {before : List BitVector} {which : ℕ} {old : BitVector}
    (vob : IsLent before which old) (call : Call) (kept given : List Bool)
    (is : step width (lists before) call ≡ divides (lists before) which kept given)
    (takes : TakesMemory width (lists before) call) where
  pub divided_step : (new part : BitVector) → new.bits ≡ kept → part.bits ≡ given
      → IsStep width (lists before) call (made (length before))
      (lists (set before which new ++ part ∷ []))
  divided_step new part left taken =
      inl (is ∙ rw (map_push, lists-set before which new, left, taken, length-map) refl)

  pub undivided_step : (new : BitVector) → new.bits ≡ old.bits
      → IsStep width (lists before) call (refused 2) (lists (set before which new))
  undivided_step new same =
      let answers : (step width (lists before) call).answer ≡ made (length (lists before)) =
      ap (λ o. o.answer) is in
      inr ((takes, (λ e. cc), (λ e. cc), (λ e. cc)), refl, lists-same vob new same)

-- a refusal for nothing else is one for memory
pub memory_alone : (refusal : VobError) → refusal ≢ TooLong → refusal ≢ PastEnd → refusal ≡ Memory
memory_alone TooLong short near = absurd (short refl)
memory_alone Memory short near = refl
memory_alone PastEnd short near = absurd (near refl)

-- a split
module _ (width : ℕ) (before : List BitVector) (which index : ℕ) (old : BitVector)
    (vob : IsLent before which old) where
  -- an index past the end is refused first
  pub past_end_step : length old.bits < index
      → step width (lists before) (SplitOff which index) ≡ outcome (refused 4) (lists before)
  past_end_step past = rw (list_at vob, lt-ltb (length old.bits) index past) refl

  pub step-split : index ≤ length old.bits → step width (lists before) (SplitOff which index)
      ≡ divides (lists before) which (take index old.bits) (drop index old.bits)
  step-split inside = rw (list_at vob, le-ltb (length old.bits) index inside) refl
