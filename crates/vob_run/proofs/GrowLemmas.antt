-- Calls on one Vob that are refused past the greatest length, or for want of memory.
use Rattle.std.proofs.Common.{◌≡◌, ◌≢◌, ◌^◌, ◌+◌, ◌-◌, ◌<◌, [], ◌∷◌, ◌++◌, ◌↔◌, ℕ, List, Bool}
use Rattle.std.proofs.Common.{Result, Ok, Err, OnOk, OnErr, IfErr, length, set, refl, ◌∙◌, inl, inr}
use Rattle.std.proofs.Common.{arith}
use Rattle.std.proofs.lemmas.Bool.{lt-ltb, le-ltb, cases_lt}
use Rattle.vob_block.specs.Packing.{need}
use Rattle.vob.specs.Refusal.{refusal_number}
use Rattle.vob.specs.Vob.{BitVector}
use Rattle.vob.specs.declared.error.VobError.{VobError}
use Rattle.vob.specs.declared.error.VobError.TheVariants.{TooLong, Memory, PastEnd}
use Rattle.vob_run.specs.Call.{Call, Push}
use Rattle.vob_run.specs.Answer.{Answer, outcome, done, refused}
use Rattle.vob_run.specs.Memory.{Grows, TakesMemory}
use Rattle.vob_run.specs.Outcomes.{on, unless_long}
use Rattle.vob_run.specs.Changes.{extended}
use Rattle.vob_run.specs.Step.{step}
use Rattle.vob_run.specs.Run.{lists, IsStep}
use Rattle.vob_run.proofs.StepLemmas.{IsLent, list_at, lists-set, lists-same, MayWantMemory-done}

-- a Vob came to these bits and `done` was answered, or it was refused and has those that it had
pub record IsAnswered (old : BitVector) (bits : List Bool) (result : Result Unit VobError)
    (answer : Answer) (new : BitVector) : Type 0 where
  pub told : OnOk result (answer ≡ done)
  pub refusal : IfErr result (λ reason. answer ≡ refused (refusal_number reason))
  pub ok : OnOk result (new.bits ≡ bits)
  pub err : OnErr result (new.bits ≡ old.bits)
  pub past_end : result ≢ Err PastEnd

-- one bit more
pub step-push : (width : ℕ) {items : List BitVector} {which : ℕ} {old : BitVector}
    → IsLent items which old → (value : Bool) → step width (lists items) (Push which value)
    ≡ unless_long (lists items) (length old.bits + 1)
    (outcome done (set (lists items) which (old.bits ++ value ∷ [])))
step-push width {items} {which} {old} vob value =
    let n = length old.bits in
    let most = 2 ^ 64 - 1 in
    elim (cases_lt n most) [
      | inl less ↦
          rw (list_at vob, lt-ltb n most less, le-ltb most (n + 1) (omega (arith, less))) refl
      | inr past ↦
          rw (list_at vob, le-ltb n most past, lt-ltb most (n + 1) (omega (arith, past))) refl
    ]

module _ (width : ℕ) (items : List BitVector) (which : ℕ) (old : BitVector)
    (vob : IsLent items which old) (call : Call) where
  -- a call that asks for a length
  pub asked_step : (asked : ℕ) {bits : List Bool} {result : Result Unit VobError}
      {answer : Answer} {new : BitVector} → IsAnswered old bits result answer new
      → step width (lists items) call
      ≡ unless_long (lists items) asked (outcome done (set (lists items) which bits))
      → (result ≡ Err TooLong) ↔ (2 ^ 64 - 1 < asked)
      → (result ≡ Err Memory → TakesMemory width (lists items) call)
      → IsStep width (lists items) call answer (lists (set items which new))
  asked_step asked {result = Ok u} {new = new} answered is long takes =
      let not : 2 ^ 64 - 1 < asked → ⊥ = λ e. let wrong = long.1 e in cc in
      let short = le-ltb (2 ^ 64 - 1) asked (omega (arith, not)) in
      inl (is ∙ rw (short, answered.told, lists-set items which new, answered.ok) refl)
  asked_step asked {result = Err TooLong} {new = new} answered is long takes =
      let past = lt-ltb (2 ^ 64 - 1) asked (long.0 refl) in
      inl (is ∙ rw (past, answered.refusal, lists-same vob new answered.err) refl)
  asked_step asked {bits} {result = Err Memory} {new = new} answered is long takes =
      let not : 2 ^ 64 - 1 < asked → ⊥ = λ e. let wrong = long.1 e in cc in
      let short = le-ltb (2 ^ 64 - 1) asked (omega (arith, not)) in
      let after = set (lists items) which bits in
      let made : step width (lists items) call ≡ outcome done after = is ∙ rw short refl in
      let wants = MayWantMemory-done width (lists items) after call made (takes refl) in
      inr (wants, answered.refusal, lists-same vob new answered.err)
  asked_step asked {result = Err PastEnd} answered is long takes = absurd (answered.past_end refl)

  -- a call that puts bits behind those of the Vob
  pub extended_step : (more : List Bool) {result : Result Unit VobError} {answer : Answer}
      {new : BitVector} → IsAnswered old (old.bits ++ more) result answer new
      → step width (lists items) call ≡ on (lists items) which (extended (lists items) which more)
      → (result ≡ Err TooLong) ↔ (2 ^ 64 - 1 < length old.bits + length more)
      → (Grows width (lists items) which (λ bits. length bits + length more)
      → TakesMemory width (lists items) call)
      → (result ≡ Err Memory
      → need (length old.bits) width < need (length old.bits + length more) width)
      → IsStep width (lists items) call answer (lists (set items which new))
  extended_step more answered is long takes grows =
      asked_step (length old.bits + length more) answered (is ∙ rw (list_at vob) refl) long
      (λ e. takes (rw (list_at vob) (grows e)))
