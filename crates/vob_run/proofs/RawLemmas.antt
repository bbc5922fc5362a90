-- Blocks that are taken as a list, or refused, as a step.
use Rattle.std.specs.Cmp.Lexicographic.{bytes_decides}
use Rattle.std.proofs.Common.{◌≡◌, ◌<◌, ◌↔◌, ℕ, List, Bool, true, false, not, length, Result, Ok, Err, IsOk, IfOk, OnErr, ◌≢◌, sym, refl, ◌∙◌, inl, inr}
use Rattle.std.specs.Prelude.{◌==◌, ◌&&◌, if◌then◌else◌}
use Rattle.std.proofs.lemmas.Bool.{false_from_ne_true}
use Rattle.vob_block.specs.Packing.{need, packing, unpacking, IsCanonical}
use Rattle.vob_block.proofs.PackingLemmas.{packing-unpacking, canonical_from_packing}
use Rattle.vob.specs.Vob.{BitVector}
use Rattle.vob_run.specs.Call.{Call, FromRaw}
use Rattle.vob_run.specs.Answer.{Answer, made, skipped, refused}
use Rattle.vob_run.specs.Blocks.{taken, masked, same_blocks}
use Rattle.vob_run.specs.Memory.{TakesMemory, MayWantMemory}
use Rattle.vob_run.specs.Outcomes.{makes, tells}
use Rattle.vob_run.specs.Placed.{IsPlaced}
use Rattle.vob_run.specs.Step.{step}
use Rattle.vob_run.specs.Run.{lists, IsStep}
use Rattle.vob_run.proofs.MakeLemmas.{Makes, placed_step}

-- the test of the blocks is true exactly where they are canonical
same_blocks-canonical : (width : ℕ) → 0 < width → (len : ℕ) (blocks : List ℕ)
    → (same_blocks blocks (packing (unpacking len blocks width) width) ≡ true)
    ↔ IsCanonical len blocks width
same_blocks-canonical width wide len blocks =
    let test = bytes_decides blocks (packing (unpacking len blocks width) width) in (
      (λ e. canonical_from_packing width wide len blocks (test.0 e)),
      (λ canonical. test.1 (sym (packing-unpacking width wide len blocks canonical))),
    )

-- blocks that are as many as the bits need where they are to be masked
pub step-from_raw : (width : ℕ) (all : List (List Bool)) (len : ℕ) (mask : Bool) (blocks : List ℕ)
    → (mask && not (length blocks == need len width)) ≡ false
    → step width all (FromRaw len mask blocks) ≡ taken all width len (masked width len mask blocks)
step-from_raw width all len mask blocks enough = rw enough refl

-- what is made of the blocks is told, or 3 is
MayWantMemory-taken : (width : ℕ) (before : List BitVector) (call : Call) (len : ℕ) (blocks : List ℕ)
    → step width (lists before) call ≡ taken (lists before) width len blocks
    → TakesMemory width (lists before) call → MayWantMemory width (lists before) call
MayWantMemory-taken width before call len blocks is takes =
    let all = lists before in
    let bits = unpacking len blocks width in
    let told : (test : Bool) (wrong : Answer) → made (length all) ≢ wrong → refused 3 ≢ wrong
    → (if test then makes all bits else tells all (refused 3)).answer ≢ wrong =
    elim [ true ↦ λ wrong first second. first | false ↦ λ wrong first second. second ] in
    let test = same_blocks blocks (packing bits width) in
    let found : (wrong : Answer) → made (length all) ≢ wrong → refused 3 ≢ wrong
    → (step width all call).answer ≢ wrong = λ wrong first second. rw is (told test wrong first second) in (
      takes,
      found skipped (λ e. cc) (λ e. cc),
      found (refused 1) (λ e. cc) (λ e. cc),
      found (refused 4) (λ e. cc) (λ e. cc),
    )

-- a Vob of their bits, where they are canonical, or the refusal of other ones
module _ (width : ℕ) (wide : 0 < width) (before : List BitVector) (call : Call) (len : ℕ)
    (blocks : List ℕ)
    (is : step width (lists before) call ≡ taken (lists before) width len blocks)
    (takes : TakesMemory width (lists before) call) where
  pub taken_step : {E : Type 0} (result : Result BitVector E) (answer : Answer)
      (after : List BitVector) → IsOk result ↔ IsCanonical len blocks width
      → IfOk result (λ v. v.bits ≡ unpacking len blocks width)
      → IfOk result (λ v. IsPlaced before v answer after)
      → OnErr result ((answer ≡ refused 3) × (after ≡ before))
      → IsStep width (lists before) call answer (lists after)
  taken_step (Ok v) answer after canonical bits placed err =
      let same = (same_blocks-canonical width wide len blocks).1 (canonical.0 refl) in
      let made : Makes width before call (unpacking len blocks width) =
      record { is = is ∙ rw same refl; takes = takes } in
      placed_step made v answer after bits placed
  taken_step (Err e) answer after canonical bits placed err =
      let test = same_blocks blocks (packing (unpacking len blocks width) width) in
      let wrong : test ≡ true → ⊥ = λ t.
      let e = canonical.1 ((same_blocks-canonical width wide len blocks).0 t) in cc in
      let other : test ≡ false = false_from_ne_true test wrong in
      inl (is ∙ rw (other, err.0, err.1) refl)

  -- no copy of the blocks could be made
  pub no_copy_step : IsStep width (lists before) call (refused 2) (lists before)
  no_copy_step = inr (MayWantMemory-taken width before call len blocks is takes, refl, refl)
