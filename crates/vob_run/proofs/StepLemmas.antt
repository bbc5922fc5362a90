-- What a call on one Vob, or its refusal, is as a step.
use Rattle.std.specs.Prelude.{Some, None, slice_get}
use Rattle.std.proofs.Common.{◌≡◌, ◌<◌, ◌≤◌, ◌≢◌, ℕ, List, Bool, true, false, ◌↔◌, length, get_or, set, ap, sym, refl, ◌∙◌, inl, inr}
use Rattle.std.proofs.lemmas.List.{map-set, set-get_or}
use Rattle.std.proofs.lemmas.Option.{slice_get_read, slice_get-map, slice_get-get_or, slice_get_past, get_or_from_slice_get}
use Rattle.vob_block.specs.Pointwise.{differ}
use Rattle.vob.specs.Vob.{BitVector}
use Rattle.vob_run.specs.Call.{Call}
use Rattle.vob_run.specs.Answer.{Answer, outcome, done, flag, skipped, refused}
use Rattle.vob_run.specs.Changes.{written}
use Rattle.vob_run.specs.Memory.{TakesMemory, MayWantMemory}
use Rattle.vob_run.specs.Outcomes.{on}
use Rattle.vob_run.specs.Step.{step}
use Rattle.vob_run.specs.Run.{lists, IsStep}

-- the Vob with this number, as it was lent
pub record IsLent (items : List BitVector) (which : ℕ) (old : BitVector) : Type 0 where
  pub there : slice_get items which ≡ Some old

pub lent : (items : List BitVector) (which : ℕ) (old : BitVector) → which < length items
    → old ≡ get_or items which old → IsLent items which old
lent items which old inside read =
    record { there = slice_get_read items (length items) which old refl inside read }

-- the Vob with a number is one and the same
pub lent_same : {items : List BitVector} {which : ℕ} {old other : BitVector}
    → IsLent items which old → IsLent items which other → other ≡ old
lent_same vob again = let first = vob.there in let second = again.there in cc

-- the list with this number
pub list_at : {items : List BitVector} {which : ℕ} {old : BitVector} → IsLent items which old
    → slice_get (lists items) which ≡ Some old.bits
list_at vob = rw (slice_get-map, vob.there)

-- there is no list with a number past the last
pub no_list : (items : List BitVector) (which : ℕ) → length items ≤ which
    → slice_get (lists items) which ≡ None
no_list items which past = rw (slice_get-map, slice_get_past items which past) refl

-- a Vob whose bits have become others leaves the lists with that one changed
pub lists-set : (items : List BitVector) (which : ℕ) (new : BitVector)
    → lists (set items which new) ≡ set (lists items) which new.bits
lists-set items which new = map-set (λ v. v.bits) items which new

-- a Vob whose bits stay leaves the lists as they were
pub lists-same : {items : List BitVector} {which : ℕ} {old : BitVector} → IsLent items which old
    → (new : BitVector) → new.bits ≡ old.bits → lists (set items which new) ≡ lists items
lists-same {items} {which} {old} vob new same =
    let kept = get_or_from_slice_get (lists items) which old.bits old.bits (list_at vob) in
    lists-set items which new ∙ ap (set (lists items) which) (same ∙ sym kept)
    ∙ set-get_or (lists items) which old.bits

-- a call that was made wants memory where its call takes some
pub MayWantMemory-done : (width : ℕ) (all after : List (List Bool)) (call : Call)
    → step width all call ≡ outcome done after → TakesMemory width all call
    → MayWantMemory width all call
MayWantMemory-done width all after call is takes =
    let answers : (step width all call).answer ≡ done = ap (λ o. o.answer) is in
    (takes, (λ e. cc), (λ e. cc), (λ e. cc))

-- a call that only tells something may be refused where it takes memory
pub refused_telling : (width : ℕ) (all : List (List Bool)) (call : Call) (told : Answer)
    → step width all call ≡ outcome told all
    → (told ≢ skipped) × (told ≢ refused 1) × (told ≢ refused 4)
    → TakesMemory width all call → IsStep width all call (refused 2) all
refused_telling width all call told is found takes =
    let answers : (step width all call).answer ≡ told = ap (λ o. o.answer) is in
    inr ((takes, rw answers found.0, rw answers found.1, rw answers found.2), refl, refl)

-- whether a bit changed, as a step tells it
flag-differ : (changed old value : Bool) → ((changed ≡ true) ↔ (Some old ≢ Some value))
    → changed ≡ differ old value
flag-differ true true true h = absurd (h.0 refl refl)
flag-differ true true false h = refl
flag-differ true false true h = refl
flag-differ true false false h = absurd (h.0 refl refl)
flag-differ false true true h = refl
flag-differ false true false h = h.1 (λ e. cc)
flag-differ false false true h = h.1 (λ e. cc)
flag-differ false false false h = refl

-- a bit of the list with this number is written, or there is none
module _ (width : ℕ) (items : List BitVector) (which index : ℕ) (value : Bool) (old : BitVector)
    (vob : IsLent items which old) (call : Call)
    (is : step width (lists items) call
    ≡ on (lists items) which (written (lists items) which index value)) where
  pub written_past : length old.bits ≤ index
      → IsStep width (lists items) call skipped (lists (set items which old))
  written_past past =
      inl (is ∙ rw (list_at vob, lists-same vob old refl, slice_get_past old.bits index past) refl)

  pub written_inside : index < length old.bits → (new : BitVector) (changed : Bool)
      → new.bits ≡ set old.bits index value
      → (changed ≡ true) ↔ (slice_get old.bits index ≢ Some value)
      → IsStep width (lists items) call (flag changed) (lists (set items which new))
  written_inside inside new changed bits told =
      let bit = slice_get-get_or old.bits index true inside in
      let differs = flag-differ changed (get_or old.bits index true) value (rw bit at told) in
      inl (is ∙ rw (list_at vob, lists-set items which new, bits, bit, differs) refl)
