-- An `extend` by known items, for all of which there is room.
use Rattle.std.specs.Prelude.{Option, Some, None, Result, Ok, Err, IfOk, ⊤, ◌⊎◌}
use Rattle.std.specs.Iterator.{Drains, Yields}
use Rattle.std.proofs.Common.{◌≡◌, ℕ, ◌+◌, ◌-◌, ◌^◌, ◌≤◌, ◌++◌, Bool, List, length, length-take, take, refl, sym, ap, ◌∙◌, inl, inr, arith}
use Rattle.std.proofs.lemmas.List.{map-id}
use Rattle.std.proofs.lemmas.Iterator.{YieldsList}
use Rattle.std.proofs.lemmas.Iterator.Consumers.{YieldsList-so_far, YieldsList-turn, YieldsList-end}
use Rattle.vob.specs.declared.error.VobError.{VobError}
use Rattle.vob.specs.declared.error.VobError.TheVariants.{TooLong, Memory, PastEnd}
use Rattle.vob.specs.Extending.{IsExtended, RefusesHint, RefusesItem}
use Rattle.vob.specs.Vob.{BitVector}

-- what takes all items of an iterator that gives these one by one has taken these
pub all_taken : {S A : Type 0} (steps : S → Option A → S → Type 0) (it : S) (items : List A)
    → YieldsList steps (λ (x : A). x) it items
    → (added : List A) → Drains steps it added → added ≡ items
all_taken steps it items road added drained =
    let end = YieldsList-end road added drained.1.0 drained.1.1 None drained.0 refl drained.1.2 in
    sym (map-id added) ∙ end.0

-- an iterator that gives these items one by one
module _ {S : Type 0} (steps : S → Option Bool → S → Type 0) (it : S) (items : List Bool)
    (road : YieldsList steps (λ (x : Bool). x) it items) where
  -- and it took no more of them than there are
  pub none_more : (xs : List Bool) (rest : S) → Yields steps it xs rest → length xs ≤ length items
  none_more xs rest yields =
      let so_far = YieldsList-so_far road xs rest yields in
      let first : xs ≡ take (length xs) items = sym (map-id xs) ∙ so_far in
      let count = ap length first ∙ length-take (length xs) items in
      omega (arith, count)

  -- an `extend` by them within the room refuses none
  module _ (hint : ℕ) (before after : BitVector) (lower : hint ≤ length items)
      (room : length before.bits + length items ≤ before.capacity)
      (fits : length before.bits + length items ≤ 2 ^ 64 - 1) where
    not_refused : (refusal : VobError)
        → RefusesHint steps it before after hint refusal
        ⊎ RefusesItem steps it before after hint refusal
        → ⊥
    not_refused TooLong (inl h) = omega (arith, h.1, lower, fits)
    not_refused Memory (inl h) = omega (arith, h.1, lower, room)
    not_refused TooLong (inr h) =
        let turn = YieldsList-turn road h.0 h.3.0 h.3.1 (Some h.1) h.2 h.1 refl h.3.2 in
        omega (arith, turn.0, h.5, fits)
    not_refused Memory (inr h) =
        let turn = YieldsList-turn road h.0 h.3.0 h.3.1 (Some h.1) h.2 h.1 refl h.3.2 in
        omega (arith, turn.0, h.5, room)
    not_refused PastEnd (inl h) = h.1
    not_refused PastEnd (inr h) = h.5

    pub all_added : (result : Result ⊤ VobError) → IsExtended steps it hint before after result
        → (result ≡ Ok tt) × (after.bits ≡ before.bits ++ items)
    all_added (Ok done) did =
        (refl, did.ok.2 ∙ ap (λ l. before.bits ++ l) (all_taken _ it items road did.ok.0 did.ok.1))
    all_added (Err refusal) did = absurd (not_refused refusal did.err)

-- a constructor's result, whose iterator is one that another call gave
pub all_taken_if : {S E : Type 0} (steps : S → Option Bool → S → Type 0) (Gives : S → Type 0)
    (items : List Bool) → ((it : S) → Gives it → YieldsList steps (λ (x : Bool). x) it items)
    → (result : Result BitVector E)
    → IfOk result (λ v. (it : S) × Gives it × Drains steps it v.bits)
    → IfOk result (λ v. v.bits ≡ items)
all_taken_if steps Gives items road (Ok v) made =
    all_taken steps made.0 items (road made.0 made.1) v.bits made.2
all_taken_if steps Gives items road (Err e) made = tt
