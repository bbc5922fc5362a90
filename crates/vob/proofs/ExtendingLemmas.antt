-- Why an `extend` is refused, by what its calls say.
use Rattle.std.specs.Iterator.{Count, Yields, YieldsThen}
use Rattle.std.specs.Iterator.SizeHint.{IsWithinCount}
use Rattle.std.proofs.iter.Next.{Yields-more}
use Rattle.std.proofs.lemmas.List.{length_push}
use Rattle.std.specs.Prelude.{Ok, Err, Result, ⊤, Option, Some, Bool, List, ◌∷◌, IsOk, is_ok, OnOk, IfErr, []}
use Rattle.std.proofs.Common.{◌≡◌, ℕ, ◌+◌, ◌-◌, ◌^◌, ◌<◌, ◌≤◌, ◌++◌, inr, length, zero, suc, refl, sym, ap, ◌∙◌, subst, arith, append_assoc}
use Rattle.std.proofs.lemmas.Bool.{false≢true}
use Rattle.vob_block.specs.Packing.{need}
use Rattle.vob.specs.declared.error.VobError.{VobError}
use Rattle.vob.specs.declared.error.VobError.TheVariants.{TooLong, Memory, PastEnd}
use Rattle.vob.specs.Refusal.{RefusesPastEnd}
use Rattle.vob.specs.Vob.{BitVector, IsTooLong, NeedsMemory}
use Rattle.vob.specs.Extending.{AddsAll, GivesMoreThan, IsExtended, MayRefuse, RefusesItem, RefusesItems, RefusesMore}

-- the three answers of a call for n bits more
module _ (w : ℕ) (vob : BitVector) (n : ℕ) where
  pub RefusesMore-long : IsTooLong vob n → RefusesMore w vob n (Err TooLong)
  RefusesMore-long far = record {
    too_long = ((λ _. far), (λ _. refl));
    memory = λ e. cc;
    past_end = λ e. cc;
  }

  pub RefusesMore-memory : (IsTooLong vob n → ⊥) → NeedsMemory w vob n
      → RefusesMore w vob n (Err Memory)
  RefusesMore-memory near needs = record {
    too_long = ((λ e. cc), (λ far. absurd (near far)));
    memory = λ _. needs;
    past_end = λ e. cc;
  }

  pub RefusesMore-nothing : (IsTooLong vob n → ⊥) → RefusesMore w vob n (Ok tt)
  RefusesMore-nothing near = record {
    too_long = ((λ e. cc), (λ far. absurd (near far)));
    memory = λ e. cc;
    past_end = λ e. cc;
  }

-- the three answers of a call at an index
module _ {A : Type 0} (bits : List Bool) (at : ℕ) where
  pub RefusesPastEnd-far : length bits < at → RefusesPastEnd {A = A} bits at (Err PastEnd)
  RefusesPastEnd-far far = record { past_end = ((λ _. far), (λ _. refl)); too_long = λ e. cc }

  pub RefusesPastEnd-memory : (length bits < at → ⊥) → RefusesPastEnd {A = A} bits at (Err Memory)
  RefusesPastEnd-memory near = record {
    past_end = ((λ e. cc), (λ far. absurd (near far)));
    too_long = λ e. cc;
  }

  pub RefusesPastEnd-nothing : (value : A) → (length bits < at → ⊥)
      → RefusesPastEnd bits at (Ok value)
  RefusesPastEnd-nothing value near = record {
    past_end = ((λ e. cc), (λ far. absurd (near far)));
    too_long = λ e. cc;
  }

-- memory isn't wanted for no bits
pub NeedsMemory-some : (w : ℕ) (vob : BitVector) (n : ℕ) → NeedsMemory w vob n → n ≡ 0 → ⊥
NeedsMemory-some w vob n needs none =
    let same : length vob.bits + n ≡ length vob.bits = omega (arith, none) in
    omega (arith, needs.1, ap (λ k. need k w) same)

-- what is refused was asked for some bits, where a call for none isn't refused
some_asked : (n : ℕ) (result : Result ⊤ VobError) (r : VobError) → result ≡ Err r
    → (n ≡ 0 → IsOk result) → 0 < n
some_asked zero result r e nothing = absurd (false≢true (sym (ap is_ok e) ∙ nothing refl))
some_asked (suc n) result r e nothing = omega arith

module _ (before : BitVector) (hint : ℕ) (result : Result ⊤ VobError) where
  -- a reserve that is refused was asked for some bits, and may be refused them
  pub hint_refused : (w : ℕ) (r : VobError) → result ≡ Err r → (hint ≡ 0 → IsOk result)
      → RefusesMore w before hint result → (0 < hint) × MayRefuse r before hint
  hint_refused w TooLong e nothing h = (some_asked hint result TooLong e nothing, h.too_long.0 e)
  hint_refused w Memory e nothing h = (some_asked hint result Memory e nothing, (h.memory e).0)
  hint_refused w PastEnd e nothing h = absurd (h.past_end e)

module _ {S : Type 0} (steps : S → Option Bool → S → Type 0) (it : S) (hint : ℕ)
    (before reserved after : BitVector) (bits : reserved.bits ≡ before.bits)
    (grown : before.capacity ≤ reserved.capacity)
    (room : length before.bits + hint ≤ reserved.capacity)
    (fits : length before.bits + hint ≤ 2 ^ 64 - 1) where
  -- where an item is refused behind a reserve, those before it are no fewer than the hint
  after_reserve : (r : VobError) → RefusesItem steps it reserved after 0 r
      → RefusesItem steps it before after hint r
  after_reserve TooLong h = (
    h.0,
    h.1,
    h.2,
    h.3,
    omega (arith, h.5, ap length bits, fits),
    omega (arith, h.5, ap length bits),
    h.6 ∙ ap (λ b. b ++ h.0) bits,
  )
  after_reserve Memory h = (
    h.0,
    h.1,
    h.2,
    h.3,
    omega (arith, h.5, ap length bits, room),
    omega (arith, h.5, ap length bits, grown),
    h.6 ∙ ap (λ b. b ++ h.0) bits,
  )
  after_reserve PastEnd h = absurd h.5

  -- what pushes behind a reserve leave
  pub extended : (result : Result ⊤ VobError) → OnOk result (AddsAll steps it reserved after)
      → IfErr result (RefusesItem steps it reserved after 0)
      → IsExtended steps it hint before after result
  extended (Ok u) ok err = record {
    ok = (ok.0, ok.1, ok.2 ∙ ap (λ b. b ++ ok.0) bits);
    err = tt;
    too_long = λ far. absurd (omega (arith, far, fits));
  }
  extended (Err r) ok err = record {
    ok = tt;
    err = inr (after_reserve r err);
    too_long = λ far. absurd (omega (arith, far, fits));
  }

-- more calls after some give their items after those
pub Yields-append : {S : Type 0} (steps : S → Option Bool → S → Type 0) (s : S) (xs : List Bool)
    (t : S) (ys : List Bool) (u : S) → Yields steps s xs t → Yields steps t ys u
    → Yields steps s (xs ++ ys) u
Yields-append steps s [] t ys u first next = subst (λ k. Yields steps k ys u) (sym first) next
Yields-append steps s (x ∷ xs) t ys u first next =
    (first.0, first.1, Yields-append steps first.0 xs t ys u first.2 next)

-- bits, one more, and others
pub pushed_and_filled : (before added bits : List Bool) (bit : Bool)
    → ((before ++ added) ++ bit ∷ []) ++ bits ≡ before ++ (added ++ bit ∷ bits)
pushed_and_filled before added bits bit =
    append_assoc (before ++ added) (bit ∷ []) bits ∙ append_assoc before added (bit ∷ bits)

-- an iterator gives more than n items, which are some and one more
more_than : {S : Type 0} (steps : S → Option Bool → S → Type 0) (it : S) (n : ℕ)
    (added : List Bool) (bit : Bool) (rest : S) → YieldsThen steps it added (Some bit) rest
    → n < length added + 1 → GivesMoreThan steps it n
more_than steps it n added bit rest gave more = (
  added ++ bit ∷ [],
  rest,
  Yields-more steps it added gave.0 bit rest gave.1 gave.2,
  omega (arith, more, length_push added bit),
)

-- where an item is refused, behind no bits, so is the Vob that was to hold all
module _ {X S A : Type 0} (makes : X → S → Type 0) (steps : S → Option Bool → S → Type 0)
    (remaining : S → Count) (source : X) (it : S) (made : makes source it) (hint : ℕ)
    (within : IsWithinCount hint (remaining it)) (before after : BitVector)
    (none : before.bits ≡ []) where
  pub items_refused : (r : VobError) → RefusesItem steps it before after 0 r
      → RefusesItems {A = A} makes steps remaining source (Err r)
  items_refused TooLong h = record {
    too_long = λ _. (
      it,
      made,
      more_than steps it (2 ^ 64 - 1) h.0 h.1 h.2 h.3
          (omega (arith, h.5, ap length none)),
    );
    memory = λ e. cc;
    past_end = λ e. cc;
  }
  items_refused Memory h = record {
    too_long = λ e. cc;
    memory = λ _. (it, hint, made, within, inr (more_than steps it 0 h.0 h.1 h.2 h.3 (omega arith)));
    past_end = λ e. cc;
  }
  items_refused PastEnd h = absurd h.5
