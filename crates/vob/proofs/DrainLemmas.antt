-- What a range takes out of a list of bits, and what it leaves.
use Rattle.std.specs.Prelude.{Result, Ok, Err, IsOk, IfOk, OnOk, MatchResult}
use Rattle.std.specs.declared.ops.Bound.{Bound}
use Rattle.std.proofs.Common.{◌≡◌, ◌≢◌, ℕ, ◌+◌, ◌-◌, ◌≤◌, Bool, List, [], ◌++◌, length, take, drop, sym, ap, ◌∙◌, arith}
use Rattle.std.proofs.lemmas.List.{append-nil, drop-take, drop_all, length-take-le, length-drop, take_all}
use Rattle.std.proofs.lemmas.Bool.{false≢true}
use Rattle.vob_block.specs.Packing.{unpacking}
use Rattle.vob_block.proofs.PackingLemmas.{take-unpacking}
use Rattle.vob_walk.specs.Matches.{ForSomeRange, IsRangeOf}
use Rattle.vob.specs.Drain.{bits_within, IsDrained}
use Rattle.vob_walk.proofs.WindowLemmas.{IsRangeOf-own}
use Rattle.vob.proofs.BitsLemmas.{bits_within-cut, bits_outside-cut}

-- blocks give the bits from one index to below another
pub taken-blocks : (w n from to : ℕ) {xs ys : List ℕ} {bits : List Bool} → ys ≡ xs
    → unpacking n xs w ≡ bits → from ≤ to → to ≤ n
    → drop from (unpacking to ys w) ≡ take (to - from) (drop from bits)
taken-blocks w n from to {xs} {ys} {bits} same view order inside =
    let whole : from + (to - from) ≡ to = omega (arith, order) in
    ap (λ zs. drop from (unpacking to zs w)) same
    ∙ ap (drop from) (sym (take-unpacking to n xs w inside))
    ∙ ap (λ bs. drop from (take to bs)) view ∙ ap (λ k. drop from (take k bits)) (sym whole)
    ∙ drop-take from (to - from) bits

pub taken-nothing : (bits : List Bool) (from to : ℕ) → from ≡ to
    → [] ≡ take (to - from) (drop from bits)
taken-nothing bits from to empty =
    let none : to - from ≡ 0 = omega (arith, empty) in sym (ap (λ k. take k (drop from bits)) none)

-- all from an index on
module _ (at n : ℕ) (bits : List Bool) (long : length bits ≡ n) where
  pub take-rest : take (n - at) (drop at bits) ≡ drop at bits
  take-rest = take_all (n - at) (drop at bits) (omega (arith, length-drop at bits, long))

  pub take-no_rest : take at bits ++ drop n bits ≡ take at bits
  take-no_rest = ap (λ bs. take at bits ++ bs) (drop_all n bits (omega (arith, long)))
      ∙ append-nil (take at bits)

-- the indices of the range are those from one index to below another
module _ {low high : Bound ℕ} (bits : List Bool) {from to : ℕ}
    (range : IsRangeOf low high (length bits) from to) where
  pub IsDrained-cut : {taken rest : List Bool} → taken ≡ take (to - from) (drop from bits)
      → rest ≡ take from bits ++ drop to bits → IsDrained low high bits taken rest
  IsDrained-cut given left = record {
    given = given ∙ sym (bits_within-cut low high bits from to range.order range.inside range.each);
    left = left ∙ sym (bits_outside-cut low high bits from to range.order range.inside range.each);
  }

  -- something is taken out unless there is none of them
  pub drained_none : bits_within low high bits ≡ [] → from ≡ to
  drained_none none =
      let few = length-take-le (to - from) (drop from bits)
      (omega (arith, length-drop from bits, range.inside)) in
      let cut = bits_within-cut low high bits from to range.order range.inside range.each in
      omega (arith, few, ap length (sym cut ∙ none), range.order)

-- what a call that takes them out returns
module _ {V E : Type 0} (bits_in : V → List Bool) (bits after : List Bool) (from to : ℕ) where
  pub drained_ok : {low high : Bound ℕ} → IsRangeOf low high (length bits) from to
      → (result : Result V E) → IfOk result (λ v. bits_in v ≡ take (to - from) (drop from bits))
      → OnOk result (after ≡ take from bits ++ drop to bits)
      → IfOk result (λ v. IsDrained low high bits (bits_in v) after)
  drained_ok range (Ok v) taken left = IsDrained-cut bits range taken left
  drained_ok range (Err e) taken left = tt

  drained_or_some : {low high : Bound ℕ} → IsRangeOf low high (length bits) from to
      → (result : Result V E) → IfOk result (λ v. bits_in v ≡ take (to - from) (drop from bits))
      → OnOk result (after ≡ take from bits ++ drop to bits) → (from ≡ to → IsOk result)
      → MatchResult result (λ v. IsDrained low high bits (bits_in v) after)
      (λ _. bits_within low high bits ≢ [])
  drained_or_some range (Ok v) taken left nothing = IsDrained-cut bits range taken left
  drained_or_some range (Err e) taken left nothing =
      λ none. false≢true (nothing (drained_none bits range none))

  pub drained_some : from ≤ to → to ≤ length bits → (result : Result V E)
      → IfOk result (λ v. bits_in v ≡ take (to - from) (drop from bits))
      → OnOk result (after ≡ take from bits ++ drop to bits) → (from ≡ to → IsOk result)
      → ForSomeRange (length bits) (λ low high. MatchResult result
      (λ v. IsDrained low high bits (bits_in v) after) (λ _. bits_within low high bits ≢ []))
  drained_some order inside result taken left nothing = (
    from,
    to,
    order,
    inside,
    drained_or_some (IsRangeOf-own from to (length bits) order inside) result taken left nothing,
  )

  -- or a copy of them
  pub sliced_ok : {low high : Bound ℕ} → IsRangeOf low high (length bits) from to
      → (result : Result V E) → IfOk result (λ v. bits_in v ≡ take (to - from) (drop from bits))
      → IfOk result (λ v. bits_in v ≡ bits_within low high bits)
  sliced_ok range (Ok v) taken =
      taken ∙ sym (bits_within-cut _ _ bits from to range.order range.inside range.each)
  sliced_ok range (Err e) taken = tt

  sliced_or_some : {low high : Bound ℕ} → IsRangeOf low high (length bits) from to
      → (result : Result V E) → IfOk result (λ v. bits_in v ≡ take (to - from) (drop from bits))
      → (from ≡ to → IsOk result) → MatchResult result (λ v. bits_in v ≡ bits_within low high bits)
      (λ _. bits_within low high bits ≢ [])
  sliced_or_some range (Ok v) taken nothing = sliced_ok range (Ok v) taken
  sliced_or_some range (Err e) taken nothing =
      λ none. false≢true (nothing (drained_none bits range none))

  pub sliced_some : from ≤ to → to ≤ length bits → (result : Result V E)
      → IfOk result (λ v. bits_in v ≡ take (to - from) (drop from bits))
      → (from ≡ to → IsOk result) → ForSomeRange (length bits) (λ low high. MatchResult result
      (λ v. bits_in v ≡ bits_within low high bits) (λ _. bits_within low high bits ≢ []))
  sliced_some order inside result taken nothing = (
    from,
    to,
    order,
    inside,
    sliced_or_some (IsRangeOf-own from to (length bits) order inside) result taken nothing,
  )
