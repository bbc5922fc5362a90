-- The indices of the range are those from `at` to below the length.
use Rattle.std.specs.declared.ops.Bound.TheVariants.{Included, Unbounded}
use Rattle.std.proofs.Common.{◌≡◌, ℕ, ◌-◌, ◌<◌, ◌≤◌, nat_le, nat_lt, Bool, ◌&&◌, List, ◌++◌, length, take, drop, sym, ap, ◌∙◌, arith}
use Rattle.std.proofs.lemmas.Bool.{lt-ltb}
use Rattle.std.proofs.lemmas.List.{append-nil, take_all, drop_all, length-drop}
use Rattle.vob_walk.specs.Matches.{within}
use Rattle.vob.specs.Drain.{bits_within, bits_outside}
use Rattle.vob.proofs.BitsLemmas.{bits_within-cut, bits_outside-cut}
use Rattle.vob_laws.proofs.lists.drain_from_is_split.Goals as goal

module _ (bits : List Bool) (at : ℕ) (inside : at ≤ length bits) where
  each : (i : ℕ) → i < length bits → within (Included at) Unbounded i
      ≡ (nat_le at i && nat_lt i (length bits))
  each i below = ap (λ t. nat_le at i && t) (sym (lt-ltb i (length bits) below))

  left : bits_outside (Included at) Unbounded bits ≡ take at bits
  left = bits_outside-cut (Included at) Unbounded bits at (length bits) inside (omega arith) each
      ∙ ap (λ bs. take at bits ++ bs) (drop_all (length bits) bits (omega arith))
      ∙ append-nil (take at bits)

  given : bits_within (Included at) Unbounded bits ≡ drop at bits
  given = bits_within-cut (Included at) Unbounded bits at (length bits) inside (omega arith) each
      ∙ take_all (length bits - at) (drop at bits) (omega (arith, length-drop at bits))

pub returns : goal.returns
returns c = λ bits at inside. (left bits at inside, given bits at inside)
