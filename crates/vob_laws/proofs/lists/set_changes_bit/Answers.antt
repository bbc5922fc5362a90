-- By the bits, one after another.
use Rattle.std.proofs.Common.{◌≡◌, ℕ, ◌<◌, Bool, false, List, length, get_or, set, sym, ap, ◌∙◌, inl, inr}
use Rattle.std.specs.Prelude.{Some, slice_get}
use Rattle.std.proofs.lemmas.Bool.{cases_eq}
use Rattle.std.proofs.lemmas.List.{ext_get_or, get_or-set_same, get_or-set_other, length-set}
use Rattle.std.proofs.lemmas.Option.{get_or_from_slice_get, slice_get-get_or}
use Rattle.vob_laws.proofs.lists.set_changes_bit.Goals as goal

bit_was : (bits : List Bool) (index : ℕ) (value : Bool) → index < length bits
    → set bits index value ≡ bits → slice_get bits index ≡ Some value
bit_was bits index value inside same =
    slice_get-get_or bits index false inside
    ∙ ap Some (ap (λ bs. get_or bs index false) (sym same)
    ∙ get_or-set_same bits index value false inside)

same_after : (bits : List Bool) (index : ℕ) (value : Bool) → index < length bits
    → slice_get bits index ≡ Some value → set bits index value ≡ bits
same_after bits index value inside was =
    ext_get_or false (set bits index value) bits (length-set bits index value) (λ i less.
    elim (cases_eq i index) [
      | inl here ↦
          ap (λ k. get_or (set bits index value) k false) here
          ∙ get_or-set_same bits index value false inside
          ∙ sym (get_or_from_slice_get bits index value false was)
          ∙ ap (λ k. get_or bits k false) (sym here)
      | inr there ↦ get_or-set_other bits index i value false there
    ])

pub returns : goal.returns
returns c = λ bits index value inside. (
  (λ another same. another (bit_was bits index value inside same)),
  (λ changed was. changed (same_after bits index value inside was)),
)
