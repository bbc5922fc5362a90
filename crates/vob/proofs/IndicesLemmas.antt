-- Unset bits of which those at some indices were set.
use Rattle.std.proofs.Common.{◌≡◌, ℕ, false, Bool, List, length, replicate, sym, ap, ◌∙◌, arith, inl, inr}
use Rattle.std.proofs.lemmas.Bool.{cases_lt, false≢true}
use Rattle.std.proofs.lemmas.List.{get_or_default, get_or-replicate, get_or_past, length-replicate}
use Rattle.vob_block.specs.Packing.{item}
use Rattle.vob.specs.Indices.{HasSet, IsMadeOf}

item-unset : (len i : ℕ) → item (replicate len false) i ≡ false
item-unset len i = elim (cases_lt i len) [
  | inl inside ↦ get_or-replicate len i false false inside
  | inr past ↦ get_or_past (replicate len false) i false (omega (arith, length-replicate len false))
]

pub IsMadeOf-set : {len : ℕ} {indices : List ℕ} {bits after : List Bool}
    → bits ≡ replicate len false → HasSet indices (length indices) bits after
    → IsMadeOf len indices after
IsMadeOf-set {len} {indices} {bits} {after} unset h = record {
  len = h.len ∙ ap length unset ∙ length-replicate len false;
  each = λ i. (
    (λ e. elim (h.only i e) [
      | inl old ↦ absurd (false≢true (sym (ap (λ bs. item bs i) unset ∙ item-unset len i) ∙ old))
      | inr among ↦ (
        among.0,
        among.1,
        sym (get_or_default indices among.0 0 i among.1) ∙ among.2,
      )
    ]),
    (λ among. ap (item after) (sym among.2 ∙ sym (get_or_default indices among.0 0 i among.1))
        ∙ h.given among.0 among.1),
  );
}
