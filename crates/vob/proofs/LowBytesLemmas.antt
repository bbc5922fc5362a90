-- Bytes as blocks of eight places, which bits of theirs are packed into again.
use Rattle.std.specs.Prelude.{All, IfOk, Result}
use Rattle.std.proofs.Common.{◌≡◌, ℕ, ◌*◌, ◌^◌, ◌<◌, Bool, List, length, sym, ap, ◌∙◌, arith}
use Rattle.std.proofs.lemmas.Result.{IfOk-weaker}
use Rattle.vob_block.specs.Packing.{item, need, bit_at, packing, unpacking, IsCanonical}
use Rattle.vob_block.proofs.NeedLemmas.{need_is}
use Rattle.vob_block.proofs.PackingLemmas.{bit_at-packing, bit_at-past, length-packing, packing-unpacking}

-- bytes are the one way to store their bits
bytes_canonical : (bytes : List ℕ) → All (λ x. x < 2 ^ 8) bytes
    → IsCanonical (8 * length bytes) bytes 8
bytes_canonical bytes small = record {
  count = sym (need_is 8 (omega arith) (8 * length bytes) (length bytes) (omega arith) (omega arith));
  within = small;
  unused = λ i past. bit_at-past bytes 8 i (omega (arith, past));
}

pub packing-bytes : (bytes : List ℕ) → All (λ x. x < 2 ^ 8) bytes
    → packing (unpacking (8 * length bytes) bytes 8) 8 ≡ bytes
packing-bytes bytes small = packing-unpacking 8 (omega arith) (8 * length bytes) bytes
    (bytes_canonical bytes small)

-- bytes that bits are packed into, if there are any
module _ {X E : Type 0} (result : Result X E) (items : X → List ℕ) (bits own : List Bool)
    (same : bits ≡ own) (packed : IfOk result (λ x. items x ≡ packing bits 8)) where
  pub packed_count : IfOk result (λ x. length (items x) ≡ need (length own) 8)
  packed_count = IfOk-weaker result (λ x. items x ≡ packing bits 8)
      (λ x. length (items x) ≡ need (length own) 8)
      (λ x is. ap length is ∙ length-packing 8 (omega arith) bits
      ∙ ap (λ bs. need (length bs) 8) same) packed

  pub packed_each : IfOk result (λ x. (i : ℕ) → bit_at (items x) 8 i ≡ item own i)
  packed_each = IfOk-weaker result (λ x. items x ≡ packing bits 8)
      (λ x. (i : ℕ) → bit_at (items x) 8 i ≡ item own i)
      (λ x is i. ap (λ xs. bit_at xs 8 i) is ∙ bit_at-packing 8 (omega arith) bits i
      ∙ ap (λ bs. item bs i) same) packed
