-- Two lists of blocks of one length, combined bit by bit. No public contract cites this page.
use Rattle.std.specs.Prelude.{◌≡◌, ℕ, ◌+◌, ◌*◌, ◌/◌, ◌<◌, ◌≤◌, Bool, true, false, List, length, count_by}
use Rattle.std.specs.List.{range_with_len}
use Rattle.vob_block.specs.Packing.{bit_at}

-- bit i of both combined by f
abbrev pub combined_bit : (Bool → Bool → Bool) → ℕ → List ℕ → List ℕ → ℕ → Bool
combined_bit f width blocks others i = f (bit_at blocks width i) (bit_at others width i)

-- how many bits are true in the first k blocks, combined
unfoldable pub ones_combined : (Bool → Bool → Bool) → ℕ → List ℕ → List ℕ → ℕ → ℕ
ones_combined f width blocks others k =
    count_by (combined_bit f width blocks others) (range_with_len 0 (k * width))

-- none is in the blocks from one to below another
abbrev pub HaveNone : (Bool → Bool → Bool) → ℕ → ℕ → ℕ → List ℕ → List ℕ → Type 0
HaveNone f width from to blocks others = (i : ℕ) → from ≤ i / width → i / width < to
    → combined_bit f width blocks others i ≡ false

-- index i is that of the first
pub record IsFirstCombined (f : Bool → Bool → Bool) (width : ℕ) (blocks others : List ℕ) (i : ℕ)
    : Type 0 where
  pub inside : i / width < length blocks
  pub there : combined_bit f width blocks others i ≡ true
  pub before : (j : ℕ) → j < i → combined_bit f width blocks others j ≡ false

-- reads stop with the chunk of 64 blocks that holds the first true bit of both combined: if bit i
-- is true, no block past its chunk was read
abbrev pub StopsAtChunk : (Bool → Bool → Bool) → ℕ → List ℕ → List ℕ → ℕ → ℕ → Type 0
StopsAtChunk f width blocks others before after =
    (i : ℕ) → i / width < length blocks → combined_bit f width blocks others i ≡ true
    → after ≤ before + (i / width / 64 + 1) * 64
