-- Blocks of bits joined to the bits of others. No public contract cites this page.
use Rattle.std.specs.Prelude.{◌≡◌, ℕ, ◌+◌, List, ◌++◌, length}
use Rattle.vob_block.specs.Packing.{need, unpacking, IsCanonical, Stores}

-- blocks with room for n bits and as many more as the others store
pub record HaveRoom (width n more : ℕ) (blocks others : List ℕ) : Type 0 where
  pub count : length blocks ≡ need (n + more) width
  pub other : IsCanonical more others width

-- the first n bits of some blocks, and after them those of the others
abbrev pub IsJoined : ℕ → ℕ → ℕ → List ℕ → List ℕ → List ℕ → Type 0
IsJoined width n more blocks others after =
    Stores width (n + more) after (unpacking n blocks width ++ unpacking more others width)
