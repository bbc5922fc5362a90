-- What is sent to a serializer for a Vob.
use Rattle.std.specs.Prelude.{◌≡◌, ℕ, Bool, List, Some, length, map, codes}
use Rattle.serde.specs.Event.{Log, Sends, Then, WritesSeq, unsigned, map_begins, map_ends, field_key}
use Rattle.serde.specs.declared.name.Case.TheVariants.{AsIs}
use Rattle.vob_block.specs.Packing.{packing}

-- a map of two fields: `len`, the length in bits, and `vec`, which `vec` writes
abbrev pub WritesFields : ℕ → (Log → Log → Type 0) → Log → Log → Type 0
WritesFields len vec =
    Then (Sends (map_begins (Some 2))) (Then (Sends (field_key (codes "len") AsIs))
    (Then (Sends (unsigned len)) (Then (Sends (field_key (codes "vec") AsIs))
    (Then vec (Sends map_ends)))))

-- the length of some bits is sent, and then the blocks that are their packing
-- Example: 101 at 8: {"len":3,"vec":[5]}
pub record WritesBits {X : Type 0} (writes : X → Log → Log → Type 0) (number : X → ℕ) (width : ℕ)
    (bits : List Bool) (old new : Log) : Type 0 where
  pub blocks : List X
  pub packed : map number blocks ≡ packing bits width
  pub written : WritesFields (length bits) (WritesSeq writes blocks) old new
