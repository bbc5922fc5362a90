-- Live variables of a flow graph, as rows of bits: one row a node, one bit a variable.
use Rattle.std.specs.Prelude.{ℕ, Bool, not, List}
use Rattle.vob_block.specs.Packing.{item}
use Rattle.vob_flow.specs.Reaching.{AreReaching}
use Rattle.vob_rows.specs.Rows.{row_of}

-- whether variable v stays live through node n: it isn't written there
abbrev pub stays_live : List (List Bool) → ℕ → ℕ → Bool
stays_live writes n v = not (item (row_of writes n) v)

-- the least rows that meet two equations at each node. Live after it is what is live before a node that
-- comes next; live before it what it reads, and what is live after it and not written there. Definitions
-- that reach nodes meet the same, along the edges of the other direction: after is then the start.
abbrev pub AreLiveRows : List (List ℕ) → List (List Bool) → List (List Bool) → List (List Bool) → List (List Bool)
    → Type 0
AreLiveRows next reads writes before after = AreReaching next (stays_live writes) reads after before
