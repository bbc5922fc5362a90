-- What a walk has left, in hand and in unread blocks. No public contract cites this page.
use Rattle.std.specs.Prelude.{◌≡◌, ℕ, ◌+◌, ◌-◌, ◌*◌, ◌/◌, ◌<◌, ◌≤◌, Bool, ◌&&◌, nat_le, nat_lt, List, ◌++◌, length, min, filter}
use Rattle.std.specs.List.{range_with_len}
use Rattle.vob_block.specs.Places.{place}
use Rattle.vob_block.specs.Packing.{need, bit_at}
use Rattle.vob_walk.specs.Matches.{has_value}
use Rattle.vob_walk.specs.Walk.{Walk}

-- the numbers from a to below a + n that p holds of
abbrev pub indices_where : (ℕ → Bool) → ℕ → ℕ → List ℕ
indices_where p a n = filter p (range_with_len a n)

-- a block whose true places are indices still to give; place 0 is index `at`
unfoldable pub block_indices : ℕ → ℕ → ℕ → List ℕ
block_indices width at block = indices_where (λ i. place (i - at) block) at width

-- whether index i, from start to below stop, is that of a bit of the value
abbrev pub is_hit : ℕ → List ℕ → Bool → ℕ → ℕ → ℕ → Bool
is_hit width blocks value start stop i =
    nat_le start i && nat_lt i stop && has_value value (bit_at blocks width i)

-- those in the blocks from block k to below block end
unfoldable pub unread : ℕ → List ℕ → Bool → ℕ → ℕ → ℕ → ℕ → List ℕ
unread width blocks value start stop k end =
    indices_where (is_hit width blocks value start stop) (k * width) ((end - k) * width)

-- those of the bits of the value in one block, from start to below stop; place 0 is index `at`
abbrev pub indices_in : ℕ → ℕ → ℕ → Bool → ℕ → ℕ → List ℕ
indices_in width block at value start stop = indices_where
    (λ i. nat_le start i && nat_lt i stop && has_value value (place (i - at) block)) at width

-- the unread blocks of a walk: the indices that are left in them, how many blocks were read so far,
-- and how many are unread
pub record UnreadBlocks : Type 0 where
  pub rest : List ℕ
  pub reads : ℕ
  pub left : ℕ

-- each unread block is there, and begins below the end of the window
pub record IsUnread (width : ℕ) (blocks : List ℕ) (stop next end : ℕ) : Type 0 where
  pub order : next ≤ end
  pub count : end ≤ length blocks
  pub below : (k : ℕ) → k < end → k * width < stop

-- one where an index is in hand
abbrev pub has_index : List ℕ → ℕ
has_index indices = min 1 (length indices)

-- the walk that the indices in hand at both ends and the unread blocks between them make
abbrev pub walk_of : List ℕ → UnreadBlocks → List ℕ → Walk
walk_of front unread back = record {
  rest = front ++ (unread.rest ++ back);
  reads = unread.reads;
  left = unread.left + has_index front + has_index back;
  credit = unread.left;
}

-- the blocks from next to below end are those that hold an index from start to below stop
pub record AreBlocksOf (width start stop next end : ℕ) : Type 0 where
  pub order : next ≤ end
  pub count : end ≤ need stop width
  pub below : (k : ℕ) → k < end → k * width < stop
  pub some : start < stop → (next ≡ start / width) × (end ≡ need stop width)
  pub none : start ≡ stop → next ≡ end
