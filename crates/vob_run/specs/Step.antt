-- What each call means on the lists of bits that the numbered Vobs are.
use Rattle.std.specs.Prelude.{ℕ, ◌+◌, ◌-◌, ◌*◌, List, [], ◌++◌, map, length, take, slice_get, replicate, ◌==◌, Bool, not, ◌&&◌, ◌||◌}
use Rattle.vob_block.specs.Bytes.{bytes_list}
use Rattle.vob_block.specs.Packing.{packing}
use Rattle.vob_block.specs.Pointwise.{differ, pointwise}
use Rattle.vob_walk.specs.Matches.{matches}
use Rattle.vob.specs.Same.{same_bits}
use Rattle.vob_walk.specs.Walk.{answers}
use Rattle.vob_run.specs.Call.{Call, New, FromElem, Copy, FromRaw, Push, Pop, GetBit, GetUnchecked, IndexBit, SetBit, SetUnchecked, Length, IsEmpty, Truncate}
use Rattle.vob_run.specs.Call.{Clear, SetAll, Negate, Resize, ExtendSlice, ExtendItems, ExtendVob, SplitOff, Drain, And, Or, Xor, AndNew, OrNew, XorNew}
use Rattle.vob_run.specs.Call.{Equal, Reserve, Shrink, Bits, Storage, Walk, Count, Fresh, WithCapacity, Fill, FromBytes, FromSlice, FromItems, FromRecord}
use Rattle.vob_run.specs.Answer.{done, bit, flag, number, bit_list, block_list, dealt, Outcome}
use Rattle.vob_run.specs.Outcomes.{on, on_two, on_same_length, tells, leaves, makes, unless_long, tells_bit}
use Rattle.vob_run.specs.Changes.{pushed, popped, written, extended, split, drained, combined}
use Rattle.vob_run.specs.Blocks.{taken, taken_raw}

-- what a call answers, and the lists after it; only calls that speak of blocks read the width
-- Example: Push of 1 on 10: done, 101
abbrev pub step : ℕ → List (List Bool) → Call → Outcome
step width lists (New capacity) = makes lists []
step width lists (FromElem value len) = makes lists (replicate len value)
step width lists (Copy which) = on lists which (makes lists)
step width lists (FromRaw len mask blocks) = taken_raw lists width len mask blocks
step width lists (Push which value) = on lists which (pushed lists which value)
step width lists (Pop which) = on lists which (popped lists which)
step width lists (GetBit which index) =
    on lists which (λ bits. tells lists (bit (slice_get bits index)))
step width lists (GetUnchecked which index) =
    on lists which (λ bits. tells_bit lists (slice_get bits index))
step width lists (IndexBit which index) =
    on lists which (λ bits. tells_bit lists (slice_get bits index))
step width lists (SetBit which index value) = on lists which (written lists which index value)
step width lists (SetUnchecked which index value) = on lists which (written lists which index value)
step width lists (Length which) = on lists which (λ bits. tells lists (number (length bits)))
step width lists (IsEmpty which) = on lists which (λ bits. tells lists (flag (length bits == 0)))
step width lists (Truncate which len) =
    on lists which (λ bits. leaves lists which done (take len bits))
step width lists (Clear which) = on lists which (λ bits. leaves lists which done [])
step width lists (SetAll which value) =
    on lists which (λ bits. leaves lists which done (replicate (length bits) value))
step width lists (Negate which) = on lists which (λ bits. leaves lists which done (map not bits))
step width lists (Resize which len value) =
    on lists which
    (λ bits. leaves lists which done (take len bits ++ replicate (len - length bits) value))
step width lists (ExtendSlice which more) = on lists which (extended lists which more)
step width lists (ExtendItems which more) = on lists which (extended lists which more)
step width lists (ExtendVob which other) =
    on_two lists which other (λ bits others. extended lists which others bits)
step width lists (SplitOff which index) = on lists which (split lists which index)
step width lists (Drain which start end) = on lists which (drained lists which start end)
step width lists (And which other) = on_same_length lists which other (combined lists ◌&&◌ which)
step width lists (Or which other) = on_same_length lists which other (combined lists ◌||◌ which)
step width lists (Xor which other) = on_same_length lists which other (combined lists differ which)
step width lists (AndNew which other) =
    on_same_length lists which other (λ bits others. makes lists (pointwise ◌&&◌ bits others))
step width lists (OrNew which other) =
    on_same_length lists which other (λ bits others. makes lists (pointwise ◌||◌ bits others))
step width lists (XorNew which other) =
    on_same_length lists which other (λ bits others. makes lists (pointwise differ bits others))
step width lists (Equal which other) =
    on_two lists which other (λ bits others. tells lists (flag (same_bits bits others)))
step width lists (Reserve which additional) =
    on lists which (λ bits. unless_long lists (length bits + additional) (tells lists done))
step width lists (Shrink which) = on lists which (λ bits. tells lists done)
step width lists (Bits which) = on lists which (λ bits. tells lists (bit_list bits))
step width lists (Storage which) =
    on lists which (λ bits. tells lists (block_list (packing bits width)))
step width lists (Walk which value start end pulls) =
    on lists which (λ bits. tells lists (dealt (answers (matches bits value start end) pulls)))
step width lists (Count which value start end) =
    on lists which (λ bits. tells lists (number (length (matches bits value start end))))
step width lists Fresh = makes lists []
step width lists (WithCapacity capacity) = makes lists []
step width lists (Fill value len) = makes lists (replicate len value)
step width lists (FromBytes bytes) =
    unless_long lists (8 * length bytes) (makes lists (bytes_list bytes))
step width lists (FromSlice bits) = makes lists bits
step width lists (FromItems bits) = unless_long lists (length bits) (makes lists bits)
step width lists (FromRecord len blocks) = taken lists width len blocks
