-- What contracts see of a command: a call on numbered lists.
use Rattle.std.specs.Prelude.{ℕ, List, Bool}
use Rattle.std.specs.declared.ops.Bound.{Bound}
use Rattle.vob_walk.specs.declared.walk.End.{End}

-- as the command, with lists for vectors and numbers for blocks, so that commands of all block
-- types are calls alike
pub data Call : Type 0 where
  New : (capacity : ℕ) → Call
  FromElem : (value : Bool) (len : ℕ) → Call
  Copy : (which : ℕ) → Call
  FromRaw : (len : ℕ) (mask : Bool) (blocks : List ℕ) → Call
  Push : (which : ℕ) (value : Bool) → Call
  Pop : (which : ℕ) → Call
  GetBit : (which index : ℕ) → Call
  GetUnchecked : (which index : ℕ) → Call
  IndexBit : (which index : ℕ) → Call
  SetBit : (which index : ℕ) (value : Bool) → Call
  SetUnchecked : (which index : ℕ) (value : Bool) → Call
  Length : (which : ℕ) → Call
  IsEmpty : (which : ℕ) → Call
  Truncate : (which len : ℕ) → Call
  Clear : (which : ℕ) → Call
  SetAll : (which : ℕ) (value : Bool) → Call
  Negate : (which : ℕ) → Call
  Resize : (which len : ℕ) (value : Bool) → Call
  ExtendSlice : (which : ℕ) (more : List Bool) → Call
  ExtendItems : (which : ℕ) (more : List Bool) → Call
  ExtendVob : (which other : ℕ) → Call
  SplitOff : (which index : ℕ) → Call
  Drain : (which : ℕ) (start end : Bound ℕ) → Call
  And : (which other : ℕ) → Call
  Or : (which other : ℕ) → Call
  Xor : (which other : ℕ) → Call
  AndNew : (which other : ℕ) → Call
  OrNew : (which other : ℕ) → Call
  XorNew : (which other : ℕ) → Call
  Equal : (which other : ℕ) → Call
  Reserve : (which additional : ℕ) → Call
  Shrink : (which : ℕ) → Call
  Bits : (which : ℕ) → Call
  Storage : (which : ℕ) → Call
  Walk : (which : ℕ) (value : Bool) (start end : Bound ℕ) (pulls : List End) → Call
  Count : (which : ℕ) (value : Bool) (start end : Bound ℕ) → Call
  Fresh : Call
  WithCapacity : (capacity : ℕ) → Call
  Fill : (value : Bool) (len : ℕ) → Call
  FromBytes : (bytes : List ℕ) → Call
  FromSlice : (bits : List Bool) → Call
  FromItems : (bits : List Bool) → Call
  FromRecord : (len : ℕ) (blocks : List ℕ) → Call
