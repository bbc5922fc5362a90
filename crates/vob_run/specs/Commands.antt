-- Which call a command is.
use Rattle.std.specs.Prelude.{ℕ, map}
use Rattle.vob_run.specs.declared.command.Command.{Command}
use Rattle.vob_run.specs.declared.command.Command.TheVariants as command
use Rattle.vob_run.specs.declared.command.UsizeCommand.{UsizeCommand}
use Rattle.vob_run.specs.declared.command.UsizeCommand.TheVariants as usize_command
use Rattle.vob_run.specs.Call.{Call, New, FromElem, Copy, FromRaw, Push, Pop, GetBit, GetUnchecked}
use Rattle.vob_run.specs.Call.{IndexBit, SetBit, SetUnchecked, Length, IsEmpty, Truncate, Clear}
use Rattle.vob_run.specs.Call.{SetAll, Negate, Resize, ExtendSlice, ExtendItems, ExtendVob}
use Rattle.vob_run.specs.Call.{SplitOff, Drain, And, Or, Xor, AndNew, OrNew, XorNew, Equal, Reserve}
use Rattle.vob_run.specs.Call.{Shrink, Bits, Storage, Walk, Count, Fresh, WithCapacity, Fill}
use Rattle.vob_run.specs.Call.{FromBytes, FromSlice, FromItems, FromRecord}

-- the call that a command of a block type is, whose blocks have these numbers
abbrev pub call_of : {X : Type 0} → (X → ℕ) → Command X → Call
call_of block_number (command.New capacity) = New capacity
call_of block_number (command.FromElem value len) = FromElem value len
call_of block_number (command.Copy which) = Copy which
call_of block_number (command.FromRaw len mask blocks) =
    FromRaw len mask (map block_number blocks.items)
call_of block_number (command.Push which value) = Push which value
call_of block_number (command.Pop which) = Pop which
call_of block_number (command.GetBit which index) = GetBit which index
call_of block_number (command.GetUnchecked which index) = GetUnchecked which index
call_of block_number (command.IndexBit which index) = IndexBit which index
call_of block_number (command.SetBit which index value) = SetBit which index value
call_of block_number (command.SetUnchecked which index value) = SetUnchecked which index value
call_of block_number (command.Length which) = Length which
call_of block_number (command.IsEmpty which) = IsEmpty which
call_of block_number (command.Truncate which len) = Truncate which len
call_of block_number (command.Clear which) = Clear which
call_of block_number (command.SetAll which value) = SetAll which value
call_of block_number (command.Negate which) = Negate which
call_of block_number (command.Resize which len value) = Resize which len value
call_of block_number (command.ExtendSlice which more) = ExtendSlice which more.items
call_of block_number (command.ExtendItems which more) = ExtendItems which more.items
call_of block_number (command.ExtendVob which other) = ExtendVob which other
call_of block_number (command.SplitOff which index) = SplitOff which index
call_of block_number (command.Drain which bounds) = Drain which bounds.0 bounds.1
call_of block_number (command.And which other) = And which other
call_of block_number (command.Or which other) = Or which other
call_of block_number (command.Xor which other) = Xor which other
call_of block_number (command.AndNew which other) = AndNew which other
call_of block_number (command.OrNew which other) = OrNew which other
call_of block_number (command.XorNew which other) = XorNew which other
call_of block_number (command.Equal which other) = Equal which other
call_of block_number (command.Reserve which additional) = Reserve which additional
call_of block_number (command.Shrink which) = Shrink which
call_of block_number (command.Bits which) = Bits which
call_of block_number (command.Storage which) = Storage which
call_of block_number (command.Walk which value bounds pulls) =
    Walk which value bounds.0 bounds.1 pulls.items
call_of block_number (command.Count which value bounds) =
    Count which value bounds.0 bounds.1

-- the call that a command on Vobs of the default block type is
abbrev pub usize_call_of : UsizeCommand → Call
usize_call_of (usize_command.Common common) = call_of (λ block. block) common
usize_call_of usize_command.Fresh = Fresh
usize_call_of (usize_command.WithCapacity capacity) = WithCapacity capacity
usize_call_of (usize_command.Fill value len) = Fill value len
usize_call_of (usize_command.FromBytes bytes) = FromBytes bytes.items
usize_call_of (usize_command.FromSlice bits) = FromSlice bits.items
usize_call_of (usize_command.FromItems bits) = FromItems bits.items
usize_call_of (usize_command.FromRecord len blocks) = FromRecord len blocks.items
