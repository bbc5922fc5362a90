-- The calls that combine two lists, by connective: words of inner functions, in no public contract.
use Rattle.std.specs.Prelude.{ℕ, Bool, ◌&&◌, ◌||◌}
use Rattle.vob_block.specs.Pointwise.{differ}
use Rattle.vob_run.specs.Call.{Call}
use Rattle.vob_run.specs.Call as call
use Rattle.vob_run.specs.declared.calls.pair.Connective.{Connective}
use Rattle.vob_run.specs.declared.calls.pair.Connective.TheVariants.{And, Or, Xor}

-- what a connective makes of two bits
abbrev pub operator : Connective → Bool → Bool → Bool
operator And = ◌&&◌
operator Or = ◌||◌
operator Xor = differ

-- the call that puts the bits into the place of the first list
abbrev pub combining : Connective → ℕ → ℕ → Call
combining And = call.And
combining Or = call.Or
combining Xor = call.Xor

-- the call that makes a list of the bits
abbrev pub combining_new : Connective → ℕ → ℕ → Call
combining_new And = call.AndNew
combining_new Or = call.OrNew
combining_new Xor = call.XorNew
