-- The bytes so far are the digits of the block's places.
use Rattle.std.proofs.Common.{◌≡◌, ℕ, ◌<◌, get_or}
use Rattle.vob_block.specs.Digits.{digit}
use Rattle.vob_block.specs.Places.{place}
use Rattle.vob_store.proofs.text.fill_digits.Given as goal

abbrev pub invariant-loop-j : goal.invariant-loop-j
invariant-loop-j g l =
    (i : ℕ) → i < l.j → get_or l.digits i 0 ≡ digit (place i (g.T.BitBlock.number l.block))
