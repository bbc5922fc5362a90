-- What becomes of blocks that are to be taken as a list of bits.
use Rattle.std.specs.Prelude.{ℕ, List, length, ◌==◌, ◌&&◌, Bool, true, false, not, if◌then◌else◌}
use Rattle.std.specs.Bool.{nat_eq}
use Rattle.std.specs.Cmp.Lexicographic.{pointwise as same_items}
use Rattle.vob_block.specs.Packing.{need, packing, unpacking}
use Rattle.vob_run.specs.Answer.{skipped, refused, Outcome}
use Rattle.vob_run.specs.Outcomes.{tells, makes}

-- whether two lists of blocks are the same
abbrev pub same_blocks : List ℕ → List ℕ → Bool
same_blocks = same_items nat_eq

-- blocks with their unused bits made 0, where that is asked for
abbrev pub masked : ℕ → ℕ → Bool → List ℕ → List ℕ
masked width len false blocks = blocks
masked width len true blocks = packing (unpacking len blocks width) width

module _ (lists : List (List Bool)) where
  -- blocks that are the packing of a list of so many bits are taken as that list, and other ones
  -- are refused
  abbrev pub taken : ℕ → ℕ → List ℕ → Outcome
  taken width len blocks =
      if same_blocks blocks (packing (unpacking len blocks width) width)
      then makes lists (unpacking len blocks width)
      else tells lists (refused 3)

  -- the same, once they are masked where that is asked for, which is skipped where they aren't as
  -- many as the bits need
  abbrev pub taken_raw : ℕ → ℕ → Bool → List ℕ → Outcome
  taken_raw width len mask blocks =
      if mask && not (length blocks == need len width) then tells lists skipped
      else taken width len (masked width len mask blocks)
