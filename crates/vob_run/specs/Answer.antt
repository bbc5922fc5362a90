-- What a reply says, and what a call leaves.
use Rattle.std.specs.Prelude.{ℕ, List, Bool, Option, map}
use Rattle.vob_run.specs.declared.command.Reply.{Reply}
use Rattle.vob_run.specs.declared.command.Reply.TheVariants.{Done, Bit, Flag, Number, Made, BitList, BlockList, Dealt, Skipped, Refused}

-- what a reply says: as the reply, with lists for vectors and numbers for blocks
pub data Answer : Type 0 where
  done : Answer
  bit : Option Bool → Answer
  flag : Bool → Answer
  number : ℕ → Answer
  made : ℕ → Answer
  bit_list : List Bool → Answer
  block_list : List ℕ → Answer
  dealt : List (Option ℕ) → Answer
  skipped : Answer
  refused : ℕ → Answer

-- the answer of a reply whose blocks have these numbers
abbrev pub answer_of : {X : Type 0} → (X → ℕ) → Reply X → Answer
answer_of block_number Done = done
answer_of block_number (Bit value) = bit value
answer_of block_number (Flag value) = flag value
answer_of block_number (Number n) = number n
answer_of block_number (Made which) = made which
answer_of block_number (BitList bits) = bit_list bits.items
answer_of block_number (BlockList blocks) = block_list (map block_number blocks.items)
answer_of block_number (Dealt indices) = dealt indices.items
answer_of block_number Skipped = skipped
answer_of block_number (Refused reason) = refused reason

-- the same of a reply whose blocks are numbers already
abbrev pub usize_answer_of : Reply ℕ → Answer
usize_answer_of = answer_of (λ block. block)

-- an answer, and the lists after it
pub record Outcome : Type 0 where
  pub answer : Answer
  pub lists : List (List Bool)

-- an answer and the lists after it
abbrev pub outcome : Answer → List (List Bool) → Outcome
outcome a lists = record { answer = a; lists = lists }
