-- What each call does to two lists, 101 and 110, and three calls one after another: worked out by
-- hand and then by computation.
use Rattle.std.specs.Prelude.{codes}
use Rattle.std.specs.declared.ops.Bound.TheVariants.{Included, Excluded, Unbounded}
use Rattle.std.proofs.Common.{◌≡◌, ℕ, Bool, true, false, List, [], ◌∷◌, ◌++◌, Some, None, refl, ap, inl, inr, arith, lit<}
use Rattle.vob_block.specs.Places.{value}
use Rattle.vob_block.specs.Packing.{need, packing, bit_at, unpacking}
use Rattle.vob_block.specs.Bytes.{bytes_list}
use Rattle.vob.specs.Drain.{bits_where}
use Rattle.vob_walk.specs.declared.walk.End.TheVariants.{Front, Back}
use Rattle.vob_walk.specs.Matches.{matches}
use Rattle.vob_walk.specs.Walk.{end_item, without_end, answers}
use Rattle.vob_run.specs.Call.{Call, New, FromElem, Copy, FromRaw, Push, Pop, GetBit, GetUnchecked}
use Rattle.vob_run.specs.Call.{IndexBit, SetBit, SetUnchecked, Length, IsEmpty, Truncate, Clear}
use Rattle.vob_run.specs.Call.{SetAll, Negate, Resize, ExtendSlice, ExtendItems, ExtendVob}
use Rattle.vob_run.specs.Call.{SplitOff, Drain, And, Or, Xor, AndNew, OrNew, XorNew, Equal, Reserve}
use Rattle.vob_run.specs.Call.{Shrink, Bits, Storage, Walk, Count, Fresh, WithCapacity, Fill}
use Rattle.vob_run.specs.Call.{FromBytes, FromSlice, FromItems, FromRecord}
use Rattle.vob_run.specs.Answer.{Answer, done, bit, flag, number, made, bit_list, block_list, dealt}
use Rattle.vob_run.specs.Answer.{skipped, refused, outcome}
use Rattle.vob_run.specs.Outcomes.{greatest_length}
use Rattle.vob_run.specs.Step.{step}
use Rattle.vob_run.specs.Run.{IsStep, IsRun}
use Rattle.vob_run.specs.Widths.{step_answers, step_lists}
use Rattle.run_tests.proofs.WorkedBits.{bits}

abbrev two : List (List Bool)
two = bits (codes "101") ∷ bits (codes "110") ∷ []

-- the first of them changed, one more after them, and both
abbrev first : List ℕ → List (List Bool)
first text = bits text ∷ bits (codes "110") ∷ []

abbrev third : List ℕ → List (List Bool)
third text = two ++ bits text ∷ []

abbrev divided : List ℕ → List ℕ → List (List Bool)
divided kept given = first kept ++ bits given ∷ []

-- ---- a list more

new : step 8 two (New 9) ≡ outcome (made 2) (third (codes ""))
new = refl

elem : step 8 two (FromElem true 2) ≡ outcome (made 2) (third (codes "11"))
elem = refl

copy : step 8 two (Copy 0) ≡ outcome (made 2) (third (codes "101"))
copy = refl

copy-past_the_lists : step 8 two (Copy 2) ≡ outcome skipped two
copy-past_the_lists = refl

fresh : step 8 two (Fresh) ≡ outcome (made 2) (third (codes ""))
fresh = refl

room : step 8 two (WithCapacity 65) ≡ outcome (made 2) (third (codes ""))
room = refl

fill : step 8 two (Fill false 3) ≡ outcome (made 2) (third (codes "000"))
fill = refl

bytes : step 8 two (FromBytes (160 ∷ 18 ∷ [])) ≡ outcome (made 2) (third (codes "1010000000010010"))
unfolding bytes_list
bytes = refl

slice : step 8 two (FromSlice (bits (codes "01"))) ≡ outcome (made 2) (third (codes "01"))
slice = refl

items : step 8 two (FromItems (bits (codes "01"))) ≡ outcome (made 2) (third (codes "01"))
items = refl

-- ---- blocks taken and given

raw : step 8 two (FromRaw 3 false (5 ∷ [])) ≡ outcome (made 2) (third (codes "101"))
unfolding unpacking bit_at packing need value
raw = refl

raw-unused_bit : step 8 two (FromRaw 3 false (13 ∷ [])) ≡ outcome (refused 3) two
unfolding unpacking bit_at packing need value
raw-unused_bit = refl

raw-masked : step 8 two (FromRaw 3 true (13 ∷ [])) ≡ outcome (made 2) (third (codes "101"))
unfolding unpacking bit_at packing need value
raw-masked = refl

raw-too_many : step 8 two (FromRaw 3 false (5 ∷ 0 ∷ [])) ≡ outcome (refused 3) two
unfolding unpacking bit_at packing need value
raw-too_many = refl

raw-too_many_masked : step 8 two (FromRaw 3 true (5 ∷ 0 ∷ [])) ≡ outcome skipped two
unfolding unpacking bit_at packing need value
raw-too_many_masked = refl

from_record : step 8 two (FromRecord 3 (5 ∷ [])) ≡ outcome (made 2) (third (codes "101"))
unfolding unpacking bit_at packing need value
from_record = refl

from_record-unused_bit : step 8 two (FromRecord 3 (13 ∷ [])) ≡ outcome (refused 3) two
unfolding unpacking bit_at packing need value
from_record-unused_bit = refl

storage : step 8 two (Storage 1) ≡ outcome (block_list (3 ∷ [])) two
unfolding packing need value
storage = refl

-- ---- one bit

push : step 8 two (Push 0 true) ≡ outcome done (first (codes "1011"))
push = refl

pop : step 8 two (Pop 0) ≡ outcome (bit (Some true)) (first (codes "10"))
pop = refl

get : step 8 two (GetBit 0 1) ≡ outcome (bit (Some false)) two
get = refl

get-past_the_end : step 8 two (GetBit 0 3) ≡ outcome (bit None) two
get-past_the_end = refl

getu : step 8 two (GetUnchecked 0 2) ≡ outcome (flag true) two
getu = refl

getu-past_the_end : step 8 two (GetUnchecked 0 3) ≡ outcome skipped two
getu-past_the_end = refl

index : step 8 two (IndexBit 0 1) ≡ outcome (flag false) two
index = refl

index-past_the_end : step 8 two (IndexBit 0 3) ≡ outcome skipped two
index-past_the_end = refl

set : step 8 two (SetBit 0 1 true) ≡ outcome (flag true) (first (codes "111"))
set = refl

set-the_same : step 8 two (SetBit 0 0 true) ≡ outcome (flag false) two
set-the_same = refl

set-past_the_end : step 8 two (SetBit 0 3 true) ≡ outcome skipped two
set-past_the_end = refl

setu : step 8 two (SetUnchecked 0 2 false) ≡ outcome (flag true) (first (codes "100"))
setu = refl

-- ---- one list

len : step 8 two (Length 0) ≡ outcome (number 3) two
len = refl

empty : step 8 two (IsEmpty 0) ≡ outcome (flag false) two
empty = refl

truncate : step 8 two (Truncate 0 1) ≡ outcome done (first (codes "1"))
truncate = refl

truncate-past_the_end : step 8 two (Truncate 0 9) ≡ outcome done two
truncate-past_the_end = refl

clear : step 8 two (Clear 0) ≡ outcome done (first (codes ""))
clear = refl

setall : step 8 two (SetAll 0 true) ≡ outcome done (first (codes "111"))
setall = refl

negate : step 8 two (Negate 0) ≡ outcome done (first (codes "010"))
negate = refl

resize-more : step 8 two (Resize 0 5 true) ≡ outcome done (first (codes "10111"))
resize-more = refl

resize-fewer : step 8 two (Resize 0 1 true) ≡ outcome done (first (codes "1"))
resize-fewer = refl

append : step 8 two (ExtendSlice 0 (bits (codes "01"))) ≡ outcome done (first (codes "10101"))
append = refl

extend : step 8 two (ExtendItems 0 (bits (codes "01"))) ≡ outcome done (first (codes "10101"))
extend = refl

split : step 8 two (SplitOff 0 1) ≡ outcome (made 2) (divided (codes "1") (codes "01"))
split = refl

split-past_the_end : step 8 two (SplitOff 0 4) ≡ outcome (refused 4) two
split-past_the_end = refl

drain : step 8 two (Drain 0 (Included 1) (Excluded 2))
    ≡ outcome (made 2) (divided (codes "11") (codes "0"))
unfolding bits_where
drain = refl

reserve : step 8 two (Reserve 0 9) ≡ outcome done two
reserve = refl

reserve-too_long : step 8 two (Reserve 0 greatest_length) ≡ outcome (refused 1) two
reserve-too_long = refl

shrink : step 8 two (Shrink 0) ≡ outcome done two
shrink = refl

all_bits : step 8 two (Bits 0) ≡ outcome (bit_list (bits (codes "101"))) two
all_bits = refl

walk : step 8 two (Walk 0 true Unbounded (Included greatest_length) (Front ∷ Back ∷ Front ∷ []))
    ≡ outcome (dealt (Some 0 ∷ Some 2 ∷ None ∷ [])) two
unfolding matches end_item without_end answers
walk = refl

count : step 8 two (Count 0 false Unbounded Unbounded) ≡ outcome (number 1) two
unfolding matches
count = refl

count-reversed : step 8 two (Count 0 false (Included 3) (Excluded 1)) ≡ outcome (number 0) two
unfolding matches
count-reversed = refl

-- ---- two lists

join : step 8 two (ExtendVob 0 1) ≡ outcome done (first (codes "101110"))
join = refl

join-itself : step 8 two (ExtendVob 0 0) ≡ outcome skipped two
join-itself = refl

and : step 8 two (And 0 1) ≡ outcome (flag true) (first (codes "100"))
and = refl

or : step 8 two (Or 0 1) ≡ outcome (flag true) (first (codes "111"))
or = refl

xor : step 8 two (Xor 0 1) ≡ outcome (flag true) (first (codes "011"))
xor = refl

andnew : step 8 two (AndNew 0 1) ≡ outcome (made 2) (third (codes "100"))
andnew = refl

ornew : step 8 two (OrNew 0 1) ≡ outcome (made 2) (third (codes "111"))
ornew = refl

xornew : step 8 two (XorNew 0 1) ≡ outcome (made 2) (third (codes "011"))
xornew = refl

equal : step 8 two (Equal 0 1) ≡ outcome (flag false) two
equal = refl

equal-past_the_lists : step 8 two (Equal 0 2) ≡ outcome skipped two
equal-past_the_lists = refl

-- ---- three calls one after another

abbrev calls : List Call
calls = FromSlice (bits (codes "101")) ∷ Push 0 true ∷ Bits 0 ∷ []

abbrev replies : List Answer
replies = made 0 ∷ done ∷ bit_list (bits (codes "1011")) ∷ []

run-of_three : IsRun 8 [] calls replies (bits (codes "1011") ∷ [])
run-of_three = (
  bits (codes "101") ∷ [],
  inl refl,
  (
    bits (codes "1011") ∷ [],
    inl refl,
    (bits (codes "1011") ∷ [], inl refl, refl),
  ),
)

step_answers-of_three : step_answers 8 [] calls ≡ replies
step_answers-of_three = refl

step_lists-of_three : step_lists 8 [] calls ≡ bits (codes "1011") ∷ []
step_lists-of_three = refl

-- no reply is missing
not_a_run-short : (after : List (List Bool)) → IsRun 8 [] calls (made 0 ∷ done ∷ []) after → ⊥
not_a_run-short after run = run.2.2

-- ---- a refusal for memory

abbrev eight : List Bool
eight = bits (codes "10110111")

-- the ninth bit takes a second block
refused-ninth_bit : IsStep 8 (eight ∷ []) (Push 0 true) (refused 2) (eight ∷ [])
unfolding need
refused-ninth_bit = inr ((lit< tt, (λ e. cc), (λ e. cc), (λ e. cc)), refl, refl)

-- a fourth bit stands in the first block
not_refused-fourth_bit : IsStep 8 two (Push 0 true) (refused 2) two → ⊥
unfolding need
not_refused-fourth_bit (inl is) = let told : done ≡ refused 2 = ap (λ o. o.answer) is in cc
not_refused-fourth_bit (inr refusal) = omega (arith, refusal.0.0)
