-- Values of what walks are defined by, worked out by hand and then by computation.
use Rattle.std.specs.Prelude.{codes, reverse}
use Rattle.std.specs.declared.ops.Bound.TheVariants.{Included, Excluded, Unbounded}
use Rattle.std.proofs.Common.{◌≡◌, ℕ, ◌-◌, ◌^◌, Bool, true, false, List, [], ◌∷◌, Option, Some, None, refl}
use Rattle.vob.specs.Drain.{bits_where, IsDrained}
use Rattle.vob_walk.specs.declared.walk.End.{End}
use Rattle.vob_walk.specs.declared.walk.End.TheVariants.{Front, Back}
use Rattle.vob_walk.specs.Matches.{within, matches, blocks_met}
use Rattle.vob_walk.specs.Walk.{end_item, without_end, answers, left_after, given_count}
use Rattle.vob_walk.specs.Once.{given_at}
use Rattle.walk_tests.proofs.WorkedBits.{bits}

abbrev greatest : ℕ
greatest = 2 ^ 64 - 1

abbrev ten : List Bool
ten = bits (codes "1011011101")

-- ---- whether an index is in a range

within-included_start : within (Included 2) (Excluded 5) 2 ≡ true
within-included_start = refl

within-excluded_end : within (Included 2) (Excluded 5) 5 ≡ false
within-excluded_end = refl

within-excluded_start : within (Excluded 2) (Included 5) 2 ≡ false
within-excluded_start = refl

within-included_end : within (Excluded 2) (Included 5) 5 ≡ true
within-included_end = refl

within-unbounded : within Unbounded Unbounded greatest ≡ true
within-unbounded = refl

within-greatest : within (Included greatest) (Included greatest) greatest ≡ true
within-greatest = refl

within-reversed : within (Included 3) (Excluded 1) 2 ≡ false
within-reversed = refl

-- ---- the indices that match

matches-set : matches ten true Unbounded Unbounded ≡ 0 ∷ 2 ∷ 3 ∷ 5 ∷ 6 ∷ 7 ∷ 9 ∷ []
unfolding matches
matches-set = refl

matches-unset : matches ten false Unbounded Unbounded ≡ 1 ∷ 4 ∷ 8 ∷ []
unfolding matches
matches-unset = refl

matches-2-to-7 : matches ten true (Included 2) (Excluded 7) ≡ 2 ∷ 3 ∷ 5 ∷ 6 ∷ []
unfolding matches
matches-2-to-7 = refl

-- bits past the last one match neither value
matches-above-7 : matches ten false (Excluded 7) (Included greatest) ≡ 8 ∷ []
unfolding matches
matches-above-7 = refl

matches-above-greatest : matches (bits (codes "101")) true (Excluded greatest) Unbounded ≡ []
unfolding matches
matches-above-greatest = refl

matches-3-to-1 : matches (bits (codes "101")) false (Included 3) (Excluded 1) ≡ []
unfolding matches
matches-3-to-1 = refl

-- ---- pulls in turn at both ends

abbrev in_turn : List End
in_turn = Front ∷ Back ∷ Front ∷ Back ∷ Front ∷ Back ∷ Front ∷ Back ∷ []

abbrev dealt : List (Option ℕ)
dealt = Some 0 ∷ Some 9 ∷ Some 2 ∷ Some 7 ∷ Some 3 ∷ Some 6 ∷ Some 5 ∷ None ∷ []

answers-in_turn : answers (0 ∷ 2 ∷ 3 ∷ 5 ∷ 6 ∷ 7 ∷ 9 ∷ []) in_turn ≡ dealt
unfolding end_item without_end answers
answers-in_turn = refl

answers-none : answers [] (Back ∷ Front ∷ []) ≡ None ∷ None ∷ []
unfolding end_item without_end answers
answers-none = refl

left-after_three : left_after (0 ∷ 2 ∷ 3 ∷ 5 ∷ 6 ∷ 7 ∷ 9 ∷ []) (Front ∷ Back ∷ Back ∷ [])
    ≡ 2 ∷ 3 ∷ 5 ∷ 6 ∷ []
unfolding without_end left_after
left-after_three = refl

given_count-in_turn : given_count dealt ≡ 7
unfolding given_count
given_count-in_turn = refl

given-at_the_front : given_at Front in_turn dealt ≡ 0 ∷ 2 ∷ 3 ∷ 5 ∷ []
unfolding given_at
given-at_the_front = refl

given-at_the_back : reverse (given_at Back in_turn dealt) ≡ 6 ∷ 7 ∷ 9 ∷ []
unfolding given_at
given-at_the_back = refl

-- ---- blocks that hold an index of a range

met-24 : blocks_met Unbounded Unbounded 24 8 ≡ 3
unfolding blocks_met
met-24 = refl

met-25 : blocks_met Unbounded Unbounded 25 8 ≡ 4
unfolding blocks_met
met-25 = refl

met-8-to-16 : blocks_met (Included 8) (Excluded 16) 24 8 ≡ 1
unfolding blocks_met
met-8-to-16 = refl

met-7-to-16 : blocks_met (Included 7) (Included 16) 24 8 ≡ 3
unfolding blocks_met
met-7-to-16 = refl

met-past_the_length : blocks_met (Included 24) Unbounded 24 8 ≡ 0
unfolding blocks_met
met-past_the_length = refl

met-reversed : blocks_met (Included 9) (Excluded 3) 24 8 ≡ 0
unfolding blocks_met
met-reversed = refl

-- ---- a range taken out

drained-2-to-5 : IsDrained (Included 2) (Excluded 5) ten (bits (codes "110")) (bits (codes "1011101"))
unfolding bits_where
drained-2-to-5 = record { given = refl; left = refl }

-- not the parts exchanged
not_drained-exchanged : IsDrained (Included 2) (Excluded 5) ten (bits (codes "1011101")) (bits (codes "110"))
    → ⊥
unfolding bits_where
not_drained-exchanged h = cc (h.given)
