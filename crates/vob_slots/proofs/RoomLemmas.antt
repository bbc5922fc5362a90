-- Where rows of free slots begin, as slots are taken and given back.
use Rattle.std.proofs.Common.{◌≡◌, ◌≢◌, ◌⊎◌, ℕ, ◌+◌, ◌-◌, ◌<◌, ◌≤◌, Bool, true, false, List, ◌++◌, cond, replicate, length, Option, None, Some, refl, sym, ap, ◌∙◌, arith, inl, inr}
use Rattle.std.specs.Option.{unwrap_or}
use Rattle.std.proofs.lemmas.Bool.{cases_Bool, cases_eq, cases_lt, false≢true, false_from_ne_true}
use Rattle.std.specs.declared.ops.Bound.TheVariants.{Included, Excluded}
use Rattle.std.proofs.lemmas.List.{get_or_append_left}
use Rattle.std.proofs.lemmas.List.Folds.{sum_by-replicate}
use Rattle.std.proofs.lemmas.List.Sums.{sum_by-append}
use Rattle.vob_block.specs.Packing.{item}
use Rattle.vob_block.specs.Pointwise.{differ}
use Rattle.vob_walk.specs.Runs.{IsFirstFrom}
use Rattle.vob_walk.specs.Matches.{has_value}
use Rattle.vob.specs.Bits.{IsWritten, count_of}
use Rattle.vob.specs.Ranges.{IsChangedWithin}
use Rattle.vob.specs.Room.{HasNoRoom, IsFirstRoom, IsRoom}
use Rattle.vob.specs.Sets.{IsNext}
use Rattle.vob_block.proofs.PackingLemmas.{true_inside}
use Rattle.vob.proofs.RangeLemmas.{range_true}

module _ (n room : ℕ) (bits after : List Bool) (rooms : (j : ℕ) → IsRoom n bits j → room ≤ j) where
  -- slots are taken, and none is given back
  pub rooms_keep : length after ≡ length bits → ((i : ℕ) → item after i ≡ false → item bits i ≡ false) →
      (j : ℕ) → IsRoom n after j → room ≤ j
  rooms_keep len fewer j there = rooms j record {
    inside = omega (arith, there.inside, len);
    unset = λ i above below. fewer i (there.unset i above below);
  }

  -- those below a slot stay
  pub rooms_lower : (low least : ℕ) → low ≤ length bits → ((i : ℕ) → i < low → item after i ≡ item bits i) →
      least ≤ room → least ≤ low - n → (j : ℕ) → IsRoom n after j → least ≤ j
  rooms_lower low least inside same less lower j there = elim (cases_lt low (j + n)) [
    | inl past ↦ omega (arith, past, lower)
    | inr before ↦
        let old = rooms j record {
          inside = omega (arith, before, inside);
          unset = λ i above below. sym (same i (omega (arith, below, before))) ∙ there.unset i above below;
        } in
        omega (arith, old, less)
  ]

-- free slots are put behind the others
module _ (bits after : List Bool) (more : ℕ) (is : after ≡ bits ++ replicate more false) where
  pub grown_same : (i : ℕ) → i < length bits → item after i ≡ item bits i
  grown_same i less = ap (λ l. item l i) is ∙ get_or_append_left bits (replicate more false) false i less

  pub grown_count : count_of false after ≡ count_of false bits + more
  grown_count =
      let one : Bool → ℕ = λ b. cond (has_value false b) 1 0 in
      omega (
        arith,
        ap (count_of false) is,
        sum_by-append one bits (replicate more false),
        sum_by-replicate one more false,
      )

-- rooms for more slots begin no lower
pub rooms_wide : (few count room : ℕ) (bits : List Bool) → few ≤ count → ((j : ℕ) → IsRoom few bits j → room ≤ j) →
    (j : ℕ) → IsRoom count bits j → room ≤ j
rooms_wide few count room bits less rooms j there = rooms j record {
  inside = omega (arith, there.inside, less);
  unset = λ i above below. there.unset i above (omega (arith, below, less));
}

-- none begins below the first free slot, and none at all if there is no such slot
pub rooms_next : (n : ℕ) (bits : List Bool) (answer : Option ℕ) → 0 < n → IsNext false bits 0 answer →
    (j : ℕ) → IsRoom n bits j → unwrap_or answer (length bits) ≤ j
rooms_next n bits None some next j there =
    absurd (next.none.0 refl j (omega arith) (omega (arith, there.inside, some))
    (there.unset j (omega arith) (omega (arith, some))))
rooms_next n bits (Some first) some next j there = elim (cases_lt j first) [
  | inl less ↦
      absurd (((next.some first).0 refl).between j (omega arith) less (there.unset j (omega arith) (omega (arith, some))))
  | inr past ↦ past
]

-- one slot is taken
pub rooms_taken : (n room slot : ℕ) (bits after : List Bool) → ((j : ℕ) → IsRoom n bits j → room ≤ j) →
    IsWritten bits slot true after → (j : ℕ) → IsRoom n after j → room ≤ j
rooms_taken n room slot bits after rooms w = rooms_keep n room bits after rooms w.len (λ i off. elim (cases_eq i slot) [
  | inl here ↦ absurd (false≢true (sym off ∙ ap (item after) here ∙ w.there))
  | inr apart ↦ sym (w.others i apart) ∙ off
])

-- a bit that was set, and so was unset
pub was_free : (b : Bool) → differ b true ≡ true → b ≡ false
was_free true is = absurd (false≢true is)
was_free false is = refl

-- ---- the free slots from a first one on, up to the next that is taken or to the last

module _ (bits : List Bool) (at start : ℕ) (first : IsFirstFrom false bits at start) where
  pub record EndsAt (end : ℕ) : Type 0 where
    pub above : start < end
    pub inside : end ≤ length bits
    pub free : (i : ℕ) → start ≤ i → i < end → item bits i ≡ false
    pub stops : (end ≡ length bits) ⊎ (item bits end ≡ true)

  off : (i : ℕ) → item bits i ≢ true → item bits i ≡ false
  off i none = false_from_ne_true (item bits i) none

  pub ends_at : (answer : Option ℕ) → IsNext true bits start answer → EndsAt (unwrap_or answer (length bits))
  ends_at None next = record {
    above = first.inside;
    inside = omega arith;
    free = λ i above below. off i (next.none.0 refl i above below);
    stops = inl refl;
  }
  ends_at (Some end) next =
      let found = (next.some end).0 refl in record {
        above = elim (cases_lt start end) [
          | inl less ↦ less
          | inr past ↦
              let same : start ≡ end = omega (arith, past, found.above) in
              absurd (false≢true (sym first.there ∙ ap (item bits) same ∙ found.there))
        ];
        inside = omega (arith, found.inside);
        free = λ i above below. off i (found.between i above below);
        stops = inr found.there;
      }

  module _ (n : ℕ) (some : 0 < n) (below : (j : ℕ) → IsRoom n bits j → at ≤ j) where
    pub begins : (j : ℕ) → IsRoom n bits j → start ≤ j
    begins j there = elim (cases_lt j start) [
      | inl less ↦ absurd (first.between j (below j there) less (there.unset j (omega arith) (omega (arith, some))))
      | inr past ↦ past
    ]

    -- they are a room if they are enough, and else none begins before their end
    pub enough : (end : ℕ) → EndsAt end → n ≤ end - start → IsFirstRoom n bits start
    enough end ends most = record {
      there = record {
        inside = omega (arith, most, ends.above, ends.inside);
        unset = λ i above low. ends.free i above (omega (arith, low, most, ends.above));
      };
      least = begins;
    }

    pub too_few : (end : ℕ) → EndsAt end → end - start < n → (j : ℕ) → IsRoom n bits j → end ≤ j
    too_few end ends few j there = elim (cases_lt j end) [
      | inl less ↦ elim ends.stops [
        | inl last ↦ absurd (omega (arith, there.inside, begins j there, few, last, ends.above))
        | inr taken ↦ absurd (false≢true (sym (there.unset end (omega (arith, less))
            (omega (arith, begins j there, few, ends.above))) ∙ taken))
      ]
      | inr past ↦ past
    ]

-- the first room is taken, and so none begins before its end
pub rooms_behind : (n start : ℕ) (bits after : List Bool) → 0 < n → IsFirstRoom n bits start →
    IsChangedWithin (λ _. true) (Included start) (Excluded (start + n)) bits after →
    (j : ℕ) → IsRoom n after j → start + n ≤ j
rooms_behind n start bits after some first changed j there = elim (cases_lt j (start + n)) [
  | inl less ↦
      let above = rooms_keep n start bits after first.least changed.len (λ i off. elim (cases_Bool (item bits i)) [
        | inl on ↦ absurd (false≢true (sym off ∙ (range_true bits after i changed (true_inside bits i on)).1 (inl on)))
        | inr unset ↦ unset
      ]) j there in
      absurd (false≢true (sym (there.unset j (omega arith) (omega (arith, some)))
      ∙ (range_true bits after j changed (omega (arith, there.inside, some, changed.len))).1 (inr (above, less))))
  | inr past ↦ past
]

pub no_room : (n : ℕ) (bits : List Bool) (at : ℕ) → 0 < n → ((j : ℕ) → IsRoom n bits j → at ≤ j) →
    ((i : ℕ) → at ≤ i → i < length bits → item bits i ≢ false) → HasNoRoom n bits
no_room n bits at some below none = record {
  none = λ j there. none j (below j there) (omega (arith, there.inside, some))
      (there.unset j (omega arith) (omega (arith, some)));
}
