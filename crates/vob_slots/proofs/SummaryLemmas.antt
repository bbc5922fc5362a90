-- Summaries of bits: how they change, and where they lead.
use Rattle.std.proofs.Common.{◌≡◌, ◌↔◌, ◌⊎◌, ℕ, ◌+◌, ◌-◌, ◌*◌, ◌/◌, ◌<◌, ◌≤◌, Bool, true, false, List, ◌++◌, length, take, replicate, nat_le, nat_lt, leb-true, ltb-true, Option, None, Some, refl, sym, ap, ◌∙◌, subst, arith, inl, inr}
use Rattle.std.specs.Int.{div_ceil}
use Rattle.std.specs.Option.{IfSome, option_map, unwrap_or}
use Rattle.std.specs.declared.ops.Bound.TheVariants.{Excluded, Included}
use Rattle.std.proofs.lemmas.Bool.{and_parts, cases_eq, cases_lt, false≢true, false_from_ne_true, true_from_ne_false}
use Rattle.std.proofs.lemmas.List.{get_or-replicate, get_or_append_left, length-append, length-replicate, take_all}
use Rattle.std.proofs.lemmas.Option.{none-some}
use Rattle.vob_block.specs.Packing.{bit_at, item, need, packing, unpacking}
use Rattle.vob_block.proofs.PackingLemmas.{bit_at-packing, length-packing, unpacking_from_items}
use Rattle.vob_block.proofs.NeedLemmas.{need-is-div_ceil}
use Rattle.vob_walk.specs.Matches.{within}
use Rattle.vob_walk.specs.Next.{HasNoBit, IsFirstBit}
use Rattle.vob_walk.specs.Runs.{IsFirstFrom}
use Rattle.vob.specs.Bits.{IsWritten}
use Rattle.vob.specs.Sets.{IsNext}
use Rattle.vob_slots.specs.Summaries.{IsFull, IsSummary, IsSummaryBut, words}

-- ---- words and ranges

pub words_need : (n : ℕ) → need n 64 ≡ words n
unfolding need
words_need n = refl

pub words_is : (n : ℕ) → div_ceil n 64 ≡ words n
words_is n = need-is-div_ceil 64 (omega arith) n 64 refl ∙ words_need n

pub outside_range : (start end i : ℕ) → 0 < end → (i < start) ⊎ (end - 1 < i) →
    within (Included start) (Excluded end) i ≡ false
outside_range start end i some side = false_from_ne_true (within (Included start) (Excluded end) i) (λ on.
    let both = and_parts (nat_le start i) (nat_lt i end) on in elim side [
      | inl low ↦ omega (arith, low, leb-true start i both.0)
      | inr past ↦ omega (arith, past, some, ltb-true i end both.1)
    ])

module _ (bits : List Bool) (blocks : List ℕ) (is : blocks ≡ packing bits 64) where
  bit_is : (i : ℕ) → bit_at blocks 64 i ≡ item bits i
  bit_is i = ap (λ xs. bit_at xs 64 i) is ∙ bit_at-packing 64 (omega arith) bits i

  pub unpacked : (n : ℕ) → n ≡ length bits → unpacking n blocks 64 ≡ bits
  unpacked n long = unpacking_from_items bits n blocks 64 (sym long) (λ i less. bit_is i)

  pub enough_for : (items : ℕ) → items ≡ length blocks → (end : ℕ) → end ≤ length bits → need end 64 ≤ items
  enough_for items count end le =
      omega (
        arith,
        count,
        ap length is,
        length-packing 64 (omega arith) bits,
        words_need end,
        words_need (length bits),
        le,
      )

  -- a word, or what there is of the last one
  module _ (w end : ℕ) (last : (i : ℕ) → i < length bits → i / 64 ≡ w → i < end) where
    pub full_by : HasNoBit 64 blocks false (w * 64) end → IsFull bits w
    full_by none i less at =
        true_from_ne_false (item bits i)
        (λ off. none i (omega (arith, at)) (last i less at) (bit_is i ∙ off))

    pub not_full_by : end ≤ length bits → end ≤ w * 64 + 64 → (i : ℕ) →
        IsFirstBit 64 blocks false (w * 64) end i → ¬ IsFull bits w
    not_full_by inside least i first all =
        let on = all i (omega (arith, first.below, inside)) (omega (arith, first.above, first.below, least)) in
        false≢true (sym (sym (bit_is i) ∙ first.there) ∙ on)

module _ (bits after : List Bool) (n : ℕ) (le : length bits ≤ n)
    (is : after ≡ take n bits ++ replicate (n - length bits) false) where
  pub resized : after ≡ bits ++ replicate (n - length bits) false
  resized = is ∙ ap (λ l. l ++ replicate (n - length bits) false) (take_all n bits le)

  pub resized_long : length after ≡ n
  resized_long =
      let more = replicate (n - length bits) false in
      omega (arith, ap length resized, length-append bits more, length-replicate (n - length bits) false, le)

  pub resized_same : (i : ℕ) → i < length bits → item after i ≡ item bits i
  resized_same i less =
      ap (λ l. item l i) resized ∙ get_or_append_left bits (replicate (n - length bits) false) false i less

-- ---- words that are brought up to date

pub summary_but : (bits full : List Bool) → IsSummary bits full → (from to : ℕ) → IsSummaryBut from to bits full
summary_but bits full h from to =
    record { long = h.long; each = λ w less side. h.each w less (inr (omega arith)) }

module _ (from to : ℕ) (bits full : List Bool) (h : IsSummaryBut from to bits full) where
  pub summary_weaker : (low high : ℕ) → low ≤ from → to ≤ high → IsSummaryBut low high bits full
  summary_weaker low high below above = record {
    long = h.long;
    each = λ w less side. h.each w less (elim side [
      | inl before ↦ inl (omega (arith, before, below))
      | inr past ↦ inr (omega (arith, past, above))
    ]);
  }

  -- where none is left
  pub summary_whole : to ≤ from → IsSummary bits full
  summary_whole none = record {
    long = h.long;
    each = λ w less side. h.each w less (elim (cases_lt w from) [
      | inl before ↦ inl before
      | inr past ↦ inr (omega (arith, past, none))
    ]);
  }

  -- one word more
  pub summary_more : (value : Bool) → ((value ≡ true) ↔ IsFull bits from) → (after : List Bool) →
      IsWritten full from value after → IsSummaryBut (from + 1) to bits after
  summary_more value is after written = record {
    long = written.len ∙ h.long;
    each = λ w less side. elim (cases_eq w from) [
      | inl here ↦
          let at = ap (item after) here ∙ written.there in (
            (λ on. subst (λ (v : ℕ). IsFull bits v) (sym here) (is.0 (sym at ∙ on))),
            (λ all. at ∙ is.1 (subst (λ (v : ℕ). IsFull bits v) here all)),
          )
      | inr apart ↦
          let old = h.each w (omega (arith, less, written.len)) (elim side [
            | inl before ↦ inl (omega (arith, before, apart))
            | inr past ↦ inr past
          ]) in
          let same = written.others w apart in
          ((λ on. old.0 (sym same ∙ on)), (λ all. same ∙ old.1 all))
    ];
  }

-- ---- bits that change

-- those of the words from one to another change
pub summary_changed : (start last : ℕ) (bits after full : List Bool) → length after ≡ length bits →
    ((i : ℕ) → (i < start) ⊎ (last < i) → item after i ≡ item bits i) →
    IsSummaryBut (start / 64) (last / 64 + 1) bits full → IsSummaryBut (start / 64) (last / 64 + 1) after full
summary_changed start last bits after full len same h = record {
  long = h.long ∙ ap words (sym len);
  each = λ w less side.
      let old = h.each w less side in
      let out : (i : ℕ) → i / 64 ≡ w → (i < start) ⊎ (last < i) = λ i at. elim side [
        | inl before ↦ inl (omega (arith, at, before))
        | inr past ↦ inr (omega (arith, at, past))
      ] in (
        (λ on i inside at. same i (out i at) ∙ old.0 on i (omega (arith, inside, len)) at),
        (λ all. old.1 (λ i inside at. sym (same i (out i at)) ∙ all i (omega (arith, inside, len)) at)),
      );
}

-- more bits come behind them
pub summary_grown : (bits after full more : List Bool) → length bits ≤ length after →
    ((i : ℕ) → i < length bits → item after i ≡ item bits i) → length more ≡ words (length after) →
    ((w : ℕ) → w < length full → item more w ≡ item full w) → IsSummary bits full → (from to : ℕ) →
    from ≤ length bits / 64 → length more ≤ to → IsSummaryBut from to after more
summary_grown bits after full more le same long kept h from to low high = record {
  long = long;
  each = λ w less side. elim side [
    | inl before ↦
        let inside : w < length full = omega (arith, before, low, h.long) in
        let old = h.each w inside (inr (omega arith)) in
        let within : (i : ℕ) → i / 64 ≡ w → i < length bits = λ i at. omega (arith, at, before, low) in (
          (λ on i less at. same i (within i at) ∙ old.0 (sym (kept w inside) ∙ on) i (within i at) at),
          (λ all. kept w inside ∙ old.1 (λ i less at. sym (same i less) ∙ all i (omega (arith, less, le)) at)),
        )
    | inr past ↦ absurd (omega (arith, less, past, high))
  ];
}

-- no bit is set
pub summary_none : (n m : ℕ) → m ≡ words n → IsSummary (replicate n false) (replicate m false)
summary_none n m is =
    let none : (k i : ℕ) → i < k → item (replicate k false) i ≡ false =
    λ k i less. get_or-replicate k i false false less in record {
      long = length-replicate m false ∙ is ∙ ap words (sym (length-replicate n false));
      each = λ w less side.
          let low : w < m = omega (arith, less, length-replicate m false) in
          let first : w * 64 < n = omega (arith, low, is) in
          let there : w * 64 < length (replicate n false) = omega (arith, first, length-replicate n false) in (
            (λ on. absurd (false≢true (sym (none m w low) ∙ on))),
            (λ all. absurd (false≢true (sym (none n (w * 64) first) ∙ all (w * 64) there (omega arith)))),
          );
    }

-- ---- the first unset bit

pub next_below : (bits : List Bool) (answer : Option ℕ) (most : ℕ) → IsNext false bits 0 answer → length bits ≤ most →
    IfSome answer (λ i. i < most)
next_below bits None most next le = tt
next_below bits (Some i) most next le = omega (arith, ((next.some i).0 refl).inside, le)

module _ (bits full : List Bool) (h : IsSummary bits full) where
  -- bits of the words below a first one with an unset bit
  below_word : (w : ℕ) → IsFirstFrom false full 0 w → (i : ℕ) → i < w * 64 → i < length bits →
      item bits i ≡ true
  below_word w first i less inside =
      let v = i / 64 in
      let low : v < w = omega (arith, less) in
      let on = true_from_ne_false (item full v) (first.between v (omega arith) low) in
      (h.each v (omega (arith, low, first.inside)) (inr (omega arith))).0 on i inside refl

  pub next_by_word : (w : ℕ) → IsNext false full 0 (Some w) → (answer : Option ℕ) →
      IsNext false bits (w * 64) answer → IsNext false bits 0 answer
  next_by_word w group answer next =
      let below = below_word w ((group.some w).0 refl) in record {
        some = λ i. (
          (λ e.
              let found = (next.some i).0 e in record {
                above = omega arith;
                inside = found.inside;
                there = found.there;
                between = λ j above less off. elim (cases_lt j (w * 64)) [
                  | inl low ↦
                      false≢true (sym off ∙ below j low (omega (arith, less, found.inside)))
                  | inr past ↦ found.between j past less off
                ];
              }),
          (λ found. (next.some i).1 record {
            above = elim (cases_lt i (w * 64)) [
              | inl low ↦ absurd (false≢true (sym found.there ∙ below i low found.inside))
              | inr past ↦ past
            ];
            inside = found.inside;
            there = found.there;
            between = λ j above less. found.between j (omega arith) less;
          }),
        );
        none = (
          (λ e i above inside off. elim (cases_lt i (w * 64)) [
            | inl low ↦ false≢true (sym off ∙ below i low inside)
            | inr past ↦ next.none.0 e i past inside off
          ]),
          (λ all. next.none.1 (λ i above inside. all i (omega arith) inside)),
        );
      }

  -- none at all
  pub next_by_none : IsNext false full 0 None → IsNext false bits 0 None
  next_by_none group =
      let all : (i : ℕ) → i < length bits → item bits i ≡ true = λ i inside.
      let v = i / 64 in
      let low : v < length full = omega (arith, inside, h.long) in
      let on = true_from_ne_false (item full v) (group.none.0 refl v (omega arith) low) in
      (h.each v low (inr (omega arith))).0 on i inside refl in record {
        some = λ i. (
          (λ e. absurd (none-some i e)),
          (λ found. absurd (false≢true (sym found.there ∙ all i found.inside))),
        );
        none = ((λ e i above inside off. false≢true (sym off ∙ all i inside)), (λ none. refl));
      }

  -- a word that isn't full has an unset bit
  module _ (w : ℕ) (less : w < length full) (unset : item full w ≡ false) where
    not_full : ¬ IsFull bits w
    not_full all = false≢true (sym unset ∙ (h.each w less (inr (omega arith))).1 all)

    found_in_word : (i : ℕ) → IsFirstFrom false bits (w * 64) i → i / 64 ≡ w
    found_in_word i first = elim (cases_lt w (i / 64)) [
      | inl past ↦ absurd (not_full (λ j inside at.
          true_from_ne_false (item bits j) (first.between j (omega (arith, at)) (omega (arith, at, past)))))
      | inr le ↦ omega (arith, le, first.above)
    ]

    found_somewhere : IsNext false bits (w * 64) None → ⊥
    found_somewhere none =
        not_full (λ j inside at. true_from_ne_false (item bits j) (none.none.0 refl j (omega (arith, at)) inside))

    -- and so one block is read for it
    pub read_one : (answer : Option ℕ) → IsNext false bits (w * 64) answer → (most : ℕ) →
        unwrap_or (option_map (λ i. i / 64 + 1) answer) most - w * 64 / 64 ≤ 1
    read_one None next most = absurd (found_somewhere next)
    read_one (Some i) next most = omega (arith, found_in_word i ((next.some i).0 refl))
