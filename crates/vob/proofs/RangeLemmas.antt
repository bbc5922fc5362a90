-- What becomes of a list of bits whose blocks are changed from one index to below another.
use Rattle.std.specs.declared.ops.Bound.{Bound}
use Rattle.std.specs.declared.ops.Bound.TheVariants.{Included, Excluded}
use Rattle.std.proofs.Common.{◌≡◌, ◌↔◌, ◌⊎◌, ℕ, ◌+◌, ◌-◌, ◌<◌, ◌≤◌, nat_le, nat_lt, Bool, true, false, List}
use Rattle.std.proofs.Common.{[], ◌∷◌, ◌++◌, length, map, take, drop, replicate, refl, sym, ap, ◌∙◌}
use Rattle.std.proofs.Common.{subst, arith, inl, inr, length-append}
use Rattle.std.proofs.lemmas.Bool.{cases_lt, and_left, and_right, and_from, and_parts, lt-leb, le-leb, lt-ltb, le-ltb, ltb-true, leb-true, false≢true}
use Rattle.std.proofs.lemmas.List.{ext_get_or, length-take-le, length-drop, length-map, get_or-take}
use Rattle.std.proofs.lemmas.List.{get_or-drop, get_or-map, get_or_append_left, get_or-append_right}
use Rattle.vob_block.specs.Packing.{item, unpacking, IsCanonical}
use Rattle.vob_block.proofs.PackingLemmas.{length-unpacking, bit_at-is_item}
use Rattle.vob_store.specs.Range.{IsRanged}
use Rattle.vob_walk.specs.Matches.{within, ForSomeRange, IsRangeOf}
use Rattle.vob_walk.proofs.MatchesLemmas.{there, within-there, within-before, within-behind}
use Rattle.vob.specs.Ranges.{replaced, IsChangedWithin}

-- changed blocks hold the list changed
pub IsChangedWithin-ranged : (w : ℕ) → 0 < w → {f : Bool → Bool} {low high : Bound ℕ}
    {n start stop : ℕ} {xs ys : List ℕ} → IsCanonical n xs w → IsCanonical n ys w
    → IsRanged w f start stop xs ys → IsRangeOf low high n start stop
    → IsChangedWithin f low high (unpacking n xs w) (unpacking n ys w)
IsChangedWithin-ranged w wide {f} {low} {high} {n} {start} {stop} {xs} {ys} g h ranged range =
    let before = bit_at-is_item w wide n xs g in
    let after = bit_at-is_item w wide n ys h in
    record {
      len = length-unpacking n ys w ∙ sym (length-unpacking n xs w);
      inside = λ i less holds.
          let at = there range i (omega (arith, less, length-unpacking n xs w)) holds in
          sym (after i) ∙ ranged.inside i at.0 at.1 ∙ ap f (before i);
      outside = λ i none. sym (after i) ∙ elim (cases_lt i start) [
        | inl front ↦ ranged.below i front
        | inr past ↦ elim (cases_lt i stop) [
          | inl less ↦ absurd (false≢true (sym none
              ∙ within-there range i (omega (arith, less, range.inside)) past less))
          | inr behind ↦ ranged.above i behind
        ]
      ] ∙ before i;
    }

-- a bit is true if it was, or if its index is in a range whose bits are set
pub range_true : {start stop : ℕ} (bits after : List Bool) (i : ℕ)
    → IsChangedWithin (λ _. true) (Included start) (Excluded stop) bits after → i < length bits
    → (item after i ≡ true) ↔ ((item bits i ≡ true) ⊎ ((start ≤ i) × (i < stop)))
range_true {start} {stop} bits after i set below = elim (cases_lt i start) [
  | inl before ↦ kept (and_left (nat_le start i) (nat_lt i stop) (lt-leb start i before))
      (λ both. omega (arith, before, both.0))
  | inr above ↦ elim (cases_lt i stop) [
    | inl less ↦
        let here = and_from (nat_le start i) (nat_lt i stop) (le-leb start i above) (lt-ltb i stop less)
        in ((λ _. inr (above, less)), (λ _. set.inside i below here))
    | inr past ↦ kept (and_right (nat_le start i) (nat_lt i stop) (le-ltb i stop past))
        (λ both. omega (arith, past, both.1))
  ]
]
  where
    kept : within (Included start) (Excluded stop) i ≡ false → ((start ≤ i) × (i < stop) → ⊥)
        → (item after i ≡ true) ↔ ((item bits i ≡ true) ⊎ ((start ≤ i) × (i < stop)))
    kept out none = (
      (λ there. inl (sym (set.outside i out) ∙ there)),
      (λ either. elim either [
        | inl there ↦ set.outside i out ∙ there
        | inr both ↦ absurd (none both)
      ]),
    )

-- and that list is what stands before the range, the range changed, and what stands behind it
pub IsChangedWithin-parts : {f : Bool → Bool} {low high : Bound ℕ} {bits after : List Bool}
    → IsChangedWithin f low high bits after → (start stop : ℕ)
    → IsRangeOf low high (length bits) start stop
    → after ≡ replaced start stop (map f (take (stop - start) (drop start bits))) bits
IsChangedWithin-parts {f} {low} {high} {bits} {after} changed start stop range =
    let own = drop start bits in
    let middle = take (stop - start) own in
    let rest = map f middle ++ drop stop bits in
    let order = range.order in
    let fits = range.inside in
    let first : length (take start bits) ≡ start = length-take-le start bits (omega arith) in
    let some : length middle ≡ stop - start =
    length-take-le (stop - start) own (omega (arith, length-drop start bits)) in
    let turned : length (map f middle) ≡ stop - start = length-map middle f ∙ some in
    ext_get_or false after (take start bits ++ rest) (omega (
      arith,
      changed.len,
      length-append (take start bits) rest,
      length-append (map f middle) (drop stop bits),
      first,
      turned,
      length-drop stop bits,
    )) (λ i inside.
    let less : i < length bits = omega (arith, inside, changed.len) in
    elim (cases_lt i start) [
      | inl front ↦ changed.outside i (within-before range i less front)
          ∙ sym (get_or-take start bits i false front)
          ∙ sym (get_or_append_left (take start bits) rest false i (omega (arith, first, front)))
      | inr past ↦ elim (cases_lt i stop) [
        | inl here ↦
            let at : start + (i - start) ≡ i = omega (arith, past) in
            let within_middle : i - start < length middle = omega (arith, some, past, here) in
            changed.inside i less (within-there range i less past here)
            ∙ ap (λ k. f (item bits k)) (sym at)
            ∙ ap f (sym (get_or-drop start bits (i - start) false))
            ∙ ap f (sym (get_or-take (stop - start) own (i - start) false
            (omega (arith, past, here))))
            ∙ sym (get_or-map f middle (i - start) false false within_middle)
            ∙ sym (get_or_append_left (map f middle) (drop stop bits) false (i - start)
            (omega (arith, turned, past, here)))
            ∙ sym (get_or-append_right (take start bits) rest start i false first past)
        | inr behind ↦
            let at : stop + (i - start - (stop - start)) ≡ i = omega (arith, order, behind) in
            changed.outside i (within-behind range i less behind)
            ∙ ap (item bits) (sym at)
            ∙ sym (get_or-drop stop bits (i - start - (stop - start)) false)
            ∙ sym (get_or-append_right (map f middle) (drop stop bits) (stop - start) (i - start)
            false turned (omega (arith, order, behind)))
            ∙ sym (get_or-append_right (take start bits) rest start i false first past)
      ]
    ])

map-one : (value : Bool) (bits : List Bool) → map (λ _. value) bits ≡ replicate (length bits) value
map-one value [] = refl
map-one value (bit ∷ bits) = ap (λ bs. value ∷ bs) (map-one value bits)

pub IsChangedWithin-value : {value : Bool} {low high : Bound ℕ} {bits after : List Bool}
    → IsChangedWithin (λ _. value) low high bits after → (start stop : ℕ)
    → IsRangeOf low high (length bits) start stop
    → after ≡ replaced start stop (replicate (stop - start) value) bits
IsChangedWithin-value {value} {low} {high} {bits} changed start stop range =
    let order = range.order in
    let fits = range.inside in
    let middle = take (stop - start) (drop start bits) in
    let some : length middle ≡ stop - start =
    length-take-le (stop - start) (drop start bits) (omega (arith, length-drop start bits)) in
    IsChangedWithin-parts changed start stop range
    ∙ ap (λ bs. replaced start stop bs bits)
    (map-one value middle ∙ ap (λ n. replicate n value) some)

-- the same as the code lends the blocks and gets them back
module _ {X : Type 0} (number : X → ℕ) (w : ℕ) (wide : 0 < w) {low high : Bound ℕ} {n : ℕ}
    {items : List X} {bits : List Bool} (h : IsCanonical n (map number items) w)
    (view : unpacking n (map number items) w ≡ bits) {start stop : ℕ}
    (range : IsRangeOf low high n start stop) where
  pub changed_here : {f : Bool → Bool} {lent own left : List X} → lent ≡ items → left ≡ own
      → IsCanonical n (map number own) w
      → IsRanged w f start stop (map number lent) (map number own)
      → IsChangedWithin f low high bits (unpacking n (map number left) w)
  changed_here {f} {lent} {own} {left} lent_is left_is canonical ranged =
      let whole = IsChangedWithin-ranged w wide h canonical
      (subst (λ (xs : List X). IsRanged w f start stop (map number xs) (map number own)) lent_is
      ranged)
      range in
      subst (λ (bs : List Bool). IsChangedWithin f low high bs (unpacking n (map number left) w))
      view
      (subst (λ (xs : List X). IsChangedWithin f low high (unpacking n (map number items) w)
      (unpacking n (map number xs) w)) (sym left_is) whole)

-- a change of the bits from one index to below another is one of some range, and keeps the length
module _ {f : Bool → Bool} (start stop n : ℕ) {bits after : List Bool} (order : start ≤ stop)
    (inside : stop ≤ n) (len : length bits ≡ n)
    (h : IsChangedWithin f (Included start) (Excluded stop) bits after) where
  pub some_changed : ForSomeRange (length bits) (λ low high. IsChangedWithin f low high bits after)
  some_changed = (start, stop, order, omega (arith, inside, len), h)
