-- Two items of a list that is cut between them, and two Vobs of which one changes.
use Rattle.std.specs.Prelude.{Some, slice_get, ◌==◌, if◌then◌else◌}
use Rattle.std.proofs.Common.{◌≡◌, ◌-◌, ◌<◌, ◌≢◌, ◌↔◌, ℕ, List, ◌++◌, Bool, true, false, not}
use Rattle.std.proofs.Common.{Decides, Option, None, length, take, drop, set, get_or, ap, sym, refl}
use Rattle.std.proofs.Common.{◌∙◌, inl, inr, arith, length-append}
use Rattle.std.proofs.lemmas.List.{set-append_left, set-append_right, set_comm, set-get_or, take_at, length-set, get_or_append_left, get_or-append_right}
use Rattle.std.specs.Option.{option_map_or}
use Rattle.std.proofs.lemmas.Bool.{ne_eqb, eq-eqb, cases_lt}
use Rattle.std.proofs.lemmas.Option.{slice_get-get_or, get_or_from_slice_get}
use Rattle.vob.specs.Vob.{BitVector}
use Rattle.vob.specs.Same.{same_bits}
use Rattle.vob.proofs.SameLemmas.{same_bits_decides}
use Rattle.vob_block.specs.Pointwise.{pointwise}
use Rattle.vob_run.specs.declared.calls.pair.Connective.{Connective}
use Rattle.vob_run.specs.declared.calls.pair.Connective.TheVariants.{And, Or, Xor}
use Rattle.vob_run.specs.Answer.{Outcome, skipped}
use Rattle.vob_run.specs.Changes.{combined}
use Rattle.vob_run.specs.Memory.{TakesMemory}
use Rattle.vob_run.specs.Outcomes.{on_two, on_same_length, tells, makes}
use Rattle.vob_run.specs.Pairs.{operator, combining, combining_new}
use Rattle.vob_run.specs.Run.{lists}
use Rattle.vob_run.specs.Step.{step}
use Rattle.vob_run.proofs.StepLemmas.{IsLent, lent, list_at, no_list}

module _ {X : Type 0} (xs front back : List X) (i j : ℕ) (cut : xs ≡ front ++ back)
    (at : length front ≡ j) (lt : i < j) where
  pub front-part : (x : X) → x ≡ get_or front i x → slice_get xs i ≡ Some x
  front-part x read =
      let inside : i < length front = omega (arith, at, lt) in
      let within : i < length (front ++ back) = omega (arith, length-append front back, inside) in
      let item = get_or_append_left front back x i inside ∙ sym read in
      rw cut (slice_get-get_or (front ++ back) i x within ∙ ap Some item)

  pub back-part : (y : X) → j < length xs → y ≡ get_or back 0 y → slice_get xs j ≡ Some y
  back-part y inside read =
      let none : j - j ≡ 0 = omega arith in
      let behind = get_or-append_right front back j j y at (omega arith) in
      let item = ap (λ l. get_or l j y) cut ∙ behind ∙ ap (λ k. get_or back k y) none ∙ sym read in
      slice_get-get_or xs j y inside ∙ ap Some item

  pub set-parts : (x y : X) → set front i x ++ set back 0 y ≡ set (set xs i x) j y
  set-parts x y =
      let none : j - j ≡ 0 = omega arith in
      let inside : i < length front = omega (arith, at, lt) in
      let long = length-set front i x ∙ at in
      let first = ap (λ l. set l j y) (set-append_left front back i x inside) in
      let second = set-append_right (set front i x) back j j y long (omega arith) in
      sym (ap (λ l. set (set l i x) j y) cut ∙ first ∙ second
      ∙ ap (λ k. set front i x ++ set back k y) none)

-- the Vobs with two numbers, as they were lent
pub record AreLent (items : List BitVector) (which other : ℕ) (old more : BitVector)
    : Type 0 where
  pub different : which ≢ other
  pub first : IsLent items which old
  pub second : IsLent items other more

-- from two reads
pub both_lent : (items : List BitVector) (which other : ℕ) (old more : BitVector)
    → (which ≢ other) × (which < length items) × (other < length items)
    → old ≡ get_or items which old → more ≡ get_or items other more
    → AreLent items which other old more
both_lent items which other old more two first second =
    record {
      different = two.0;
      first = lent items which old two.1 first;
      second = lent items other more two.2 second;
    }

-- from the slice of a Vec
pub are_lent : (items slice : List BitVector) → slice ≡ items → {which other : ℕ}
    {old more : BitVector} → which ≢ other → slice_get slice which ≡ Some old
    → slice_get slice other ≡ Some more → AreLent items which other old more
are_lent items slice same {which} {other} different first second =
    record {
      different = different;
      first = record { there = ap (λ l. slice_get l which) (sym same) ∙ first };
      second = record { there = ap (λ l. slice_get l other) (sym same) ∙ second };
    }

-- the slice of a Vec, with the first of two items changed, is the Vec's items afterwards
pub lent_back : {items slice : List BitVector} {len which other : ℕ} {old more : BitVector}
    → AreLent items which other old more → slice ≡ items → len ≡ length items
    → (new : BitVector)
    → take len (set (set slice which new) other more
    ++ drop (length (set (set slice which new) other more)) items)
    ≡ set items which new
lent_back {items} {slice} {len} {which} {other} {old} {more} two same long new =
    let ws = set (set slice which new) other more in
    let read = ap (λ l. slice_get l other) same ∙ two.second.there in
    let kept : set slice other more ≡ slice =
    ap (set slice other) (sym (get_or_from_slice_get slice other more more read))
    ∙ set-get_or slice other more in
    let count : length ws ≡ len =
    length-set (set slice which new) other more ∙ length-set slice which new ∙ ap length same
    ∙ sym long in
    take_at ws (drop (length ws) items) len count
    ∙ set_comm slice which other new more two.different
    ∙ ap (λ l. set l which new) (kept ∙ same)

-- what a call says of two lists that are there
pub on_two-found : {items : List BitVector} {which other : ℕ} {old more : BitVector}
    → AreLent items which other old more → (f : List Bool → List Bool → Outcome)
    → on_two (lists items) which other f ≡ f old.bits more.bits
on_two-found {which = which} {other = other} two f =
    rw (ne_eqb which other two.different, list_at two.first, list_at two.second) refl

-- and where there aren't two
anyhow : (o : Outcome) (test : Bool) (found : Option (List Bool))
    → (if test then o else option_map_or (λ bits. o) found o) ≡ o
anyhow o true found = refl
anyhow o false None = refl
anyhow o false (Some bits) = refl

pub on_two-missing : (items : List BitVector) (which other : ℕ)
    → ((which ≢ other) × (which < length items) × (other < length items) → ⊥)
    → (f : List Bool → List Bool → Outcome)
    → on_two (lists items) which other f ≡ tells (lists items) skipped
on_two-missing items which other not_two f =
    let all = lists items in
    elim (cases_lt which (length items)) [
      | inr past ↦ rw (no_list items which past) (anyhow (tells all skipped) (which == other) None)
      | inl inside ↦ elim (cases_lt other (length items)) [
        | inr past ↦ rw (no_list items other past)
            (anyhow (tells all skipped) (which == other) (slice_get all which))
        | inl too ↦
            elim (cases_lt which other) [
              | inl less ↦ absurd (not_two (omega (arith, less), inside, too))
              | inr least ↦ elim (cases_lt other which) [
                | inl less ↦ absurd (not_two (omega (arith, less), inside, too))
                | inr most ↦ rw (eq-eqb which other (omega (arith, least, most))) refl
              ]
            ]
      ]
    ]

-- what a call says of two lists, by their lengths
module _ {items : List BitVector} {which other : ℕ} {old more : BitVector}
    (two : AreLent items which other old more) (f : List Bool → List Bool → Outcome) where
  pub on_same_length-found : length old.bits ≡ length more.bits
      → on_same_length (lists items) which other f ≡ f old.bits more.bits
  on_same_length-found long =
      on_two-found two _ ∙ rw (eq-eqb (length old.bits) (length more.bits) long) refl

  pub on_same_length-apart : length old.bits ≢ length more.bits
      → on_same_length (lists items) which other f ≡ tells (lists items) skipped
  on_same_length-apart apart =
      on_two-found two _ ∙ rw (ne_eqb (length old.bits) (length more.bits) apart) refl

-- the steps of the three connectives
module _ (width : ℕ) (all : List (List Bool)) (which other : ℕ) where
  pub step-combining : (how : Connective) → step width all (combining how which other)
      ≡ on_same_length all which other (combined all (operator how) which)
  step-combining And = refl
  step-combining Or = refl
  step-combining Xor = refl

  pub step-combining_new : (how : Connective) → step width all (combining_new how which other)
      ≡ on_same_length all which other
      (λ bits others. makes all (pointwise (operator how) bits others))
  step-combining_new And = refl
  step-combining_new Or = refl
  step-combining_new Xor = refl

  pub takes-combining_new : (how : Connective)
      → TakesMemory width all (combining_new how which other)
  takes-combining_new And = tt
  takes-combining_new Or = tt
  takes-combining_new Xor = tt

-- whether a list changed, as a step tells it
flag-not : (changed same : Bool) (bits after : List Bool) → Decides same (bits ≡ after)
    → ((changed ≡ true) ↔ (after ≢ bits)) → changed ≡ not same
flag-not true true bits after d h = absurd (h.0 refl (sym (d.0 refl)))
flag-not true false bits after d h = refl
flag-not false true bits after d h = refl
flag-not false false bits after d h = h.1 (λ e. let wrong = d.1 (sym e) in cc)

pub flag-changed : (changed : Bool) (bits after : List Bool)
    → ((changed ≡ true) ↔ (after ≢ bits)) → changed ≡ not (same_bits bits after)
flag-changed changed bits after h =
    flag-not changed (same_bits bits after) bits after (same_bits_decides bits after) h
