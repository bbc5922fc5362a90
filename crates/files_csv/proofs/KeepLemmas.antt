-- What a reader of whole rows keeps as it reads on.
use Rattle.std.specs.Prelude.{◌==◌, count_by, min}
use Rattle.std.specs.Io.KnownBytes.{Consumes, Keeps}
use Rattle.std.specs.List.{copy_within}
use Rattle.std.below.core.specs.declared.int.usize.TheConstants.{MAX}
use Rattle.std.proofs.Common.{◌≡◌, ◌∙◌, ◌++◌, ◌∷◌, [], ℕ, ◌+◌, ◌-◌, ◌≤◌, List, None, Option, Some, append_assoc, ap, cond, drop, inl, inr, length, refl, sym, take, take-add, arith}
use Rattle.std.proofs.lemmas.List.{append-nil, length-append, length-drop, length-take, length-take-le, take-append-drop, take-take}
use Rattle.std.proofs.lemmas.List.Sums.{sum_by-append}
use Rattle.files_csv.specs.Progress.{AreGone, HasEnded, HasRead, HasReadTo, HasRefused, HasScanned}
use Rattle.files_csv.specs.Whole.{KeepsText, rows_at_hand}
use Rattle.files_csv.specs.declared.whole.WholeRows.{WholeRows}
use Rattle.files_csv.proofs.WholeLemmas.{moved}

-- given bytes are forgotten
pub record Forgets {R : Type 0} (old new : WholeRows R) (filled given : ℕ) : Type 0 where
  pub filled_is : filled ≡ min old.filled (length old.text.items)
  pub given_is : given ≡ min old.given filled
  pub input : new.input ≡ old.input
  pub part : new.part ≡ old.part
  pub refused : new.refused ≡ old.refused
  pub none_given : new.given ≡ 0
  pub filled_now : new.filled ≡ filled - given
  pub whole : new.whole ≡ old.whole - given
  pub cell : new.cell ≡ old.cell - given
  pub bytes : new.bytes ≡ min (old.bytes + given) MAX
  pub lines : new.lines ≡ min (old.lines + count_by (λ byte. byte == 10) (take given old.text.items)) MAX
  pub text : new.text.items ≡ copy_within old.text.items given filled 0
  pub inside : new.filled ≤ length new.text.items

module _ {R : Type 0} (remaining : R → Option (List ℕ)) (text : List ℕ) (old new : WholeRows R) (filled given : ℕ)
    (all : rows_at_hand old ≡ []) (forgets : Forgets old new filled given) where
  refused_kept : HasRefused text old → HasRefused text new
  refused_kept was = record { fault = was.fault; found = forgets.refused ∙ was.found; is = was.is }

  ended_kept : HasEnded remaining text old old.filled → HasEnded remaining text new new.filled
  ended_kept was = record {
    input = rw (forgets.input) was.input;
    inside = forgets.inside;
    scanned = refl;
    whole = omega (arith, forgets.whole, forgets.filled_now, forgets.filled_is, was.inside, was.whole);
    given = omega (arith, forgets.none_given);
    none = forgets.refused ∙ was.none;
    part = rw (forgets.part) was.part;
    is_csv = was.is_csv;
  }

  module _ (has : HasScanned remaining text old old.filled) where
    abbrev items : List ℕ
    items = old.text.items

    abbrev gone : List ℕ
    gone = has.gone ++ take given items

    whole_given : old.whole ≡ given
    whole_given =
        let none : length (rows_at_hand old) ≡ 0 = ap length all in
        let size : length (rows_at_hand old) ≡ length (take (min old.whole old.filled) items) - old.given =
        length-drop old.given (take (min old.whole old.filled) items) in
        let long : length (take (min old.whole old.filled) items) ≡ min (min old.whole old.filled) (length items) =
        length-take (min old.whole old.filled) items in
        omega (arith, none, size, long, forgets.given_is, forgets.filled_is, has.given, has.whole, has.read.inside)

    given_same : old.given ≡ given
    given_same = omega (arith, whole_given, has.given, has.whole, has.read.inside, forgets.given_is, forgets.filled_is)

    same_seen : gone ++ take new.filled new.text.items ≡ has.gone ++ take old.filled items
    same_seen =
        let came = moved items old.given old.filled filled given forgets.filled_is forgets.given_is in
        let fits : given ≤ old.filled = omega (arith, whole_given, has.whole) in
        append_assoc has.gone (take given items) (take new.filled new.text.items)
        ∙ ap (λ xs. has.gone ++ xs) (ap (λ xs. take given items ++ xs)
        (ap (λ n. take n new.text.items) forgets.filled_now ∙ ap (take (filled - given)) forgets.text ∙ sym came
        ∙ ap (λ n. drop n (take old.filled items)) given_same)
        ∙ ap (λ xs. xs ++ drop given (take old.filled items)) (sym (take-take given old.filled items fits))
        ∙ take-append-drop given (take old.filled items))

    size : length gone ≡ length has.gone + given
    size =
        let fits : given ≤ length items = omega (arith, whole_given, has.whole, has.read.inside) in
        length-append has.gone (take given items) ∙ ap (λ n. length has.gone + n) (length-take-le given items fits)

    gone_are : AreGone new gone
    gone_are = record {
      begins = rw (← whole_given) has.begins;
      bytes = omega (arith, forgets.bytes, has.read.gone_are.bytes, size);
      lines =
          let sum : count_by (λ byte. byte == 10) gone
          ≡ count_by (λ byte. byte == 10) has.gone + count_by (λ byte. byte == 10) (take given items) =
          sum_by-append (λ byte. cond (byte == 10) 1 0) has.gone (take given items) in
          omega (arith, forgets.lines, has.read.gone_are.lines, sum);
    }

    scanned_kept : HasScanned remaining text new new.filled
    scanned_kept =
        let none_whole : new.whole ≡ 0 = omega (arith, forgets.whole, whole_given) in
        let start : length gone + new.cell ≡ length has.gone + old.cell =
        omega (arith, size, forgets.cell, whole_given, has.cell) in record {
          gone = gone;
          left = has.left;
          read = record {
            input = rw (forgets.input) has.read.input;
            text_is = rw same_seen has.read.text_is;
            inside = forgets.inside;
            gone_are = gone_are;
            none = forgets.refused ∙ has.read.none;
          };
          scanned = omega arith;
          whole = omega (arith, none_whole);
          given = omega (arith, forgets.none_given);
          cell = omega (arith, none_whole);
          begins = rw (none_whole, append-nil gone) gone_are.begins;
          stands = rw (forgets.part, same_seen, start) has.stands;
        }

  pub forgets_on : HasRead remaining text old → HasRead remaining text new
  forgets_on (inl has) = inl (scanned_kept has)
  forgets_on (inr (inl was)) = inr (inl (ended_kept was))
  forgets_on (inr (inr was)) = inr (inr (refused_kept was))

nothing : (front back : List ℕ) → [] ≡ front ++ back → (length front ≡ 0) × (back ≡ [])
nothing [] back same = (refl, sym same)
nothing (first ∷ front) back same =
    let no : 0 ≡ length (first ∷ (front ++ back)) = ap length same in absurd (omega (arith, no))

-- more bytes are read
module _ {R : Type 0} (remaining : R → Option (List ℕ)) (text : List ℕ) (old mid new : WholeRows R) (count : ℕ)
    (kept : KeepsText old mid)
    (same : new ≡ record mid { input = new.input; text = new.text; filled = new.filled })
    (filled : new.filled ≡ mid.filled + count)
    (before : take mid.filled new.text.items ≡ take mid.filled mid.text.items)
    (fits : count ≤ length (drop mid.filled new.text.items)) where
  abbrev came : List ℕ
  came = take count (drop mid.filled new.text.items)

  filled_old : mid.filled ≡ old.filled
  filled_old = ap (λ rows. rows.filled) kept.same

  front : take old.filled new.text.items ≡ take old.filled old.text.items
  front = rw filled_old at (before ∙ kept.text)

  grown : take new.filled new.text.items ≡ take old.filled old.text.items ++ came
  grown =
      ap (λ n. take n new.text.items) filled ∙ take-add mid.filled count new.text.items
      ∙ ap (λ xs. xs ++ came) (before ∙ kept.text)

  inside : old.filled ≤ length old.text.items → new.filled ≤ length new.text.items
  inside was =
      let long : length (drop mid.filled new.text.items) ≡ length new.text.items - mid.filled =
      length-drop mid.filled new.text.items in
      let some : length (take old.filled new.text.items) ≡ length (take old.filled old.text.items) = ap length front in
      let first : length (take old.filled new.text.items) ≡ min old.filled (length new.text.items) =
      length-take old.filled new.text.items in
      let second : length (take old.filled old.text.items) ≡ min old.filled (length old.text.items) =
      length-take old.filled old.text.items in
      omega (arith, filled, fits, long, some, first, second, filled_old, was)

  scanned_read : (left : Option (List ℕ)) → remaining new.input ≡ left →
      (has : HasScanned remaining text old old.filled) → Consumes (Some has.left) left came →
      HasScanned remaining text new old.filled
  scanned_read None input has consumed = absurd consumed
  scanned_read (Some left) input has consumed = record {
    gone = has.gone;
    left = left;
    read = record {
      input = input;
      text_is =
          has.read.text_is ∙ ap (λ xs. (has.gone ++ take old.filled old.text.items) ++ xs) consumed
          ∙ sym (append_assoc (has.gone ++ take old.filled old.text.items) came left)
          ∙ ap (λ xs. xs ++ left) (append_assoc has.gone (take old.filled old.text.items) came)
          ∙ ap (λ xs. (has.gone ++ xs) ++ left) (sym grown);
      inside = inside has.read.inside;
      gone_are = record {
        begins = has.read.gone_are.begins;
        bytes = ap (λ rows. rows.bytes) (same ∙ refl) ∙ ap (λ rows. rows.bytes) kept.same ∙ has.read.gone_are.bytes;
        lines = ap (λ rows. rows.lines) (same ∙ refl) ∙ ap (λ rows. rows.lines) kept.same ∙ has.read.gone_are.lines;
      };
      none = ap (λ rows. rows.refused) (same ∙ refl) ∙ ap (λ rows. rows.refused) kept.same ∙ has.read.none;
    };
    scanned = omega (arith, filled, filled_old);
    whole = rw whole_old has.whole;
    given = rw (given_old, whole_old) has.given;
    cell = rw (cell_old, whole_old) has.cell;
    begins = rw (whole_old, whole_front has) has.begins;
    stands = rw (part_old, cell_old, front) has.stands;
  }
    where
      whole_old : new.whole ≡ old.whole
      whole_old = ap (λ rows. rows.whole) same ∙ ap (λ rows. rows.whole) kept.same

      given_old : new.given ≡ old.given
      given_old = ap (λ rows. rows.given) same ∙ ap (λ rows. rows.given) kept.same

      cell_old : new.cell ≡ old.cell
      cell_old = ap (λ rows. rows.cell) same ∙ ap (λ rows. rows.cell) kept.same

      part_old : new.part ≡ old.part
      part_old = ap (λ rows. rows.part) same ∙ ap (λ rows. rows.part) kept.same

      whole_front : (has : HasScanned remaining text old old.filled) →
          take old.whole new.text.items ≡ take old.whole old.text.items
      whole_front has =
          sym (take-take old.whole old.filled new.text.items has.whole) ∙ ap (take old.whole) front
          ∙ take-take old.whole old.filled old.text.items has.whole

  ended_read : (left : Option (List ℕ)) → remaining new.input ≡ left → HasEnded remaining text old old.filled →
      Consumes (Some []) left came → HasEnded remaining text new old.filled
  ended_read None input was consumed = absurd consumed
  ended_read (Some left) input was consumed =
      let none = nothing came left consumed in
      let size : length came ≡ count = length-take-le count (drop mid.filled new.text.items) fits in record {
        input = input ∙ ap Some none.1;
        inside = inside was.inside;
        scanned = omega (arith, filled, filled_old, size, none.0);
        whole = ap (λ rows. rows.whole) same ∙ ap (λ rows. rows.whole) kept.same ∙ was.whole
            ∙ omega (arith, filled, filled_old, size, none.0);
        given = rw (
          ap (λ rows. rows.given) same ∙ ap (λ rows. rows.given) kept.same,
          ap (λ rows. rows.whole) same ∙ ap (λ rows. rows.whole) kept.same,
        ) was.given;
        none = ap (λ rows. rows.refused) same ∙ ap (λ rows. rows.refused) kept.same ∙ was.none;
        part = rw (ap (λ rows. rows.part) same ∙ ap (λ rows. rows.part) kept.same) was.part;
        is_csv = was.is_csv;
      }

  pub reads_on : Consumes (remaining mid.input) (remaining new.input) came → HasRead remaining text old →
      HasReadTo remaining text new old.filled
  reads_on consumed (inl has) =
      inl (scanned_read _ refl has (rw (ap (λ rows. rows.input) kept.same, has.read.input) at consumed))
  reads_on consumed (inr (inl was)) =
      inr (inl (ended_read _ refl was (rw (ap (λ rows. rows.input) kept.same, was.input) at consumed)))
  reads_on consumed (inr (inr was)) = inr (inr (record {
    fault = was.fault;
    found = ap (λ rows. rows.refused) same ∙ ap (λ rows. rows.refused) kept.same ∙ was.found;
    is = was.is;
  }))

pub reads_over : {R : Type 0} (remaining : R → Option (List ℕ)) (text : List ℕ) (old mid new : WholeRows R)
    (count : ℕ) → KeepsText old mid →
    new ≡ record mid { input = new.input; text = new.text; filled = new.filled } → new.filled ≡ mid.filled + count →
    (now : List ℕ) → new.text.items ≡ now → take mid.filled now ≡ take mid.filled mid.text.items →
    count ≤ length (drop mid.filled now) →
    Consumes (remaining mid.input) (remaining new.input) (take count (drop mid.filled now)) →
    HasRead remaining text old → HasReadTo remaining text new old.filled
reads_over remaining text old mid new count kept same filled now items before fits consumed =
    reads_on remaining text old mid new count kept same filled (rw items before) (rw items fits) (rw items consumed)

-- no more is read
pub kept_bytes : (old new : Option (List ℕ)) → Keeps old new → Consumes old new []
kept_bytes None new kept = tt
kept_bytes (Some bytes) None kept = absurd kept
kept_bytes (Some bytes) (Some after) kept = sym kept

pub same_bytes : (known : Option (List ℕ)) → Consumes known known []
same_bytes None = tt
same_bytes (Some bytes) = refl

-- rows are given
pub gives_on : {R : Type 0} (remaining : R → Option (List ℕ)) (text : List ℕ) (old : WholeRows R) (given count : ℕ) →
    given ≡ old.given + count → count ≤ length (rows_at_hand old) → HasRead remaining text old →
    HasRead remaining text (record old { given = given })
gives_on remaining text old given count more fits has = elim has [
  | inl now ↦ inl (record {
    gone = now.gone;
    left = now.left;
    read = record {
      input = now.read.input;
      text_is = now.read.text_is;
      inside = now.read.inside;
      gone_are = record {
        begins = now.read.gone_are.begins;
        bytes = now.read.gone_are.bytes;
        lines = now.read.gone_are.lines;
      };
      none = now.read.none;
    };
    scanned = now.scanned;
    whole = now.whole;
    given = inside now.given;
    cell = now.cell;
    begins = now.begins;
    stands = now.stands;
  })
  | inr (inl was) ↦ inr (inl (record {
    input = was.input;
    inside = was.inside;
    scanned = was.scanned;
    whole = was.whole;
    given = inside was.given;
    none = was.none;
    part = was.part;
    is_csv = was.is_csv;
  }))
  | inr (inr was) ↦ inr (inr (record { fault = was.fault; found = was.found; is = was.is }))
]
  where
    inside : old.given ≤ old.whole → given ≤ old.whole
    inside was =
        let size : length (rows_at_hand old) ≡ length (take (min old.whole old.filled) old.text.items) - old.given =
        length-drop old.given (take (min old.whole old.filled) old.text.items) in
        let most : length (take (min old.whole old.filled) old.text.items)
        ≡ min (min old.whole old.filled) (length old.text.items) =
        length-take (min old.whole old.filled) old.text.items in
        omega (arith, more, fits, size, most, was)
