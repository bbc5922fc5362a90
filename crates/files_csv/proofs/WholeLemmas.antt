-- The bytes that a reader of whole rows has left.
use Rattle.std.proofs.Common.{◌≡◌, ◌∙◌, take-add, ℕ, ◌+◌, ◌-◌, ◌≤◌, ◌++◌, List, append_assoc, None, Option, Some, inl, inr, refl, arith, ap, drop, length, min, sym, take}
use Rattle.std.specs.Io.KnownBytes.{Consumes, Keeps, prepend_known}
use Rattle.std.specs.List.{copy_within}
use Rattle.files_csv.specs.Whole.{IsFresh, KeepsText, unread}
use Rattle.files_csv.specs.declared.whole.WholeRows.{WholeRows}
use Rattle.std.proofs.Math.Seq.{take-append_seam}
use Rattle.std.proofs.lemmas.Bool.{cases_lt}
use Rattle.std.proofs.lemmas.List.{drop-drop, drop-take, drop_min, length-drop, length-take, length-take-le, take-append-drop, take-append-le, take-take, take_min}
use Rattle.std.proofs.lemmas.List.Edits.{take-paste}

-- the bytes that are left come to the front
pub moved : (text : List ℕ) (given filled inside front : ℕ) → inside ≡ min filled (length text) →
    front ≡ min given inside →
    drop given (take filled text) ≡ take (inside - front) (copy_within text front inside 0)
moved text given filled inside front same least =
    ap (drop given) (sym (take_min filled text) ∙ ap (λ n. take n text) (sym same))
    ∙ sym (drop_min given (take inside text))
    ∙ ap (λ n. drop n (take inside text)) within
    ∙ ap (λ n. drop front (take n text)) split
    ∙ drop-take front (inside - front) text
    ∙ sym (ap (λ n. take n (copy_within text front inside 0)) (sym none) ∙ pasted)
  where
    size : length (drop front text) ≡ length text - front
    size = length-drop front text

    none : 0 + (inside - front) ≡ inside - front
    none = omega arith

    pasted : take (0 + (inside - front)) (copy_within text front inside 0) ≡ take (inside - front) (drop front text)
    pasted = take-paste text 0 (drop front text) (inside - front) (omega arith) (omega (arith, size, same, least))

    within : min given (length (take inside text)) ≡ front
    within =
        let long : length (take inside text) ≡ inside = length-take-le inside text (omega (arith, same)) in
        omega (arith, long, least)

    split : inside ≡ front + (inside - front)
    split = omega (arith, least)

-- equal bytes before known ones
pub keeps_same : {before after : List ℕ} (known : Option (List ℕ)) → before ≡ after →
    Keeps (prepend_known before known) (prepend_known after known)
keeps_same None same = tt
keeps_same (Some rest) same = ap (λ xs. xs ++ rest) (sym same)

module _ (text : List ℕ) (given whole filled count : ℕ) where
  -- the whole rows at hand, and the bytes that are left
  abbrev rows : List ℕ
  rows = drop given (take (min whole filled) text)

  abbrev left : List ℕ
  left = drop given (take filled text)

  abbrev after : List ℕ
  after = drop (given + count) (take filled text)

  same_first : count ≤ length rows → take count left ≡ take count rows
  same_first fits = elim (cases_lt (min whole filled) given) [
    | inl past ↦
        let short : length rows ≡ length (take (min whole filled) text) - given =
        length-drop given (take (min whole filled) text) in
        let most : length (take (min whole filled) text) ≤ min whole filled =
        omega (arith, length-take (min whole filled) text) in
        let none : count ≡ 0 = omega (arith, fits, short, most, past) in
        rw none refl
    | inr inside ↦
        let some : rows ≡ take (min whole filled - given) (drop given text) = cut (min whole filled) inside in
        let all : left ≡ take (filled - given) (drop given text) = cut filled (omega (arith, inside)) in
        let size : length (take (min whole filled - given) (drop given text)) ≤ min whole filled - given =
        omega (arith, length-take (min whole filled - given) (drop given text)) in
        let less : count ≤ min whole filled - given = omega (arith, rw some at fits, size) in
        ap (take count) all ∙ take-take count (filled - given) (drop given text) (omega (arith, less))
        ∙ sym (ap (take count) some ∙ take-take count (min whole filled - given) (drop given text) less)
  ]
    where
      cut : (end : ℕ) → given ≤ end → drop given (take end text) ≡ take (end - given) (drop given text)
      cut end inside =
          let split : end ≡ given + (end - given) = omega (arith, inside) in
          ap (λ n. drop given (take n text)) split ∙ drop-take given (end - given) text

  -- the first rows at hand are the first bytes that are left
  first_given : count ≤ length rows →
      left ≡ take count rows ++ after
  first_given fits =
      sym (take-append-drop count left)
      ∙ ap (λ xs. xs ++ drop count left) (same_first fits)
      ∙ ap (λ xs. take count rows ++ xs) (drop-drop count given (take filled text))

  -- given rows are bytes less
  pub gives : (known : Option (List ℕ)) (written rest : List ℕ) → count ≤ length rows →
      written ≡ take count rows →
      Consumes (prepend_known left known) (prepend_known after known) (take count (written ++ rest))
  gives None written rest fits same = tt
  gives (Some bytes) written rest fits same =
      ap (λ xs. xs ++ bytes) (first_given fits) ∙ append_assoc (take count rows) after bytes
      ∙ ap (λ xs. xs ++ (after ++ bytes)) (sym front)
    where
      front : take count (written ++ rest) ≡ take count rows
      front =
          let long : length (take count rows) ≡ count = length-take-le count rows fits in
          take-append-le count written rest (rw (same, long) (omega arith)) ∙ ap (take count) same
          ∙ take-take count count rows (omega arith)

-- more room is no other text
pub unread_same : {R : Type 0} (remaining : R → Option (List ℕ)) (old new : WholeRows R) →
    KeepsText old new → unread remaining new ≡ unread remaining old
unread_same remaining old new kept =
    rw (kept.text, ap (λ rows. rows.given) kept.same, ap (λ rows. rows.input) kept.same) refl

-- the bytes that are left, after a read
pub read_grows : {R : Type 0} (remaining : R → Option (List ℕ)) (old new : WholeRows R)
    (text stored : List ℕ) (count : ℕ) (left : Option (List ℕ)) → KeepsText old new → IsFresh new →
    stored ≡ text →
    take new.filled text ≡ take new.filled new.text.items →
    Consumes (remaining new.input) left (take count (drop new.filled text)) →
    Keeps (unread remaining old) (prepend_known (drop new.given (take (new.filled + count) stored)) left)
read_grows remaining old new text stored count left kept fresh keeps same consumed =
    rw (keeps, ← unread_same remaining old new kept, fresh.given) (grown (remaining new.input) left consumed)
  where
    grown : (before left : Option (List ℕ)) → Consumes before left (take count (drop new.filled text)) →
        Keeps (prepend_known (take new.filled new.text.items) before)
        (prepend_known (take (new.filled + count) text) left)
    grown None left consumed = tt
    grown (Some bytes) None consumed = absurd consumed
    grown (Some bytes) (Some rest) consumed =
        ap (λ xs. xs ++ rest) (take-add new.filled count text ∙ ap (λ xs. xs ++ take count (drop new.filled text)) same)
        ∙ append_assoc (take new.filled new.text.items) (take count (drop new.filled text)) rest
        ∙ ap (λ xs. take new.filled new.text.items ++ xs) (sym consumed)

-- a text over which an equally long one is written
pub written_over : (text rest : List ℕ) (count : ℕ) → count ≡ length text → take count (text ++ rest) ≡ text
written_over text rest count same = rw same (take-append_seam text rest)
