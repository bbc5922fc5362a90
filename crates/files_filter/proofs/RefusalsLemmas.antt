-- What tests and their guards have seen, one row on.
use Rattle.std.specs.Prelude.{Err, IfErr, IfNone, IfSome, Ok, OnOk, Result, slice_set, string_bytes}
use Rattle.std.specs.Option.{is_some}
use Rattle.std.specs.List.{AllWithin, Any}
use Rattle.std.proofs.Common.{◌≡◌, ◌≢◌, ◌⊎◌, ◌∙◌, ◌+◌, ◌<◌, ℕ, List, [], ◌∷◌, ◌++◌, Option, Some, None, true, false, ap, arith, drop, get_or, inl, inr, length, subst, sym, take}
use Rattle.std.proofs.lemmas.Bool.{false≢true}
use Rattle.std.proofs.lemmas.List.{append-nil, drop_all, get_or-set_other, get_or_append_left, get_or_default, length-append, take_all}
use Rattle.std.proofs.lemmas.List.Elements.{All-push}
use Rattle.std.proofs.lemmas.List.Quantifiers.{Any-push}
use Rattle.files_condition.specs.Numbers.{Decimal, IsNumber}
use Rattle.files_condition.specs.declared.condition.Relation.{Relation}
use Rattle.files_filter.specs.Answers.{IsNumeric, cell_at}
use Rattle.files_filter.specs.Reading.{AreAllRows, Cells, Delimited}
use Rattle.files_filter.specs.Refusals.{HasNumber, IsMisread, IsOrdering, IsShown, IsTextCell, Refuses}
use Rattle.files_filter.specs.Watching.{WatchesColumns, WatchesText}
use Rattle.files_filter.specs.declared.comparing.Kind.TheVariants.{Compared}
use Rattle.files_filter.specs.declared.comparing.Other.TheVariants as other
use Rattle.files_filter.specs.declared.comparing.Test.{Test}
use Rattle.files_filter.specs.declared.fault.FilterFault.{FilterFault}
use Rattle.files_filter.specs.declared.fault.FilterFault.TheVariants.{Cell}
use Rattle.files_filter.specs.declared.fault.WrongCell.{WrongCell}
use Rattle.files_filter.specs.declared.guard.ColumnsGuard.{ColumnsGuard}
use Rattle.files_filter.specs.declared.guard.TextGuard.{TextGuard}

-- what is asked of a number that was found
pub is_number : (found : Option Decimal) (text : List ℕ) → IfSome found (IsNumber text) → is_some found ≡ true →
    IsNumeric text
is_number None text is some = absurd (false≢true some)
is_number (Some number) text is some = (number, is)

pub is_no_number : (found : Option Decimal) (text : List ℕ) → IfNone found (¬ IsNumeric text) →
    is_some found ≡ false → ¬ IsNumeric text
is_no_number None text is none = is
is_no_number (Some number) text is none = absurd (false≢true (sym none))

pub on_ok : {X Y : Type 0} (result : Result X Y) (P Q : Type 0) → (P → Q) → OnOk result P → OnOk result Q
on_ok (Ok x) P Q so is = so is
on_ok (Err y) P Q so is = tt

pub ok_anyway : {X Y : Type 0} (result : Result X Y) (P : Type 0) → P → OnOk result P
ok_anyway (Ok x) P is = is
ok_anyway (Err y) P is = tt

pub if_err : {X Y : Type 0} (result : Result X Y) (P Q : Y → Type 0) → ((y : Y) → P y → Q y) → IfErr result P →
    IfErr result Q
if_err (Ok x) P Q so is = tt
if_err (Err y) P Q so is = so y is

-- a slice that keeps its length is the whole list
pub whole_slice : {X : Type 0} (new old : List X) (len : ℕ) → length new ≡ length old → len ≡ length old →
    take len (new ++ drop (length new) old) ≡ new
whole_slice new old len same is =
    ap (λ rest. take len (new ++ rest)) (drop_all (length new) old (omega (arith, same)))
    ∙ ap (take len) (append-nil new) ∙ take_all len new (omega (arith, same, is))

pub later : {X : Type 0} (P : X → Type 0) (xs ys : List X) → Any P xs → Any P (xs ++ ys)
later P xs ys any = (
  any.0,
  any.1,
  omega (arith, any.2, length-append xs ys),
  get_or_append_left xs ys any.1 any.0 any.2 ∙ any.3,
  any.4,
)

-- the item at a place
pub any_at : {X : Type 0} (P : X → Type 0) (xs : List X) (k : ℕ) (x d : X) → k < length xs → x ≡ get_or xs k d → P x →
    Any P xs
any_at P xs k x d less same is = (k, x, less, get_or_default xs k x d less ∙ sym same, is)

pub any_as : {X : Type 0} (P Q : X → Type 0) (xs : List X) → ((x : X) → P x → Q x) → Any P xs → Any Q xs
any_as P Q xs so any = (any.0, any.1, any.2, any.3, so any.1 any.4)

later_if : {X Y : Type 0} (P : Y → X → Type 0) (xs ys : List X) (found : Option Y) →
    IfSome found (λ y. Any (P y) xs) → IfSome found (λ y. Any (P y) (xs ++ ys))
later_if P xs ys None any = tt
later_if P xs ys (Some y) any = later (P y) xs ys any

-- a comparison with a text
module _ (header : Cells) (rows : List Cells) (row : Cells) (test : Test) (guard : TextGuard)
    (so : WatchesText rows test guard) where
  here : cell_at row guard.place ≡ cell_at row test.place
  here = ap (cell_at row) so.place

  more_numbers : guard.have_numbers ≡ true → HasNumber (rows ++ row ∷ []) test.place
  more_numbers have = later (λ r. IsNumeric (cell_at r test.place)) rows (row ∷ []) (so.numbers have)

  pub has_number : IsNumeric (cell_at row guard.place) → HasNumber (rows ++ row ∷ []) test.place
  has_number is =
      Any-push (λ r. IsNumeric (cell_at r test.place)) rows row (subst (λ cell. IsNumeric cell) here is)

  pub saw_nothing : cell_at row guard.place ≡ [] → WatchesText (rows ++ row ∷ []) test guard
  saw_nothing empty = record {
    relation = so.relation;
    operand = so.operand;
    kind = so.kind;
    plain = so.plain;
    place = so.place;
    at = so.at;
    is_order = so.is_order;
    numbers = more_numbers;
    texts = λ none. All-push (λ r. (cell_at r test.place ≡ []) ⊎ IsNumeric (cell_at r test.place)) rows row
        (so.texts none) (inl (sym here ∙ empty));
  }

  pub saw_text : WatchesText (rows ++ row ∷ []) test (record guard { have_texts = true })
  saw_text = record {
    relation = so.relation;
    operand = so.operand;
    kind = so.kind;
    plain = so.plain;
    place = so.place;
    at = so.at;
    is_order = so.is_order;
    numbers = more_numbers;
    texts = λ none. absurd (false≢true (sym none));
  }

  pub saw_number : IsNumeric (cell_at row guard.place) →
      WatchesText (rows ++ row ∷ []) test (record guard { have_numbers = true })
  saw_number is = record {
    relation = so.relation;
    operand = so.operand;
    kind = so.kind;
    plain = so.plain;
    place = so.place;
    at = so.at;
    is_order = so.is_order;
    numbers = λ have. has_number is;
    texts = λ none. All-push (λ r. (cell_at r test.place ≡ []) ⊎ IsNumeric (cell_at r test.place)) rows row
        (so.texts none) (inr (subst (λ cell. IsNumeric cell) here is));
  }

  pub number_refused : (text : Delimited) (fault : FilterFault) → IsNumeric (cell_at row guard.place) →
      guard.is_order ≡ true → IsMisread fault guard.at → Refuses text header (rows ++ row ∷ []) test fault
  number_refused text fault is order misread = rw so.kind
      (so.plain, subst (IsMisread fault) so.at misread, has_number is, inl (so.is_order order))

  pub numbers_refused : (text : Delimited) (fault : FilterFault) → guard.have_numbers ≡ true →
      guard.have_texts ≡ false → IsMisread fault guard.at → AreAllRows text (header ∷ rows) →
      Refuses text header rows test fault
  numbers_refused text fault have none misread all = rw so.kind
      (so.plain, subst (IsMisread fault) so.at misread, so.numbers have, inr (so.texts none, all))

-- a comparison of two columns
module _ (header : Cells) (rows : List Cells) (row : Cells) (test : Test) (guard : ColumnsGuard)
    (so : WatchesColumns header rows test guard) where
  same : cell_at row guard.place ≡ cell_at row test.place
  same = ap (cell_at row) so.place

  pub compared_nothing : WatchesColumns header (rows ++ row ∷ []) test guard
  compared_nothing = record {
    relation = so.relation;
    kind = so.kind;
    is_order = so.is_order;
    place = so.place;
    numbers = λ have. later (λ r. IsNumeric (cell_at r test.place)) rows (row ∷ []) (so.numbers have);
    texts = later_if (IsTextCell header test.place) rows (row ∷ []) guard.text so.texts;
  }

  pub compared_number : IsNumeric (cell_at row guard.place) →
      WatchesColumns header (rows ++ row ∷ []) test (record guard { have_numbers = true })
  compared_number is = record {
    relation = so.relation;
    kind = so.kind;
    is_order = so.is_order;
    place = so.place;
    numbers = λ have. Any-push (λ r. IsNumeric (cell_at r test.place)) rows row
        (subst (λ cell. IsNumeric cell) same is);
    texts = later_if (IsTextCell header test.place) rows (row ∷ []) guard.text so.texts;
  }

  pub compared_text : (wrong : WrongCell) → cell_at row guard.place ≢ [] → ¬ IsNumeric (cell_at row guard.place) →
      IsShown (cell_at header guard.place) (string_bytes wrong.name) →
      IsShown (cell_at row guard.place) (string_bytes wrong.cell) →
      WatchesColumns header (rows ++ row ∷ []) test (record guard { text = Some wrong })
  compared_text wrong some is name cell = record {
    relation = so.relation;
    kind = so.kind;
    is_order = so.is_order;
    place = so.place;
    numbers = λ have. later (λ r. IsNumeric (cell_at r test.place)) rows (row ∷ []) (so.numbers have);
    texts = Any-push (IsTextCell header test.place wrong) rows row
        (subst (λ place. IsTextCell header place wrong row) so.place
        (record { some = some; text = is; name = name; cell = cell }));
  }

  pub took_text : WatchesColumns header rows test (record guard { text = None })
  took_text = record {
    relation = so.relation;
    kind = so.kind;
    is_order = so.is_order;
    place = so.place;
    numbers = so.numbers;
    texts = tt;
  }

  pub text_refused : (text : Delimited) (wrong : WrongCell) → guard.have_numbers ≡ true →
      guard.text ≡ Some wrong → Refuses text header rows test (Cell wrong)
  text_refused text wrong have is = rw so.kind (
    so.is_order,
    inl (so.numbers have),
    inl (subst (λ found. IfSome found (λ wrong. Any (IsTextCell header test.place wrong) rows)) is so.texts),
  )

-- a cell isn't the number that a test needs
module _ (text : Delimited) (header : Cells) (rows : List Cells) (row : Cells) (test : Test)
    (relation : Relation) where
  pub needs_number : (number : Decimal) (wrong : WrongCell) → test.kind ≡ Compared relation (other.Number number) →
      IsTextCell header test.place wrong row → Refuses text header (rows ++ row ∷ []) test (Cell wrong)
  needs_number number wrong kind is = rw kind (Any-push (IsTextCell header test.place wrong) rows row is)

  pub first_is_text : (place : ℕ) (wrong : WrongCell) → test.kind ≡ Compared relation (other.Column place) →
      IsOrdering relation → IsNumeric (cell_at row place) → IsTextCell header test.place wrong row →
      Refuses text header (rows ++ row ∷ []) test (Cell wrong)
  first_is_text place wrong kind order number is = rw kind (
    order,
    inr (Any-push (λ r. IsNumeric (cell_at r place)) rows row number),
    inl (Any-push (IsTextCell header test.place wrong) rows row is),
  )

  pub second_is_text : (place : ℕ) (wrong : WrongCell) → test.kind ≡ Compared relation (other.Column place) →
      IsOrdering relation → IsNumeric (cell_at row test.place) → IsTextCell header place wrong row →
      Refuses text header (rows ++ row ∷ []) test (Cell wrong)
  second_is_text place wrong kind order number is = rw kind (
    order,
    inl (Any-push (λ r. IsNumeric (cell_at r test.place)) rows row number),
    inr (Any-push (IsTextCell header place wrong) rows row is),
  )

-- the rest of a list after one of it is set
pub rest_set : {X : Type 0} (P : X → Type 0) (xs : List X) (i : ℕ) (x : X) (high : ℕ) → AllWithin P xs i high →
    AllWithin P (slice_set xs i x) (i + 1) high
rest_set P xs i x high all k d low less =
    subst P (sym (get_or-set_other xs i k x d (λ eq. omega (arith, eq, low)))) (all k d (omega (arith, low)) less)
