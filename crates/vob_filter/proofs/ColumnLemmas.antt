-- The values that two lists of bits are, by index.
use Rattle.std.proofs.Common.{◌≡◌, ◌↔◌, ℕ, zero, suc, Bool, true, false, not, ◌&&◌, ◌||◌, IsTrue}
use Rattle.std.proofs.Common.{List, [], ◌∷◌, length, map, set, get_or, replicate, Option, Some, None, refl, sym, ap, ◌∙◌, arith, inl, inr}
use Rattle.std.proofs.lemmas.Bool.{cases_lt, false≢true}
use Rattle.vob_block.specs.Packing.{item}
use Rattle.vob_block.specs.Pointwise.{differ, pointwise, without}
use Rattle.vob_block.proofs.PointwiseLemmas.{item-pointwise}
use Rattle.vob.specs.Bits as Bits
use Rattle.std.specs.Prelude.{ℤ}
use Rattle.std.specs.Option.{is_some, unwrap_or}
use Rattle.std.proofs.lemmas.List.{ext_get_or, length-map, get_or-map, get_or_past}
use Rattle.vob_filter.specs.Comparisons.{compared, holds_known}
use Rattle.vob_filter.specs.declared.compare.Comparison.{Comparison}
use Rattle.vob_filter.specs.Columns.{value_of, values_of, AreColumn, value_at, sql_and, sql_or, sql_not, AreValuesChanged, AreValuesCombined}

pub length-values_of : (present value : List Bool) → length present ≡ length value
    → length (values_of present value) ≡ length present
length-values_of [] value same = refl
length-values_of (v ∷ present) [] same = absurd (omega (arith, same))
length-values_of (v ∷ present) (x ∷ value) same =
    ap suc (length-values_of present value (omega (arith, same)))

pub value_at-values_of : (present value : List Bool) → length present ≡ length value → (i : ℕ)
    → value_at (values_of present value) i ≡ value_of (item present i) (item value i)
value_at-values_of [] value same i = refl
value_at-values_of (v ∷ present) [] same i = absurd (omega (arith, same))
value_at-values_of (v ∷ present) (x ∷ value) same zero = refl
value_at-values_of (v ∷ present) (x ∷ value) same (suc i) =
    value_at-values_of present value (omega (arith, same)) i

pub values_of-set : (present value : List Bool) (i : ℕ) (v x : Bool) → length present ≡ length value
    → values_of (set present i v) (set value i x) ≡ set (values_of present value) i (value_of v x)
values_of-set [] [] i v x same = refl
values_of-set [] (y ∷ value) i v x same = absurd (omega (arith, same))
values_of-set (w ∷ present) [] i v x same = absurd (omega (arith, same))
values_of-set (w ∷ present) (y ∷ value) zero v x same = refl
values_of-set (w ∷ present) (y ∷ value) (suc i) v x same =
    ap (λ xs. value_of w y ∷ xs) (values_of-set present value i v x (omega (arith, same)))

-- ---- values that aren't present say nothing

masked_value : (v x : Bool) → value_of v (x && v) ≡ value_of v x
masked_value true true = refl
masked_value true false = refl
masked_value false true = refl
masked_value false false = refl

pub values_of-masked : (present value after : List Bool) → length present ≡ length value →
    Bits.AreCombined ◌&&◌ value present after → values_of present after ≡ values_of present value
values_of-masked present value after same h =
    let long = same ∙ sym h.len in
    ext_get_or None (values_of present after) (values_of present value)
    (length-values_of present after long ∙ sym (length-values_of present value same)) (λ i less.
    value_at-values_of present after long i ∙ ap (value_of (item present i)) (h.each i)
    ∙ masked_value (item present i) (item value i) ∙ sym (value_at-values_of present value same i))

masked_true : (v x : Bool) → x && v ≡ true → v ≡ true
masked_true true x e = refl
masked_true false true e = e
masked_true false false e = e

pub AreColumn-masked : (present value after : List Bool) → length present ≡ length value →
    Bits.AreCombined ◌&&◌ value present after → AreColumn present after
AreColumn-masked present value after same h = record {
  same = same ∙ sym h.len;
  only = λ i e. masked_true (item present i) (item value i) (sym (h.each i) ∙ e);
}

-- ---- one value

pub value_back : (o : Option Bool) → value_of (is_some o) (unwrap_or o false) ≡ o
value_back None = refl
value_back (Some b) = refl

not_value : (v x : Bool) → (x ≡ true → v ≡ true) → value_of v (differ x v) ≡ sql_not (value_of v x)
not_value true true sub = refl
not_value true false sub = refl
not_value false x sub = refl

or_value : (v x w y : Bool) → (x ≡ true → v ≡ true) → (y ≡ true → w ≡ true)
    → value_of ((v && w) || (x || y)) (x || y) ≡ sql_or (value_of v x) (value_of w y)
or_value true true true y p q = refl
or_value true true false true p q = absurd (false≢true (q refl))
or_value true true false false p q = refl
or_value true false true true p q = refl
or_value true false true false p q = refl
or_value true false false true p q = absurd (false≢true (q refl))
or_value true false false false p q = refl
or_value false true w y p q = absurd (false≢true (p refl))
or_value false false true true p q = refl
or_value false false true false p q = refl
or_value false false false true p q = absurd (false≢true (q refl))
or_value false false false false p q = refl

and_value : (v x w y : Bool) → (x ≡ true → v ≡ true) → (y ≡ true → w ≡ true)
    → value_of ((differ v x || (x && y)) || (w && not y)) (x && y)
    ≡ sql_and (value_of v x) (value_of w y)
and_value true true true true p q = refl
and_value true true true false p q = refl
and_value true true false true p q = absurd (false≢true (q refl))
and_value true true false false p q = refl
and_value true false true true p q = refl
and_value true false true false p q = refl
and_value true false false true p q = absurd (false≢true (q refl))
and_value true false false false p q = refl
and_value false true w y p q = absurd (false≢true (p refl))
and_value false false true true p q = refl
and_value false false true false p q = refl
and_value false false false true p q = absurd (false≢true (q refl))
and_value false false false false p q = refl

-- ---- no value is there

pub value_at-missing : (n i : ℕ) → value_at (values_of (replicate n false) (replicate n false)) i
    ≡ None
value_at-missing zero i = refl
value_at-missing (suc n) zero = refl
value_at-missing (suc n) (suc i) = value_at-missing n i

-- a column is as long as its bits
pub column_len : (present value : List Bool) (column : List (Option Bool)) → AreColumn present value
    → values_of present value ≡ column → (length present ≡ length column) ×
    (length value ≡ length column)
column_len present value column h is =
    let len = sym (length-values_of present value h.same) ∙ ap length is in
    (len, sym h.same ∙ len)

-- a value that is read
pub value_read : (present value : List Bool) (column : List (Option Bool)) (i : ℕ) (v x : Bool)
    → AreColumn present value → values_of present value ≡ column → v ≡ item present i
    → x ≡ item value i → value_of v x ≡ value_at column i
value_read present value column i v x h is here there =
    ap (λ b. value_of b x) here ∙ ap (value_of (item present i)) there
    ∙ sym (value_at-values_of present value h.same i) ∙ ap (λ c. value_at c i) is

-- the rows that are true
pub true_rows : (present value : List Bool) (column : List (Option Bool)) → AreColumn present value
    → values_of present value ≡ column → (i : ℕ)
    → IsTrue (item value i) ↔ (value_at column i ≡ Some true)
true_rows present value column h is i =
    let at = sym (value_at-values_of present value h.same i) ∙ ap (λ c. value_at c i) is in (
      λ set. sym at ∙ ap (λ v. value_of v (item value i)) (h.only i set) ∙ ap Some set,
      λ known. true_only (item present i) (item value i) (at ∙ known),
    )
  where
    true_only : (v x : Bool) → value_of v x ≡ Some true → x ≡ true
    true_only true x e = cc
    true_only false x e = cc

-- columns of comparisons
pub values_of-all : {X : Type 0} (p : X → Bool) (xs : List X)
    → values_of (replicate (length xs) true) (map p xs) ≡ map (λ x. Some (p x)) xs
values_of-all p [] = refl
values_of-all p (x ∷ xs) = ap (λ vs. Some (p x) ∷ vs) (values_of-all p xs)

module _ (comparison : Comparison) where
  value_known : (o : Option ℤ) → value_of (is_some o) (holds_known comparison o)
      ≡ compared comparison o
  value_known (Some v) = refl
  value_known None = refl

  pub values_of-known : (xs : List (Option ℤ))
      → values_of (map is_some xs) (map (holds_known comparison) xs) ≡ map (compared comparison) xs
  values_of-known [] = refl
  values_of-known (x ∷ xs) = ap (λ v. v ∷ values_of (map is_some xs)
      (map (holds_known comparison) xs))
      (value_known x) ∙ ap (λ vs. compared comparison x ∷ vs) (values_of-known xs)

  known_only : (o : Option ℤ) → holds_known comparison o ≡ true → is_some o ≡ true
  known_only (Some v) h = refl
  known_only None h = absurd (false≢true h)

  pub AreColumn-known : (xs : List (Option ℤ))
      → AreColumn (map is_some xs) (map (holds_known comparison) xs)
  AreColumn-known xs = record {
    same = length-map xs is_some ∙ sym (length-map xs (holds_known comparison));
    only = λ i set. elim (cases_lt i (length xs)) [
      | inl less ↦ get_or-map is_some xs i None false less
          ∙ known_only (get_or xs i None) (sym (get_or-map
          (holds_known comparison) xs i None false less) ∙ set)
      | inr past ↦ absurd (false≢true (sym (get_or_past (map (holds_known comparison) xs) i false
          (omega (arith, past, length-map xs (holds_known comparison)))) ∙ set))
    ];
  }

-- ---- all values

module _ (present value : List Bool) (h : AreColumn present value) where
  module _ (after : List Bool) (d : Bits.AreCombined differ value present after) where
    pub AreValuesChanged-not : AreValuesChanged sql_not (values_of present value) (values_of present after)
    AreValuesChanged-not =
        let same : length present ≡ length after = h.same ∙ sym d.len in
        record {
          len = length-values_of present after same ∙ sym (length-values_of present value h.same);
          each = λ i. value_at-values_of present after same i
              ∙ ap (value_of (item present i)) (d.each i)
              ∙ not_value (item present i) (item value i) (h.only i)
              ∙ ap sql_not (sym (value_at-values_of present value h.same i));
        }

  module _ (presents values : List Bool) (o : AreColumn presents values) where
    combined : (f : Option Bool → Option Bool → Option Bool) (after trues : List Bool)
        → length after ≡ length trues → length after ≡ length present
        → ((i : ℕ) → value_of (item after i) (item trues i) ≡ f (value_of (item present i)
        (item value i)) (value_of (item presents i) (item values i)))
        → AreValuesCombined f (values_of present value) (values_of presents values)
        (values_of after trues)
    combined f after trues same long each = record {
      len = length-values_of after trues same ∙ long ∙ sym (length-values_of present value h.same);
      each = λ i. value_at-values_of after trues same i ∙ each i
          ∙ ap (λ c. f c (value_of (item presents i) (item values i)))
          (sym (value_at-values_of present value h.same i))
          ∙ ap (f (value_at (values_of present value) i))
          (sym (value_at-values_of presents values o.same i));
    }

    module _ (both trues after : List Bool)
        (a : Bits.AreCombined ◌&&◌ present presents both)
        (b : Bits.AreCombined ◌||◌ value values trues)
        (c : Bits.AreCombined ◌||◌ both trues after) where
      pub AreValuesCombined-or : AreValuesCombined sql_or (values_of present value) (values_of presents values)
          (values_of after trues)
      AreValuesCombined-or =
          combined sql_or after trues (omega (arith, a.len, b.len, c.len, h.same)) (c.len ∙ a.len)
          (λ i.
          let v = c.each i ∙ ap (λ e. e || item trues i) (a.each i)
          ∙ ap (λ e. (item present i && item presents i) || e) (b.each i) in
          ap (λ e. value_of e (item trues i)) v
          ∙ ap (value_of ((item present i && item presents i) || (item value i || item values i)))
          (b.each i)
          ∙ or_value (item present i) (item value i) (item presents i) (item values i) (h.only i)
          (o.only i))

    module _ (falses trues either after : List Bool)
        (a : Bits.AreCombined differ present value falses)
        (t : Bits.AreCombined ◌&&◌ value values trues)
        (e : Bits.AreCombined ◌||◌ falses trues either)
        (c : Bits.AreCombined ◌||◌ either (pointwise without presents values) after) where
      present_is : (i : ℕ) → item after i ≡ ((differ (item present i) (item value i)
          || (item value i && item values i)) || (item presents i && not (item values i)))
      present_is i = c.each i ∙ ap (λ d. d || item (pointwise without presents values) i)
          (e.each i ∙ ap (λ d. d || item trues i) (a.each i)
          ∙ ap (λ d. differ (item present i) (item value i) || d) (t.each i))
          ∙ ap (λ d. (differ (item present i) (item value i) ||
          (item value i && item values i)) || d)
          (item-pointwise without presents values o.same refl i)

      pub AreValuesCombined-and : AreValuesCombined sql_and (values_of present value)
          (values_of presents values) (values_of after trues)
      AreValuesCombined-and =
          combined sql_and after trues (omega (arith, a.len, t.len, c.len, e.len, h.same))
          (c.len ∙ e.len ∙ a.len)
          (λ i. ap (λ d. value_of d (item trues i)) (present_is i)
          ∙ ap (value_of ((differ (item present i) (item value i)
          || (item value i && item values i)) || (item presents i && not (item values i))))
          (t.each i)
          ∙ and_value (item present i) (item value i) (item presents i) (item values i) (h.only i)
          (o.only i))
