-- A column of truth values that may be missing, and SQL's logic of three values.
use Rattle.std.specs.Prelude.{◌≡◌, ℕ, Bool, true, false, not, List, [], ◌∷◌, length, map, slice_index_or, Option, Some, None}
use Rattle.vob.specs.Sets.{IsSubset}

-- one value: missing if it isn't present
abbrev pub value_of : Bool → Bool → Option Bool
value_of false value = None
value_of true value = Some value

-- the values of two lists of bits
abbrev pub values_of : List Bool → List Bool → List (Option Bool)
values_of [] values = []
values_of (here ∷ present) [] = []
values_of (here ∷ present) (x ∷ values) = value_of here x ∷ values_of present values

-- lists of one length, in which no missing value is true
pub record AreColumn (present value : List Bool) : Type 0 where
  pub same : length present ≡ length value
  pub only : IsSubset value present

-- value i of a column, missing past its end
abbrev pub value_at : List (Option Bool) → ℕ → Option Bool
value_at column i = slice_index_or column i None

-- row i of some columns: the value of each
abbrev pub row_at : List (List (Option Bool)) → ℕ → List (Option Bool)
row_at columns i = map (λ column. value_at column i) columns

-- false if one is false, else missing if one is missing, else true
abbrev pub sql_and : Option Bool → Option Bool → Option Bool
sql_and (Some true) b = b
sql_and (Some false) b = Some false
sql_and None (Some false) = Some false
sql_and None (Some true) = None
sql_and None None = None

-- true if one is true, else missing if one is missing, else false
abbrev pub sql_or : Option Bool → Option Bool → Option Bool
sql_or (Some false) b = b
sql_or (Some true) b = Some true
sql_or None (Some true) = Some true
sql_or None (Some false) = None
sql_or None None = None

-- missing if it is missing, else its contrary
abbrev pub sql_not : Option Bool → Option Bool
sql_not (Some b) = Some (not b)
sql_not None = None

-- each value of a column changed by f
pub record AreValuesChanged (f : Option Bool → Option Bool) (column after : List (Option Bool))
    : Type 0 where
  pub len : length after ≡ length column
  pub each : (i : ℕ) → value_at after i ≡ f (value_at column i)

-- the values of two columns combined by f
pub record AreValuesCombined (f : Option Bool → Option Bool → Option Bool)
    (column other after : List (Option Bool)) : Type 0 where
  pub len : length after ≡ length column
  pub each : (i : ℕ) → value_at after i ≡ f (value_at column i) (value_at other i)
