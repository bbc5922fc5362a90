-- What the order of lists of bits obeys.
use Rattle.std.specs.Prelude.{◌≡◌, ◌↔◌, ◌⊎◌, Bool, List}
use Rattle.std.specs.Cmp.Lexicographic.{slice_cmp}
use Rattle.std.specs.Ordering.{bool_cmp}
use Rattle.std.specs.declared.cmp.Ordering.{Ordering}
use Rattle.std.specs.declared.cmp.Ordering.TheVariants.{Less, Equal, Greater}

-- how two lists compare: the first bits that differ decide, false before true, and else the length
abbrev pub order_of : List Bool → List Bool → Ordering
order_of bits others = slice_cmp bool_cmp bits others

-- one list comes before another
abbrev pub ComesBefore : List Bool → List Bool → Type 0
ComesBefore bits others = order_of bits others ≡ Less

-- of two lists one comes before the other, or they are equal
abbrev pub OrderIsTotal : Type 0
OrderIsTotal =
    (bits others : List Bool) → ComesBefore bits others ⊎ ((bits ≡ others) ⊎ ComesBefore others bits)

-- and no two of these hold: neither list is less where they are equal, and one is greater exactly
-- where the other is less
abbrev pub OrderIsStrict : Type 0
OrderIsStrict =
    (bits others : List Bool)
    → ((order_of bits others ≡ Equal) ↔ (bits ≡ others))
    × ((order_of bits others ≡ Greater) ↔ ComesBefore others bits)

-- what comes before a list comes before all that this list comes before
abbrev pub OrderIsTransitive : Type 0
OrderIsTransitive =
    (bits others last : List Bool) → ComesBefore bits others → ComesBefore others last
    → ComesBefore bits last
