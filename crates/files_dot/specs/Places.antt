-- Places in a text.
use Rattle.std.specs.Prelude.{◌==◌, ◌+◌, ℕ, List, if◌then◌else◌}
use Rattle.std.specs.List.{fold}
use Rattle.files_dot.specs.declared.place.Place.{Place}

-- the place where a text begins
abbrev pub first_place : Place
first_place = record { line = 1; column = 1 }

-- the place after a byte that stands at a place
abbrev pub place_after : Place → ℕ → Place
place_after place byte = if byte == 10 then record { line = place.line + 1; column = 1 }
    else record { line = place.line; column = place.column + 1 }

-- the place after bytes that begin at a place
abbrev pub behind : Place → List ℕ → Place
behind place bytes = fold place_after place bytes
