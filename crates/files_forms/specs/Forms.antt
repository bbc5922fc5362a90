-- Names in the formats of other programs.
use Rattle.std.specs.Prelude.{◌≡◌, ◌==◌, ◌||◌, ℕ, Bool, false, List, [], ◌∷◌, ◌++◌, Option, None, Some, String, codes, cond, map}
use Rattle.std.specs.List.{flat_map}
use Rattle.std.specs.Str.Lossy.{utf8_lossy}
use Rattle.std.specs.String.{string_bytes}
use Rattle.std.specs.declared.alloc.Global.{Global}
use Rattle.serde_json.specs.Data.{string}
use Rattle.serde_json.specs.Written.{compact_text}

-- a byte of a label: a backslash stands before a double quote and a backslash
abbrev pub escaped : ℕ → List ℕ
escaped byte = cond ((byte == 34) || (byte == 92)) (92 ∷ byte ∷ []) (byte ∷ [])

-- a name between double quotes
abbrev pub label : List ℕ → List ℕ
label name = codes "\"" ++ flat_map escaped name ++ codes "\""

-- a name in JSON, as serde_json writes it
abbrev pub json_name : List ℕ → List ℕ
json_name name = compact_text (string (utf8_lossy name))

-- the first of some items
abbrev pub first_of : {X : Type 0} → List X → Option X
first_of [] = None
first_of (x ∷ xs) = Some x

-- whether a number is the first of some
abbrev pub is_first : Option ℕ → ℕ → Bool
is_first None number = false
is_first (Some first) number = first == number

-- a comma, unless what follows is the first
abbrev pub comma : Bool → List ℕ
comma is_first = cond is_first [] (codes ",")

-- texts are names in JSON
abbrev pub AreJson : List (List ℕ) → List (String Global) → Type 0
AreJson names texts = map (λ text. string_bytes text) texts ≡ map json_name names
