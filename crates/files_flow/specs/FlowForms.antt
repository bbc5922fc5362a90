-- Lines of nodes and labels, or their JSON.
use Rattle.std.specs.Prelude.{◌≡◌, ℕ, Bool, List, [], ◌++◌, Option, Some, codes, cond}
use Rattle.std.specs.List.{flat_map}
use Rattle.files_forms.specs.Forms.{comma, first_of, is_first, json_name}
use Rattle.files_text.specs.Printed.{line_end, name_at}

-- a text of JSON, or else of lines
abbrev pub either : Bool → (own line : List ℕ) → List ℕ
either json own line = cond json own line

-- a label, a comma or a space before it
abbrev pub label_text : (json is_first : Bool) → List ℕ → List ℕ
label_text json is_first label = either json (comma is_first ++ json_name label) (codes " " ++ label)

-- the label of a place among others
abbrev pub label_item : (json : Bool) → List (List ℕ) → (first : Option ℕ) → ℕ → List ℕ
label_item json labels first place = label_text json (is_first first place) (name_at labels place)

-- the labels of some places
abbrev pub labels_text : (json : Bool) → List (List ℕ) → List ℕ → List ℕ
labels_text json labels places = flat_map (label_item json labels (first_of places)) places

-- the name of a node, with which its line begins
abbrev pub node_head : (json : Bool) → List (List ℕ) → ℕ → List ℕ
node_head json names node =
    either json (comma (is_first (Some 0) node) ++ (line_end ++ codes "{\"node\":") ++ json_name (name_at names node))
    (name_at names node)

-- what stands before the nodes, and behind them
abbrev pub head : (json : Bool) → List ℕ
head json = either json (codes "{\"nodes\": [") []

abbrev pub tail : (json : Bool) → List ℕ
tail json = either json (line_end ++ codes "]}" ++ line_end) []

-- a text of which P holds stands between them
abbrev pub IsFramed : (json : Bool) → (List ℕ → Type 0) → List ℕ → Type 0
IsFramed json P text = (body : List ℕ) × P body × (text ≡ head json ++ body ++ tail json)
