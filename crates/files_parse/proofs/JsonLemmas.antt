-- The names of nodes in JSON, one after another.
use Rattle.std.specs.Prelude.{String, slice_get}
use Rattle.std.specs.Option.{option_map}
use Rattle.std.specs.String.{string_bytes}
use Rattle.std.specs.declared.alloc.Global.{Global}
use Rattle.std.proofs.Common.{Some, ◌≡◌, ℕ, ◌+◌, ◌<◌, ◌≤◌, List, [], ◌∷◌, ◌++◌, length, map, take, get_or, ap, subst, sym, ◌∙◌, arith}
use Rattle.std.proofs.lemmas.List.{length-map, map-append, take_all}
use Rattle.std.proofs.lemmas.Option.{same_Some, slice_get-get_or, slice_get-map}
use Rattle.vob_lr.specs.declared.tree.Node.{Node}
use Rattle.files_grammar.specs.declared.file.GrammarFile.{GrammarFile}
use Rattle.files_parse.specs.JsonNames.{HasNames, name_of_node}
use Rattle.files_parse.proofs.TokenLemmas.{take_next}

module _ (file : GrammarFile) (tokens : List ℕ) (nodes : List Node) where
  abbrev bytes : String Global → List ℕ
  bytes text = string_bytes text

  abbrev name_of : Node → List ℕ
  name_of node = name_of_node file tokens node

  -- one name more
  pub names_more : (k : ℕ) (node : Node) (old new : List (String Global)) (text : String Global) → k < length nodes →
      node ≡ get_or nodes k node → new ≡ old ++ text ∷ [] → string_bytes text ≡ name_of node →
      HasNames file tokens (take k nodes) old → HasNames file tokens (take (k + 1) nodes) new
  names_more k node old new text less at more is has =
      ap (map bytes) more ∙ map-append bytes old (text ∷ []) ∙ ap (λ l. l ++ bytes text ∷ []) has
      ∙ ap (λ name. map name_of (take k nodes) ++ name ∷ []) is
      ∙ ap (λ own. map name_of (take k nodes) ++ name_of own ∷ []) at ∙ sym (take_next name_of nodes k node less)

  -- all names
  pub names_all : (k : ℕ) (names : List (String Global)) → length nodes ≤ k →
      HasNames file tokens (take k nodes) names → HasNames file tokens nodes names
  names_all k names past has = subst (λ list. HasNames file tokens list names) (take_all k nodes past) has

  -- the name of a node stands at its number
  pub name_there : (k : ℕ) (node : Node) (names : List (String Global)) (text : String Global) → k < length nodes →
      node ≡ get_or nodes k node → text ≡ get_or names k text → HasNames file tokens nodes names →
      string_bytes text ≡ name_of node
  name_there k node names text less at is has =
      let long = sym (length-map names bytes) ∙ ap length has ∙ length-map nodes name_of in
      let own = slice_get-map bytes names k
      ∙ ap (option_map bytes) (slice_get-get_or names k text (omega (arith, long, less)) ∙ ap Some (sym is)) in
      let other = slice_get-map name_of nodes k
      ∙ ap (option_map name_of) (slice_get-get_or nodes k node less ∙ ap Some (sym at)) in
      same_Some (bytes text) (name_of node) (sym own ∙ ap (λ list. slice_get list k) has ∙ other)
