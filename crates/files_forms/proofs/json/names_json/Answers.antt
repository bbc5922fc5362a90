-- The next name is the last.
use Rattle.std.specs.Prelude.{String}
use Rattle.std.specs.String.{string_bytes}
use Rattle.std.specs.declared.alloc.Global.{Global}
use Rattle.std.proofs.Common.{ℕ, ◌<◌, List, [], ◌∷◌, ◌++◌, length, map, take, get_or, ap, subst, ◌∙◌, sym, arith}
use Rattle.std.proofs.lemmas.List.{map-append, take_all, take_more}
use Rattle.files_forms.specs.Forms.{AreJson, json_name}
use Rattle.files_forms.proofs.json.names_json.Goals as goal

pub loop-number-preserved : goal.loop-number-preserved
loop-number-preserved c =
    let names = c.args.names.now in
    let k = c.loop-number.number in
    let bytes : String Global → List ℕ = λ text. string_bytes text in
    let less : k < length names = omega arith in
    let text = c.in_ok-name_json.field-0 in
    ap (map bytes) c.in_ok-push.ensures.items ∙ map-append bytes c.loop-number.texts.items (text ∷ [])
    ∙ ap (λ l. l ++ bytes text ∷ []) c.loop-number.invariant
    ∙ ap (λ name. map json_name (take k names) ++ name ∷ []) (c.in_ok-name_json.ensures ∙ ap json_name c.name.ensures)
    ∙ sym (ap (map json_name) (take_more names k [] less) ∙ map-append json_name (take k names) (get_or names k [] ∷ []))

pub returns : goal.returns
returns c =
    let names = c.args.names.now in
    subst (λ list. AreJson list c.loop-number.texts.items) (take_all c.loop-number.number names (omega arith))
    c.loop-number.invariant
