-- One row more has a Vob.
use Rattle.std.proofs.Common.{◌∙◌, ◌++◌, ◌∷◌, [], List, Bool, take, ap, sym, arith}
use Rattle.std.proofs.lemmas.List.{take_more}
use Rattle.vob.proofs.VobsLemmas.{bits_of_push}
use Rattle.vob_rows.proofs.rows.BitRows.to_vobs.Goals as goal

pub loop-i-preserved : goal.loop-i-preserved
loop-i-preserved g c =
    let rows = c.args.self.now.rows in
    let k = c.loop-i.i in
    let vob = c.in_ok-to_vob.field-0 in
    rw c.in_ok-push.ensures.items (bits_of_push c.loop-i.vobs.items vob
    ∙ ap (λ (lists : List (List Bool)). lists ++ vob.bits ∷ []) c.loop-i.invariant
    ∙ ap (λ (bits : List Bool). take k rows ++ bits ∷ []) (c.in_ok-to_vob.ensures.bits ∙ c.row.ensures.bits)
    ∙ sym (take_more rows k [] (omega arith)))
