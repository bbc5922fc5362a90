-- A negated set lacks at first what its mask doesn't let through, and that of the entry lacks all.
use Rattle.std.proofs.Common.{◌∙◌, sym}
use Rattle.std.proofs.lemmas.Bool.{false≢true}
use Rattle.vob_flow.specs.Available.{IsEntry}
use Rattle.vob_flow.specs.Changes.{IsLacking}
use Rattle.vob_flow.specs.Draws.{mask_of}
use Rattle.vob_flow.specs.Greatest.{mask_from}
use Rattle.vob_flow.proofs.ChangesLemmas.{Becomes-again, Becomes-as}
use Rattle.vob_flow.proofs.CountLemmas.{Becomes-negated}
use Rattle.vob_flow.proofs.DrawLemmas.{fits_after}
use Rattle.vob_flow.proofs.GreatestLemmas.{mask_at_entry, mask_away}
use Rattle.vob_flow.proofs.complement.turn_start.Goals as goal

pub returns-then-is_entry-clause-lacking : goal.returns-then-is_entry-clause-lacking
returns-then-is_entry-clause-lacking c =
    let here = c.is_entry.ensures.0 c.if-is_entry.true in
    Becomes-as _ (Becomes-negated c.args.set c.requires.set c.negate_row.ensures.rows) (λ v. (
      (λ off. (off, mask_at_entry c.args.entry (mask_of c.args.masks) c.args.set v here)),
      (λ both. both.0),
    ))

pub take_kept-requires-clause-masks : goal.take_kept-requires-clause-masks
take_kept-requires-clause-masks c = fits_after c.args.masks c.requires.masks
    (Becomes-negated c.args.set c.requires.set c.negate_row.ensures.rows).shape.count
    c.negate_row.ensures.columns

pub returns-clause-lacking : goal.returns-clause-lacking
returns-clause-lacking c =
    let not_here : ¬ IsEntry c.args.entry c.args.set = λ here. false≢true (sym c.if-is_entry.false ∙ c.is_entry.ensures.1 here) in
    Becomes-again (IsLacking (mask_from c.args.entry c.args.masks) c.args.sets.now.rows c.args.set)
    (Becomes-negated c.args.set c.requires.set c.negate_row.ensures.rows) c.take_kept.ensures.left
    (λ v less is. (
      (λ r. (is.1 r.0, sym (mask_away c.args.entry (mask_of c.args.masks) c.args.set v not_here) ∙ r.1)),
      (λ q. (is.0 q.0, mask_away c.args.entry (mask_of c.args.masks) c.args.set v not_here ∙ q.1)),
    ))
