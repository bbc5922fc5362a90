-- The last block gets the places behind the used ones, where there are some and they are to be true.
use Rattle.std.proofs.Common.{◌%◌, sym, ap, ◌∙◌, inl, inr, map}
use Rattle.std.proofs.lemmas.List.{length-map}
use Rattle.vob_store.proofs.AppendLemmas.{Stores-last_filled, Stores-last_kept}
use Rattle.vob_store.proofs.fill.fill_last.Goals as goal
use Rattle.vob_store.proofs.fill.fill_last.Goals.{else-value-via-then-value+else-len-BITS-ne0, else-value-via-else-value}

pub returns-then-len-BITS-ne0 : goal.returns-then-len-BITS-ne0
returns-then-len-BITS-ne0 g c =
    let number = g.T.BitBlock.number in
    let ones = ap number c.ONES.ensures ∙ g.met.T.BitBlock.ones_number_law in
    rw (c.if-value.true, ← length-map c.args.blocks.now number) (Stores-last_filled _
    g.met.T.BitBlock.wide_law _ _ c.requires (rw c.BITS.ensures at c.if-len-BITS-ne0.true)
    (map number c.extend_last.new.blocks) _ ones c.extend_last.ensures)

pub returns-else-value : goal.returns-else-value
returns-else-value g c =
    let number = g.T.BitBlock.number in
    let kept = Stores-last_kept _ g.met.T.BitBlock.wide_law _ _ c.requires c.args.value in
    rw (← length-map c.args.blocks.now number) (elim c.else-value.branch [
      | else-value-via-then-value+else-len-BITS-ne0 u ↦
          kept (inr (ap (λ v. c.args.len % v) (sym u.BITS.ensures) ∙ u.if-len-BITS-ne0.false))
      | else-value-via-else-value u ↦ kept (inl u.if-value.false)
    ])
