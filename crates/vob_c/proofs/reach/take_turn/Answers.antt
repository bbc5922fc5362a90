-- The words of a row are canonical, and are added.
use Rattle.std.proofs.Common.{◌∙◌, ◌||◌, List, ℕ, Bool, ap, refl, subst, sym}
use Rattle.std.proofs.lemmas.List.{map-id}
use Rattle.vob_block.specs.Packing.{unpacking, IsCanonical}
use Rattle.vob_block.specs.Pointwise.{pointwise}
use Rattle.vob_rows.specs.Part.{blocks_of}
use Rattle.vob_c.proofs.CombineLemmas.{combined_stores}
use Rattle.vob_c.proofs.RowsLemmas.{row_here}
use Rattle.vob_c.proofs.reach.take_turn.Goals as goal

pub returns-clause-reached : goal.returns-clause-reached
returns-clause-reached c =
    let size = c.args.size in
    let words = c.args.words.now in
    let node = c.args.node in
    let row = c.words_at-row.result.now in
    let own : IsCanonical size row 64 = subst (λ (ys : List ℕ). IsCanonical size ys 64)
    (sym (c.words_at-row.ensures ∙ ap (λ n. blocks_of n words node) c.block_count.ensures))
    (c.requires.words.each node c.requires.node) in
    let made = combined_stores ◌||◌ refl size c.args.reached.now row _ c.combine_into.result
    c.requires.reached own (rw c.new.ensures.items at (simp map-id at c.combine_into.ensures.combined)) in
    record {
      canonical = made.canonical;
      bits = made.bits ∙ ap (λ (bits : List Bool). pointwise ◌||◌ (unpacking size c.args.reached.now 64) bits)
          (ap (λ (ys : List ℕ). unpacking size ys 64) (c.words_at-row.ensures ∙ sym (map-id _))
          ∙ (row_here size size words c.requires.words _ c.block_count.ensures node c.requires.node).bits);
    }
