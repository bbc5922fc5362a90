-- The blocks are the packing of the bits.
use Rattle.std.proofs.Common.{◌+◌, ◌/◌, ◌∙◌, ap, arith, false, length, map, subst, sym}
use Rattle.std.specs.Option.{option_map, unwrap_or}
use Rattle.vob_block.proofs.PackingLemmas.{length-unpacking}
use Rattle.vob.proofs.SetsLemmas.{IsNext-blocks, enough_blocks}
use Rattle.vob.specs.Sets.{IsNext}
use Rattle.vob_slots.specs.Summaries.{Seen, words}
use Rattle.vob_slots.proofs.SummaryLemmas.{words_need}
use Rattle.vob_slots.proofs.search.Level.next_unset.Goals as goal

pub next_index-requires : goal.next_index-requires
next_index-requires c =
    let items = c.self.inside.blocks.items in
    enough_blocks 64 (omega arith) (λ block. block) items _ _ c.self.invariant
    (sym (length-unpacking c.self.inside.len (map (λ block. block) items) 64))

pub returns-clause-next : goal.returns-clause-next
returns-clause-next c =
    let items = c.self.inside.blocks.items in
    subst (λ (s : Seen). IsNext false s.bits c.args.from c.next_index.result) c.self.view_is
    (IsNext-blocks 64 (omega arith) (λ block. block) items _ _ c.self.invariant
    (sym (length-unpacking c.self.inside.len (map (λ block. block) items) 64)) false _ _ c.next_index.ensures.found)

pub returns-clause-reads : goal.returns-clause-reads
returns-clause-reads c =
    let found = option_map (λ i. i / 64 + 1) c.next_index.result in
    let long = length-unpacking c.self.inside.len (map (λ block. block) c.self.inside.blocks.items) 64 in
    let most = ap (unwrap_or found) (words_need c.self.inside.len ∙ ap words (sym long)
    ∙ ap (λ (s : Seen). words (length s.bits)) c.self.view_is) in
    omega (arith, most, c.next_index.ensures.reads, ap (λ (s : Seen). s.reads) c.self.view_is)
