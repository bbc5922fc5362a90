-- So many bits are unpacked.
use Rattle.std.proofs.Common.{◌∙◌, ap, length, map, sym}
use Rattle.vob_block.proofs.PackingLemmas.{length-unpacking}
use Rattle.vob_slots.specs.Summaries.{Seen}
use Rattle.vob_slots.proofs.search.Level.len.Goals as goal

pub returns : goal.returns
returns c =
    sym (length-unpacking c.self.inside.len (map (λ block. block) c.self.inside.blocks.items) 64)
    ∙ ap (λ (s : Seen). length s.bits) c.self.view_is
