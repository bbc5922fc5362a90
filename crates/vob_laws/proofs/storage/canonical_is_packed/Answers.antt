-- Canonical storage is the packing of what it holds, and nothing else is canonical.
use Rattle.std.proofs.Common.{sym}
use Rattle.vob_block.proofs.PackingLemmas.{packing-unpacking, canonical_from_packing}
use Rattle.vob_laws.proofs.storage.canonical_is_packed.Goals as goal

pub returns : goal.returns
returns c =
    λ w n blocks wide. (
      (λ h. (h.count, sym (packing-unpacking w wide n blocks h))),
      (λ packed. canonical_from_packing w wide n blocks packed.1),
    )
