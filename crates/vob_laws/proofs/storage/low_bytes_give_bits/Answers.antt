-- Each place of the bytes is a bit, or past the length.
use Rattle.vob_laws.proofs.PackingLawsLemmas.{bits-low_bytes}
use Rattle.vob_laws.proofs.storage.low_bytes_give_bits.Goals as goal

pub returns : goal.returns
returns c = bits-low_bytes
