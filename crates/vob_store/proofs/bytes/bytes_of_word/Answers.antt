-- The word whose bytes are given out has each byte reversed.
use Rattle.std.proofs.Common.{rules, ℕ, ◌<◌, List, get_or, sym, ap, subst, ◌∙◌}
use Rattle.std.specs.Int.{w64, from_le_bytes}
use Rattle.std.proofs.lemmas.Nat.{from_le_bytes-to_le_bytes_8}
use Rattle.vob_store.proofs.WordLemmas.{bytes_small, places-reversed}
use Rattle.vob_store.proofs.bytes.bytes_of_word.Goals as goal

pub returns : goal.returns
returns c = places-reversed c.args.word c.reverse_each_byte.result c.to_le_bytes.result
    (λ i. subst (λ (bs : List ℕ). get_or bs i 0 < 256) (sym c.to_le_bytes.ensures)
    (bytes_small 8 0 c.reverse_each_byte.result i)) (ap (from_le_bytes w64) c.to_le_bytes.ensures
    ∙ from_le_bytes-to_le_bytes_8 c.reverse_each_byte.result (search rules))
    c.reverse_each_byte.ensures
