-- The bytes of the word are its places, eight for each.
use Rattle.std.proofs.Common.{rules, ◌<◌, ℕ, ◌/◌, List, get_or, refl, sym, ap, subst, ◌∙◌}
use Rattle.std.specs.Int.{w64, from_le_bytes}
use Rattle.std.proofs.lemmas.Nat.{from_le_bytes-to_le_bytes_8}
use Rattle.vob_store.proofs.LowBytesLemmas.{low_places}
use Rattle.vob_store.proofs.WordLemmas.{bytes_small}
use Rattle.vob_c.proofs.BytesLemmas.{byte_place}
use Rattle.vob_c.proofs.bytes.low_byte.Goals as goal

pub returns : goal.returns
returns c =
    let x = get_or c.args.words.now (c.args.k / 8) 0 in
    let eight = c.to_le_bytes.result in
    let small = λ (i : ℕ). subst (λ (bs : List ℕ). get_or bs i 0 < 256) (sym c.to_le_bytes.ensures)
    (bytes_small 8 0 x i) in
    byte_place c.args.words.now eight c.args.k x refl (low_places eight small x
    (sym (ap (from_le_bytes w64) c.to_le_bytes.ensures
    ∙ from_le_bytes-to_le_bytes_8 x (search rules))))
