-- A list is what its packing unpacks to.
use Rattle.std.proofs.Common.{◌≡◌, ℕ, ◌<◌, Bool, List, length, ap, sym, ◌∙◌}
use Rattle.vob_block.specs.Packing.{packing, unpacking}
use Rattle.vob_block.proofs.PackingLemmas.{unpacking-packing}
use Rattle.vob_laws.proofs.lists.equal_where_storage_is.Goals as goal

list_from_storage : (w : ℕ) → 0 < w → (bits others : List Bool) → (length bits ≡ length others)
    × (packing bits w ≡ packing others w) → bits ≡ others
list_from_storage w wide bits others same =
    sym (unpacking-packing w wide bits) ∙ ap (λ n. unpacking n (packing bits w) w) same.0
    ∙ ap (λ xs. unpacking (length others) xs w) same.1 ∙ unpacking-packing w wide others

pub returns : goal.returns
returns c =
    λ w wide bits others. (
      (λ e. (ap length e, ap (λ bs. packing bs w) e)),
      list_from_storage w wide bits others,
    )
