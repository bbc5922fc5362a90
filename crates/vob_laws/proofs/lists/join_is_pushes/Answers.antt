-- By the bits that are pushes, one after another.
use Rattle.std.proofs.Common.{◌≡◌, Bool, List, [], ◌∷◌, ◌++◌, sym, ◌∙◌}
use Rattle.std.proofs.lemmas.List.{append-nil, append_assoc}
use Rattle.vob_laws.specs.Laws.{pushes}
use Rattle.vob_laws.proofs.lists.join_is_pushes.Goals as goal

joined : (bits others : List Bool) → bits ++ others ≡ pushes bits others
joined bits [] = append-nil bits
joined bits (value ∷ others) = sym (append_assoc bits (value ∷ []) others)
    ∙ joined (bits ++ value ∷ []) others

pub returns : goal.returns
returns c = joined
