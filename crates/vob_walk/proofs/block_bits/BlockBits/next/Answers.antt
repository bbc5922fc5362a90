-- The first true place is the index that is ready, and one less is left.
use Rattle.std.proofs.Common.{◌<◌, ◌∷◌, ◌∙◌, ap, sym, arith}
use Rattle.vob_walk.specs.Cursor.{block_indices}
use Rattle.vob_walk.proofs.BlockBitsLemmas.{block_indices-zero, some_left, first_there, block_indices-first, IsBlockBits-cleared, left-first}
use Rattle.vob_walk.proofs.block_bits.BlockBits.next.Goals as goal

pub without_first-requires : goal.without_first-requires
without_first-requires g c =
    let s = c.self.inside in
    let left : 0 < s.left = grind (arith, c.if-self-eq0.false) in
    λ zero. some_left c.self.invariant.count left (block_indices-zero _ s.at _ zero)

pub counted-requires-clause-bits : goal.counted-requires-clause-bits
counted-requires-clause-bits g c =
    let h = c.self.invariant in
    let left : 0 < c.self.inside.left = grind (arith, c.if-self-eq0.false) in
    let lowest = h.first left in
    let first = first_there _ c.self.inside.at _ _ lowest.1 (some_left h.count left) in
    IsBlockBits-cleared _ _ _ _ lowest.0 first.0 first.1
    (c.without_first.ensures.places lowest.0 lowest.1) c.without_first.ensures.within h.bits

pub counted-requires-clause-count : goal.counted-requires-clause-count
counted-requires-clause-count g c =
    let h = c.self.invariant in
    let left : 0 < c.self.inside.left = grind (arith, c.if-self-eq0.false) in
    let lowest = h.first left in
    let first = first_there _ c.self.inside.at _ _ lowest.1 (some_left h.count left) in
    left-first h.count (block_indices-first _ c.self.inside.at _ _ lowest.0 first.0 first.1
    (c.without_first.ensures.places lowest.0 lowest.1) lowest.1)

pub returns : goal.returns
returns g c =
    let s = c.self.inside in
    let h = c.self.invariant in
    let left : 0 < s.left = grind (arith, c.if-self-eq0.false) in
    let lowest = h.first left in
    let first = first_there _ s.at _ _ lowest.1 (some_left h.count left) in
    rw (← c.self.view_is, c.self-2.view_is, c.counted.ensures)
    (block_indices-first _ s.at _ _ lowest.0 first.0 first.1
    (c.without_first.ensures.places lowest.0 lowest.1) lowest.1
    ∙ ap (λ i. i ∷ block_indices g.T.BitBlock.BITS s.at (g.T.BitBlock.number c.without_first.result))
    (sym lowest.2))
