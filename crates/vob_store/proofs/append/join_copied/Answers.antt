-- The blocks, behind those that are whole.
use Rattle.std.specs.Prelude.{is_ok}
use Rattle.std.proofs.Common.{◌≡◌, refl, ◌+◌, ◌++◌, true, length, map, arith, ◌∙◌}
use Rattle.std.proofs.lemmas.Bool.{cond-true}
use Rattle.std.proofs.lemmas.List.{length-append, length-map, map-append}
use Rattle.vob_block.specs.Packing.{need}
use Rattle.vob_block.proofs.NeedLemmas.{need_least}
use Rattle.vob_store.proofs.AppendLemmas.{Stores-behind}
use Rattle.vob_store.proofs.append.join_copied.Goals as goal

pub returns-clause-joined : goal.returns-clause-joined
returns-clause-joined g c =
    let w = g.T.BitBlock.BITS in
    let number = g.T.BitBlock.number in
    let xs = c.args.blocks.now.items in
    let ys = c.args.others.now in
    let joined = Stores-behind _ g.met.T.BitBlock.wide_law _ _ c.requires.canonical _ _ _
    c.requires.full (record { canonical = c.requires.other; bits = refl }) in
    let count : length xs + length ys ≡ need (c.args.len + c.args.more) w =
    omega (
      arith,
      length-append (map number xs) (map number ys),
      length-map xs number,
      length-map ys number,
      joined.canonical.count,
    ) in
    let fits = need_least w g.met.T.BitBlock.wide_law (c.args.len + c.args.more)
    c.args.blocks.now.cap c.requires.room in
    let done : is_ok c.extend_from_slice.result ≡ true =
    c.extend_from_slice.ensures.succeeds (omega (arith, count, fits, c.args.blocks.now.ok.0)) in
    let items : c.extend_from_slice.new.self.items ≡ xs ++ ys =
    c.extend_from_slice.ensures.items ∙ cond-true (is_ok c.extend_from_slice.result)
    (xs ++ ys) xs done in
    rw (items, map-append number xs ys) joined
