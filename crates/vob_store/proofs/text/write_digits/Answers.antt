-- Each block's digits follow those of the blocks before.
use Rattle.std.proofs.Common.{◌≡◌, ◌-◌, ◌*◌, min, map, [], sym, ap, ◌∙◌, arith, rules}
use Rattle.std.proofs.Output.{has_written_append, has_written_of_eq}
use Rattle.std.proofs.lemmas.List.{get_or-map, map-append}
use Rattle.vob_block.specs.Digits.{digit}
use Rattle.vob_block.specs.Packing.{need, unpacking}
use Rattle.vob_block.proofs.NeedLemmas.{need_enough}
use Rattle.vob_store.proofs.StorageLemmas.{unpacking-zero}
use Rattle.vob_store.proofs.TextLemmas.{left-after, unpacking-more}
use Rattle.vob_store.proofs.text.write_digits.Goals as goal

pub loop-block-init : goal.loop-block-init
loop-block-init g c =
    let xs = map g.T.BitBlock.number c.args.blocks.now in
    let w = g.T.BitBlock.BITS in
    let none : [] ≡ map digit (unpacking (c.args.len - c.args.len) xs w) =
    ap (map digit) (sym (ap (λ n. unpacking n xs w) (omega arith) ∙ unpacking-zero xs w)) in
    record { left = omega arith; written = λ plain. has_written_of_eq _ _ _ _ _ none (search rules) }

pub loop-block-preserved : goal.loop-block-preserved
loop-block-preserved g c =
    let number = g.T.BitBlock.number in
    let items = c.args.blocks.now in
    let w = g.T.BitBlock.BITS in
    let k = c.loop-block.block-index in
    let block = ap number c.block-item.is
    ∙ sym (get_or-map number items k c.block-item.result 0 c.loop-block-test.true) in
    let left = c.loop-block.invariant.left in
    let count = (let e : c.min-count.result ≡ min c.loop-block.left w = search rules in e) in
    let more = unpacking-more w c.args.len k c.loop-block.left c.min-count.result
    (number c.block-item.result) (map number items) left count block in
    record {
      left = left-after w c.args.len k c.loop-block.left c.min-count.result left count;
      written = λ plain. has_written_of_eq _ _ _ _ _
          (sym (map-append digit _ _) ∙ ap (map digit) more)
          (has_written_append _ _ _ _ _ _ (c.loop-block.invariant.written plain) (search rules));
    }

pub returns : goal.returns
returns g c = λ plain _.
    let len = c.args.len in
    let w = g.T.BitBlock.BITS in
    let all : c.loop-block.block-index ≡ need len w =
    omega (arith, c.loop-block-test.false, c.loop-block.auto.block-index-end, c.requires) in
    let left = c.loop-block.invariant.left ∙ ap (λ k. len - k * w) all in
    let none : len - c.loop-block.left ≡ len =
    omega (arith, left, need_enough w g.met.T.BitBlock.wide_law len) in
    has_written_of_eq _ _ _ _ _
    (ap (λ n. map digit (unpacking n (map g.T.BitBlock.number c.args.blocks.now) w)) none)
    (c.loop-block.invariant.written plain)
