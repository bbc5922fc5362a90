-- The bytes and zeros behind them are the one block of their packing, where there are some.
use Rattle.std.proofs.Common.{◌*◌, ◌++◌, ◌∷◌, [], length, refl, sym, ◌∙◌, arith}
use Rattle.std.proofs.lemmas.List.{take_all, drop_all}
use Rattle.vob_block.specs.Packing.{packing}
use Rattle.vob_block.proofs.NeedLemmas.{lt-need}
use Rattle.vob_store.proofs.AppendLemmas.{packed_more, packed_all}
use Rattle.vob_store.proofs.PackLemmas.{some_left, none_left}
use Rattle.vob_store.proofs.LowBytesLemmas.{low_bits, length-low_bits, low_places_from_same}
use Rattle.vob_store.proofs.le_bytes.push_low_bytes.Goals as goal

pub push_reserved-requires : goal.push_reserved-requires
push_reserved-requires c =
    let bytes = c.args.bytes.now in
    let some = some_left (length bytes) c.is_empty.result c.is_empty.ensures
    c.if-not-is_empty.true in
    omega (
      arith,
      lt-need 64 (omega arith) (8 * length bytes) 0 (omega (arith, some)),
      c.requires.room,
      c.args.blocks.now.ok.0,
    )

pub returns-then-not-is_empty : goal.returns-then-not-is_empty
returns-then-not-is_empty c =
    let bytes = c.args.bytes.now in
    let olds = c.args.blocks.now.items in
    let bits = low_bits bytes in
    let word = c.low_word.result in
    let some = some_left (length bytes) c.is_empty.result c.is_empty.ensures
    c.if-not-is_empty.true in
    let long = length-low_bits bytes in
    let places = low_places_from_same word c.eight_bytes.result bytes c.eight_bytes.ensures
    c.low_word.ensures.places in
    c.push_reserved.ensures.items ∙ packed_all 64 (omega arith) (olds ++ word ∷ []) _ []
    (packed_more 64 (omega arith) olds (olds ++ packing bits 64) bits refl [] word (length bits)
    (omega (arith, some, long)) (omega (arith, c.requires.few, long))
    (sym (drop_all (length bits) bits (omega arith))) c.low_word.ensures.within
    (rw (take_all (length bits) bits (omega arith)) places)) refl

pub returns-else-not-is_empty : goal.returns-else-not-is_empty
returns-else-not-is_empty c =
    let bytes = c.args.bytes.now in
    let none = none_left (length bytes) c.is_empty.result c.is_empty.ensures
    c.if-not-is_empty.false in
    packed_all 64 (omega arith) c.args.blocks.now.items _ (low_bits bytes) refl
    (omega (arith, none, length-low_bits bytes))
