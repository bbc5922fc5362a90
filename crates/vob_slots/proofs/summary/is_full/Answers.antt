-- An unset bit of the word is found, or there is none.
use Rattle.std.proofs.Common.{◌+◌, ◌*◌, arith, length, map, refl, sym}
use Rattle.std.proofs.lemmas.Bool.{false≢true}
use Rattle.std.proofs.lemmas.List.{length-map}
use Rattle.vob_slots.proofs.SummaryLemmas.{enough_for, full_by, not_full_by}
use Rattle.vob_slots.proofs.summary.is_full.Goals as goal

pub next_index-requires : goal.next_index-requires
next_index-requires c =
    let items = c.blocks-2.result.items in
    enough_for c.args.bits.now.bits (map (λ block. block) items) c.blocks-2.ensures.blocks (length items)
    (sym (length-map items (λ block. block))) (c.args.word * 64 + c.min.result)
    (omega (arith, c.min.ensures, c.len-len.ensures.len))

pub returns-in-Some : goal.returns-in-Some
returns-in-Some c = (
  (λ on. absurd (false≢true on)),
  (λ all. absurd (not_full_by c.args.bits.now.bits (map (λ block. block) c.blocks-2.result.items)
      c.blocks-2.ensures.blocks c.args.word (c.args.word * 64 + c.min.result)
      (λ i less at. omega (arith, less, at, c.min.ensures, c.len-len.ensures.len))
      (omega (arith, c.min.ensures, c.len-len.ensures.len)) (omega (arith, c.min.ensures)) _
      c.in-Some.ensures.found all)),
)

pub returns : goal.returns
returns c = (
  (λ on. full_by c.args.bits.now.bits (map (λ block. block) c.blocks-2.result.items)
      c.blocks-2.ensures.blocks c.args.word (c.args.word * 64 + c.min.result)
      (λ i less at. omega (arith, less, at, c.min.ensures, c.len-len.ensures.len)) c.in-None.ensures.found),
  (λ all. refl),
)
