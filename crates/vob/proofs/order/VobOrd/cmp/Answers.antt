-- The first bits that differ decide, and else the lengths.
use Rattle.std.proofs.Common.{◌≡◌, length, refl, sym, ap, ◌∙◌}
use Rattle.vob_block.proofs.PackingLemmas.{length-unpacking}
use Rattle.vob.proofs.OrderLemmas.{cmp_greater, cmp_less, cmp_lengths}
use Rattle.vob.proofs.order.VobOrd.cmp.Goals as goal

pub get_unchecked-requires : goal.get_unchecked-requires
get_unchecked-requires g c = record {
  in_range = ((c.in-Some.ensures.first.some c.in-Some.index).0 refl).inside;
}

pub returns-in-Some : goal.returns-in-Some
returns-in-Some g c = sym (cmp_greater _ _ _
    ((c.in-Some.ensures.first.some c.in-Some.index).0 refl)
    (sym c.get_unchecked.ensures.item ∙ c.if-get_unchecked.true))

pub returns-in-Some-2 : goal.returns-in-Some-2
returns-in-Some-2 g c = sym (cmp_less _ _ _
    ((c.in-Some.ensures.first.some c.in-Some.index).0 refl)
    (sym c.get_unchecked.ensures.item ∙ c.if-get_unchecked.false))

pub returns-in-None : goal.returns-in-None
returns-in-None g c =
    let all = c.in-None.ensures.first.none.0 refl in
    let mine : length c.args.self.now.bits ≡ c.self.inside.len =
    ap (λ v. length v.bits) (sym c.self.view_is) ∙ length-unpacking _ _ _ in
    let theirs : length c.args.other.now.bits ≡ c.other.inside.len =
    ap (λ v. length v.bits) (sym c.other.view_is) ∙ length-unpacking _ _ _ in
    c.cmp.ensures ∙ sym (rw (mine, theirs) at (cmp_lengths c.args.self.now.bits c.args.other.now.bits all))
