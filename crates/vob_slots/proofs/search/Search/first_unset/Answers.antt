-- A summary leads to the first word that isn't full, and that to its first unset bit.
use Rattle.std.proofs.Common.{ap, arith, false, length, None, Some, refl, subst}
use Rattle.vob.specs.Sets.{IsNext}
use Rattle.vob_slots.specs.Summaries.{Seen, words}
use Rattle.vob_slots.proofs.SummaryLemmas.{next_by_none, next_by_word, read_one}
use Rattle.vob_slots.proofs.search.Search.first_unset.Goals as goal

pub returns-in_default-clause-next : goal.returns-in_default-clause-next
returns-in_default-clause-next c =
    let h = c.self.invariant in
    subst (λ (s : Seen). IsNext false s.bits 0 None) c.self.view_is
    (next_by_none _ _ h.0 (next_by_none _ _ h.1 c.in_default.ensures.next))

pub overflow_mul-group : goal.overflow_mul-group
overflow_mul-group c =
    omega (
      arith,
      ((c.in-Some.ensures.next.some c.in-Some.group).0 refl).inside,
      c.self.invariant.1.long,
      c.len-full.ensures,
    )

pub returns-in_default-next_unset-clause-next : goal.returns-in_default-next_unset-clause-next
returns-in_default-next_unset-clause-next c =
    let h = c.self.invariant in
    subst (λ (s : Seen). IsNext false s.bits 0 None) c.self.view_is
    (next_by_none _ _ h.0
    (next_by_word _ _ h.1 c.in-Some.group c.in-Some.ensures.next None c.in_default-next_unset.ensures.next))

pub returns-in_default-next_unset-clause-reads : goal.returns-in_default-next_unset-clause-reads
returns-in_default-next_unset-clause-reads c =
    let found = (c.in-Some.ensures.next.some c.in-Some.group).0 refl in
    let full = c.self.inside.full.bits in
    let one = read_one full _ c.self.invariant.1 c.in-Some.group found.inside found.there None
    c.in_default-next_unset.ensures.next (words (length full)) in
    omega (
      arith,
      one,
      found.inside,
      c.in-Some.ensures.reads,
      c.in_default-next_unset.ensures.reads,
      c.self.invariant.0.long,
      c.self.invariant.1.long,
      ap (λ (s : Seen). s.reads) c.self.view_is,
      ap (λ (s : Seen). words (words (words (length s.bits)))) c.self.view_is,
    )

pub overflow_mul-word : goal.overflow_mul-word
overflow_mul-word c =
    let found = (c.in-Some-next_unset.ensures.next.some c.in-Some-next_unset.word).0 refl in
    omega (arith, found.inside, c.self.invariant.0.long, c.len-bits.ensures)

pub returns-clause-next : goal.returns-clause-next
returns-clause-next c =
    let h = c.self.invariant in
    let word = c.in-Some-next_unset.word in
    let next = next_by_word c.self.inside.full.bits _ h.1 c.in-Some.group c.in-Some.ensures.next (Some word)
    c.in-Some-next_unset.ensures.next in
    subst (λ (s : Seen). IsNext false s.bits 0 c.next_unset-3.result) c.self.view_is
    (next_by_word c.self.inside.bits.bits _ h.0 word next _ c.next_unset-3.ensures.next)

pub returns-clause-reads : goal.returns-clause-reads
returns-clause-reads c =
    let h = c.self.invariant in
    let word = c.in-Some-next_unset.word in
    let bits = c.self.inside.bits.bits in
    let full = c.self.inside.full.bits in
    let group = (c.in-Some.ensures.next.some c.in-Some.group).0 refl in
    let found = (c.in-Some-next_unset.ensures.next.some word).0 refl in
    let one = read_one full _ h.1 c.in-Some.group group.inside group.there (Some word)
    c.in-Some-next_unset.ensures.next 0 in
    let last = read_one bits _ h.0 word found.inside found.there c.next_unset-3.result
    c.next_unset-3.ensures.next (words (length bits)) in
    omega (
      arith,
      one,
      last,
      group.inside,
      c.in-Some.ensures.reads,
      c.in-Some-next_unset.ensures.reads,
      c.next_unset-3.ensures.reads,
      h.0.long,
      h.1.long,
      ap (λ (s : Seen). s.reads) c.self.view_is,
      ap (λ (s : Seen). words (words (words (length s.bits)))) c.self.view_is,
    )
