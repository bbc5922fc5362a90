-- All tests passed.
use Rattle.std.proofs.Common.{inl, refl}
use Rattle.vob_c.proofs.StatusLemmas.{tells_all}
use Rattle.vob_c.proofs.live.conthiral_liveness.Goals as goal

pub returns-clause-status : goal.returns-clause-status
returns-clause-status c = rw (← c.saturating_sub-nodes.ensures) (inl (tells_all (
  c.if-not-are_offsets.ensures.0 refl,
  c.if-not-has_row_words.ensures.0 refl,
  c.if-not-has_row_words-2.ensures.0 refl,
  c.if-not-has_row_words-3.ensures.0 refl,
  c.if-not-has_row_words-4.ensures.0 refl,
)
    (c.if-not-are_canonical.ensures.0 refl, c.if-not-are_canonical-2.ensures.0 refl)
    (c.if-not-all_below.ensures.0 refl)))
