-- The byte at hand is added, and is no quote or belongs to a backslash.
use Rattle.std.proofs.Common.{◌≡◌, ◌≢◌, ◌⊎◌, inl, inr, true, below_more, get_or, refl, arith}
use Rattle.std.specs.Prelude.{slice_index}
use Rattle.std.proofs.lemmas.Grind.{common_steps}
use Rattle.files_dot.proofs.PieceLemmas.{quoted_more, quote_is_not_here}
use Rattle.files_dot.proofs.quoted.read_quoted.Goals as goal
use Rattle.files_dot.proofs.quoted.read_quoted.Goals.{else-not-is_escaped-via-then-not-is_escaped+else-byte-eq34, else-not-is_escaped-via-else-not-is_escaped}

pub bytes-preserved : goal.bytes-preserved
bytes-preserved c =
    let inside = c.args.inside.now in
    let at = c.bytes.i in
    let so_far = c.bytes.invariant in
    let test : (c.bytes.is_escaped ≡ true) ⊎ (slice_index inside at ≢ 34) =
    elim c.else-not-is_escaped.branch [
      | else-not-is_escaped-via-then-not-is_escaped+else-byte-eq34 w ↦ inr w.if-byte-eq34.false
      | else-not-is_escaped-via-else-not-is_escaped w ↦ inl (grind (arith, common_steps))
    ] in
    let step = quoted_more inside at c.bytes.is_escaped so_far.0 (get_or inside at 0) _ _ _ _ c.bytes-test.true refl
    so_far.1 c.in_ok-is_escaped.ensures.next c.in_ok-is_escaped.ensures.text in
    (step.0, step.1, below_more _ _ so_far.2 (quote_is_not_here inside at c.bytes.is_escaped so_far.0 test))
