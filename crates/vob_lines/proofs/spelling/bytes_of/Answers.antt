-- The pairs are read one after another.
use Rattle.std.proofs.Common.{◌≡◌, ◌≢◌, codes, ◌+◌, ◌*◌, None, Some, arith, refl, take}
use Rattle.std.proofs.lemmas.Bool.Decides.{nat_tests}
use Rattle.std.proofs.lemmas.Grind.{common_steps}
use Rattle.vob_lines.proofs.SpellingLemmas.{not_dash, pairs_written, pair_at, length-pairs, writes_pairs, ArePairs_push, take_two}
use Rattle.vob_lines.proofs.spelling.bytes_of.Goals as goal
use Rattle.vob_lines.proofs.spelling.bytes_of.Goals.{then-is_empty-via-then-is_empty, then-is_empty-via-else-is_empty+then-word-ne0}

-- no digits, or an odd number of them
pub returns-then-is_empty-clause-err : goal.returns-then-is_empty-clause-err
returns-then-is_empty-clause-err c =
    let some = not_dash _ _ _ c.eq.ensures c.if-eq.false c.as_slice.ensures in
    λ _ bytes writes. let pairs = pairs_written _ bytes writes some in
    let twice = length-pairs _ bytes pairs.0 in
    elim c.then-is_empty.branch [
      | then-is_empty-via-then-is_empty w ↦ grind (arith, nat_tests)
      | then-is_empty-via-else-is_empty+then-word-ne0 w ↦ omega arith
    ]

-- two bytes that are no pair
pub returns-in_err-byte-clause-err : goal.returns-in_err-byte-clause-err
returns-in_err-byte-clause-err c =
    let some : c.args.word.now ≢ codes "-" =
    not_dash _ _ _ c.eq.ensures c.if-eq.false c.as_slice.ensures in
    let none : c.byte_of.result ≡ None = grind arith in
    let other = rw none at c.byte_of.ensures.none in
    λ _ bytes writes. let pairs = pairs_written _ bytes writes some in
    let twice = length-pairs _ bytes pairs.0 in
    other _ (pair_at _ bytes c.loop-k.k _ _ pairs.0 (omega arith) refl refl)

pub loop-k-preserved : goal.loop-k-preserved
loop-k-preserved c =
    let k = c.loop-k.k in
    let more =
    take_two c.args.word.now (2 * (k + 1)) (2 * k) _ (omega arith) (omega arith) refl in
    let found : c.byte_of.result ≡ Some c.in_ok-byte.byte = grind arith in
    let pair = rw found at c.byte_of.ensures.some in
    rw (more, c.in_ok-push.ensures.items) (ArePairs_push _ _ _ _ _ c.loop-k.invariant pair)

pub returns-clause-ok : goal.returns-clause-ok
returns-clause-ok c =
    let all : take (2 * c.loop-k.k) c.args.word.now ≡ c.args.word.now =
    grind (arith, nat_tests, common_steps) in
    let pairs = rw all at c.loop-k.invariant in
    writes_pairs _ _ pairs (grind (arith, nat_tests))
