-- One name more.
use Rattle.std.proofs.Common.{◌≡◌, ◌∙◌, ap, length, List, ℕ, arith}
use Rattle.vob_c.proofs.NameLemmas.{named_more}
use Rattle.vob_c.proofs.tables.push_names.Goals as goal

pub loop-name-preserved : goal.loop-name-preserved
loop-name-preserved c =
    let bytes = c.extend_from_slice.new.self in
    let is = c.in_ok-extend_from_slice.ensures.items in
    let long : c.len.result ≡ length bytes.items = omega (arith, c.len.ensures, bytes.ok.0) in
    rw (c.in_ok-push.ensures.items, is)
    (named_more c.loop-name.offsets.items c.loop-name.bytes.items _ c.len.result
    (long ∙ ap (λ (xs : List ℕ). length xs) is) c.loop-name.invariant)
