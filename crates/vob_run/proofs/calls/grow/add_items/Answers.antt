-- The bits are added as items, of which none can be refused any more.
use Rattle.std.proofs.Common.{◌≡◌, ◌+◌, ◌-◌, ◌^◌, ◌<◌, ◌≤◌, ◌++◌, length, ap, ◌∙◌, arith}
use Rattle.std.proofs.lemmas.Iterator.{YieldsList-from_slice}
use Rattle.std.proofs.lemmas.Iterator.Consumers.{YieldsList-at, YieldsList-from_copied}
use Rattle.vob_run.proofs.ItemsLemmas.{all_added}
use Rattle.vob_run.proofs.calls.grow.add_items.Goals as goal

pub returns : goal.returns
returns g c =
    let bits = c.args.bits.now in
    let vob = c.args.vob.now in
    let reserved = c.in_ok-reserve.ensures in
    let did = c.extend.ensures.extended in
    let source = c.copied.ensures.source in
    let rest = c.iter.ensures.rest in
    let slice = YieldsList-at source (YieldsList-from_slice bits rest) in
    let road = YieldsList-at did.2 (YieldsList-from_copied slice) in
    let count : length did.0.iter.rest.now ≡ length bits =
    ap (λ s. length s.iter.rest.now) did.2 ∙ ap (λ i. length i.rest.now) source ∙ ap length rest in
    let lower : did.1 ≤ length bits = omega (arith, did.3 tt, count) in
    let not : 2 ^ 64 - 1 < length vob.bits + length bits → ⊥ = λ e.
    let wrong = reserved.refused.too_long.1 e in cc in
    let same = ap length reserved.bits in
    let all = all_added _ did.0 bits road did.1 c.reserve.new.self c.extend.new.self lower
    (omega (arith, reserved.ok, same)) (omega (arith, not, same)) c.extend.result did.4 in
    record {
      ok = rw all.0 (all.1 ∙ ap (λ l. l ++ bits) reserved.bits);
      err = rw all.0 tt;
      too_long = ((λ e. let done = all.0 in cc), (λ e. absurd (not e)));
      memory = λ e. let done = all.0 in cc;
      past_end = λ e. let done = all.0 in cc;
    }
