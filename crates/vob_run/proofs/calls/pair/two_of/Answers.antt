-- The slice is cut at the item further behind.
use Rattle.std.proofs.Common.{◌<◌, ◌≢◌, ◌∙◌, refl, arith}
use Rattle.std.proofs.lemmas.List.{set_comm}
use Rattle.vob_run.proofs.PairLemmas.{front-part, back-part, set-parts}
use Rattle.vob_run.proofs.calls.pair.two_of.Goals as goal

pub returns-then-first-second : goal.returns-then-first-second
returns-then-first-second g c =
    let xs = c.args.items.now in
    let i = c.args.first in
    let j = c.args.second in
    let front = c.split_at_mut-front.result.0.now in
    let back = c.split_at_mut-front.result.1.now in
    let cut = c.split_at_mut-front.ensures.value in
    let at = c.split_at_mut-front.ensures.front_len in
    let lt = c.if-first-second.true in
    let x = c.index-front-first in
    let y = c.index-back-0 in (
      ((refl, refl), set-parts xs front back i j cut at lt),
      record {
        writes_back = tt;
        first = front-part xs front back i j cut at lt x.result x.is;
        second = back-part xs front back i j cut at lt y.result c.requires.second y.is;
      },
    )

pub returns-else-first-second : goal.returns-else-first-second
returns-else-first-second g c =
    let xs = c.args.items.now in
    let i = c.args.second in
    let j = c.args.first in
    let halves = c.split_at_mut-front-else-first-second in
    let front = halves.result.0.now in
    let back = halves.result.1.now in
    let cut = halves.ensures.value in
    let at = halves.ensures.front_len in
    let lt : i < j = omega (arith, c.if-first-second.false, c.requires.different) in
    let x = c.index-front-second in
    let y = c.index-back-0-else-first-second in
    let other : i ≢ j = omega (arith, lt) in (
      ((refl, refl), λ v w. set-parts xs front back i j cut at lt w v ∙ set_comm xs i j w v other),
      record {
        writes_back = tt;
        first = back-part xs front back i j cut at lt y.result c.requires.first y.is;
        second = front-part xs front back i j cut at lt x.result x.is;
      },
    )
