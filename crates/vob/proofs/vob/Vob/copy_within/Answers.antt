-- The range is cut to the indices from one to below another, which hold what it holds.
use Rattle.std.proofs.Common.{arith, inl, inr}
use Rattle.std.specs.declared.ops.Bound.TheVariants.{Included, Excluded}
use Rattle.vob.proofs.CopyLemmas.{count_is, FitsFrom-range, IsCopied-range, IsCopied-list}
use Rattle.vob_walk.proofs.WindowLemmas.{IsRangeOf-own}
use Rattle.vob.proofs.vob.Vob.copy_within.Goals as goal

pub move_between-requires-clause-fits : goal.move_between-requires-clause-fits
move_between-requires-clause-fits g c =
    let cut = c.cut_range-start.ensures in
    let low = g.R.RangeBounds.start_bound c.args.range in
    let high = g.R.RangeBounds.end_bound c.args.range in
    elim c.requires.fits [
      | inl known ↦ omega (
        arith,
        known.1,
        count_is low high c.args.self.now.bits c.len.ensures.len (cut.window known.0),
      )
      | inr all ↦ omega (arith, all, cut.inside, c.len.ensures.len)
    ]

pub returns-clause-bits : goal.returns-clause-bits
returns-clause-bits g c = λ known.
    let cut = c.cut_range-start.ensures in
    let low = g.R.RangeBounds.start_bound c.args.range in
    let high = g.R.RangeBounds.end_bound c.args.range in
    let range = cut.window known in
    IsCopied-list low high c.args.self.now.bits c.len.ensures.len range
    c.move_between.ensures.each
    (FitsFrom-range low high c.args.self.now.bits c.len.ensures.len range _ _ _ c.requires.fits)

pub returns-clause-each : goal.returns-clause-each
returns-clause-each g c = λ known.
    let cut = c.cut_range-start.ensures in
    let low = g.R.RangeBounds.start_bound c.args.range in
    let high = g.R.RangeBounds.end_bound c.args.range in
    IsCopied-range low high c.args.self.now.bits c.len.ensures.len (cut.window known)
    c.move_between.ensures.each

pub returns-clause-some : goal.returns-clause-some
returns-clause-some g c =
    let cut = c.cut_range-start in
    let start = cut.result.0 in
    let stop = cut.result.1 in
    let own = IsRangeOf-own start stop c.len.result cut.ensures.ordered cut.ensures.inside in (
      start,
      stop,
      cut.ensures.ordered,
      omega (arith, cut.ensures.inside, c.len.ensures.len),
      IsCopied-range (Included start) (Excluded stop) c.args.self.now.bits c.len.ensures.len own
          c.move_between.ensures.each,
    )

pub returns-clause-len : goal.returns-clause-len
returns-clause-len g c = c.move_between.ensures.each.len
