-- The range is cut at its end first, and then at its start.
use Rattle.vob_walk.proofs.WindowLemmas.{IsRangeOf-cut}
use Rattle.vob_walk.proofs.range.cut_range.Goals as goal

pub returns-clause-window : goal.returns-clause-window
returns-clause-window g c = λ in_range.
    let stop = c.past_last_index-stop.ensures in
    let start = c.first_index.ensures in
    IsRangeOf-cut _ _ _ _ _ stop.within start.within (stop.meets in_range) (start.meets in_range)
