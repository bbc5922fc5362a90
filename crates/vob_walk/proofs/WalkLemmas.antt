-- A run over a walk gives what is left, in order or from the back, and fresh walks are the same.
use Rattle.std.specs.Iterator.Runs.{YieldsInOrder, YieldsInReverse}
use Rattle.std.proofs.iter.runs.Sources.{from_front, from_back, as_is, as_is_back}
use Rattle.std.specs.declared.ops.Bound.{Bound}
use Rattle.std.proofs.Common.{◌≡◌, ℕ, Bool, List, length, ap, sym, ◌∙◌}
use Rattle.vob_walk.specs.Walk.{Walk, IsFresh, GivesFirst, GivesLast}

pub walk_runs : YieldsInOrder GivesFirst (λ walk. walk.rest)
walk_runs p s = as_is p p.from.rest (from_front GivesFirst (λ i. i) (λ walk. walk.rest)
    (λ walk after h. ap length h.gives.0) (λ walk i after h. h.gives) p s)

pub walk_runs_back : YieldsInReverse GivesLast (λ walk. walk.rest)
walk_runs_back p s = as_is_back p p.from.rest
    (from_back GivesLast (λ i. i) (λ walk. walk.rest) (λ walk after h. ap length h.gives.0)
    (λ walk i after h. h.gives) p s)

abbrev walk_with : List ℕ → ℕ → ℕ → ℕ → Walk
walk_with rest reads left credit =
    record { rest = rest; reads = reads; left = left; credit = credit }

-- walks that have given and read nothing are what their bits make them
pub IsFresh-same : {walk own : Walk} {bits : List Bool} {value : Bool} {low high : Bound ℕ} {w : ℕ}
    → IsFresh walk bits value low high w → IsFresh own bits value low high w → walk ≡ own
IsFresh-same {walk} {own} one other =
    ap (λ rest. walk_with rest walk.reads walk.left walk.credit)
    (one.whole.rest ∙ sym other.whole.rest)
    ∙ ap (λ reads. walk_with own.rest reads walk.left walk.credit) (one.reads ∙ sym other.reads)
    ∙ ap (λ left. walk_with own.rest own.reads left walk.credit)
    (one.whole.left ∙ sym other.whole.left)
    ∙ ap (walk_with own.rest own.reads own.left) (one.whole.credit ∙ sym other.whole.credit)
