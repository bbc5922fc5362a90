-- One move more keeps them.
use Rattle.std.proofs.Common.{◌≡◌, ◌+◌, ◌<◌, ◌∙◌, ℕ, Global, List, [], Vec, ap, arith, get_or, length, refl, slice_get, subst, sym}
use Rattle.std.specs.List.{Contains}
use Rattle.std.proofs.lemmas.List.{get_or-map, length-map}
use Rattle.std.proofs.lemmas.Option.{slice_get_read}
use Rattle.vob_lr.proofs.SetLemmas.{set_inside}
use Rattle.vob_lr.specs.Equations.{GainEach}
use Rattle.vob_lr.specs.Flows.{HasTables, IsKept, IsKeptAt}
use Rattle.vob_lr.specs.Walked.{IsOfFirst}
use Rattle.vob_lr.specs.Lookaheads.{Machine}
use Rattle.vob_lr.specs.declared.state.Move.{Move}
use Rattle.vob_lr.proofs.EquationLemmas.{GainEach-as, GainEach-both}
use Rattle.vob_lr.proofs.FlowLemmas.{kept_is, kept_more}
use Rattle.vob_lr.proofs.flows.Flows.keep.Goals as goal

pub keep_by-requires-clause-by : goal.keep_by-requires-clause-by
keep_by-requires-clause-by c =
    let m = c.args.self.now in
    let q = c.args.state in
    let k = c.loop-step.step in
    let moves = c.self.inside.moves.now in
    let row = c.index-moves-state.result.items in
    let h = subst (λ (z : Machine). HasTables z c.self.inside.nullable.now.bits
    c.self.inside.first.now.rows c.self.inside.opens.now.starts) c.self.view_is
    c.self.invariant in
    let count = length-map moves (λ (list : Vec Move Global). list.items) in
    let all = ap (λ (z : Machine). length z.moves) c.self.view_is in
    let state = set_inside m.sets q c.args.number c.requires.item in
    let low : q < length moves = omega (arith, count, all, h.states.count, state) in
    let same = ap (λ (z : Machine). get_or z.moves q []) (sym c.self.view_is)
    ∙ get_or-map (λ (list : Vec Move Global). list.items) moves q c.index-moves-state.result [] low
    ∙ ap (λ (list : Vec Move Global). list.items) (sym c.index-moves-state.is) in
    let inside : k < length row = omega arith in
    subst (λ (xs : List Move). Contains xs c.index.result.now) (sym same)
    (k, inside, sym c.index.ensures)

pub loop-step-preserved : goal.loop-step-preserved
loop-step-preserved c =
    let m = c.args.self.now in
    let q = c.args.state in
    let k = c.loop-step.step in
    let moves = c.self.inside.moves.now in
    let row = c.index-moves-state.result.items in
    let h = subst (λ (z : Machine). HasTables z c.self.inside.nullable.now.bits
    c.self.inside.first.now.rows c.self.inside.opens.now.starts) c.self.view_is
    c.self.invariant in
    let count = length-map moves (λ (list : Vec Move Global). list.items) in
    let all = ap (λ (z : Machine). length z.moves) c.self.view_is in
    let state = set_inside m.sets q c.args.number c.requires.item in
    let low : q < length moves = omega (arith, count, all, h.states.count, state) in
    let same = ap (λ (z : Machine). get_or z.moves q []) (sym c.self.view_is)
    ∙ get_or-map (λ (list : Vec Move Global). list.items) moves q c.index-moves-state.result [] low
    ∙ ap (λ (list : Vec Move Global). list.items) (sym c.index-moves-state.is) in
    let is = slice_get_read row (length row) k c.index.result.now refl (omega arith)
    c.index.ensures in
    GainEach-both (IsOfFirst (k + 1) (IsKeptAt m q c.args.number c.args.symbol))
    c.in_ok-keep_by.ensures c.loop-step.invariant
    (kept_more m _ _ _ h q c.args.number c.args.symbol k _
    (ap (λ (xs : List Move). slice_get xs k) same ∙ is))

pub returns : goal.returns
returns c =
    let m = c.args.self.now in
    let q = c.args.state in
    let j = c.args.number in
    let x = c.args.symbol in
    let moves = c.self.inside.moves.now in
    let row = c.index-moves-state.result.items in
    let h = subst (λ (z : Machine). HasTables z c.self.inside.nullable.now.bits
    c.self.inside.first.now.rows c.self.inside.opens.now.starts) c.self.view_is
    c.self.invariant in
    let count = length-map moves (λ (list : Vec Move Global). list.items) in
    let all = ap (λ (z : Machine). length z.moves) c.self.view_is in
    let state = set_inside m.sets q j c.requires.item in
    let low : q < length moves = omega (arith, count, all, h.states.count, state) in
    let same = ap (λ (z : Machine). get_or z.moves q []) (sym c.self.view_is)
    ∙ get_or-map (λ (list : Vec Move Global). list.items) moves q c.index-moves-state.result [] low
    ∙ ap (λ (list : Vec Move Global). list.items) (sym c.index-moves-state.is) in
    let end : c.loop-step.step ≡ length (get_or m.moves q []) = omega (arith, ap length same) in
    GainEach-as (IsKept m q j)
    (subst (λ (k : ℕ). GainEach (IsOfFirst k (IsKeptAt m q j x)) c.args.equations.now
    c.loop-step.equations) end c.loop-step.invariant)
    (kept_is m _ _ _ h q j x c.requires.next)
