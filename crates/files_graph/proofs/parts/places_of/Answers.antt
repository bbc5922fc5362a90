-- Each node stands at some place.
use Rattle.std.proofs.Common.{◌≤◌, arith, length}
use Rattle.files_graph.proofs.parts.places_of.Goals as goal

pub returns : goal.returns
returns c =
    let h = c.loop-back.invariant in
    let nodes = c.args.components.now.nodes in
    let all : length nodes.items ≤ c.loop-back.back =
    omega (arith, c.loop-back-test.false, c.len-back-end.ensures, nodes.ok.0) in
    record {
      long = h.long;
      inside = λ n less.
          let w = c.requires.whole n less in
          let e = h.each n w.0 less w.1 (omega (arith, all)) w.2 in
          omega (arith, e.0, w.1);
      there = λ n less.
          let w = c.requires.whole n less in
          (h.each n w.0 less w.1 (omega (arith, all)) w.2).1;
      first = λ n j less j_in is. (h.each n j less j_in (omega (arith, all)) is).0;
    }
