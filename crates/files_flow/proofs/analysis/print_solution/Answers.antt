-- The lines are those of the sets that were found.
use Rattle.std.proofs.Common.{cond, ap, sym}
use Rattle.files_flow.specs.FlowText.{sides_text}
use Rattle.files_flow.specs.Problems.{lists_of}
use Rattle.files_flow.proofs.analysis.print_solution.Goals as goal

pub returns-then-problem-clause-ok : goal.returns-then-problem-clause-ok
returns-then-problem-clause-ok g c = (
  _,
  rw c.deref.ensures.value at c.in_ok-put_sides.ensures.ok,
  record {
    near = _;
    far = _;
    solved = c.in_ok-sides.ensures;
    lines = sym (ap (λ b. cond b (sides_text c.args.json c.args.names.now (lists_of c.args.problem.now.labels.items)
        c.in_ok-sides.sides.near.rows c.in_ok-sides.sides.far.rows) (sides_text c.args.json c.args.names.now
        (lists_of c.args.problem.now.labels.items) c.in_ok-sides.sides.far.rows c.in_ok-sides.sides.near.rows))
        c.if-problem.true);
  },
)

pub returns-clause-ok : goal.returns-clause-ok
returns-clause-ok g c = (
  _,
  rw c.deref-2.ensures.value at c.in_ok-put_sides-2.ensures.ok,
  record {
    near = _;
    far = _;
    solved = c.in_ok-sides.ensures;
    lines = sym (ap (λ b. cond b (sides_text c.args.json c.args.names.now (lists_of c.args.problem.now.labels.items)
        c.in_ok-sides.sides.near.rows c.in_ok-sides.sides.far.rows) (sides_text c.args.json c.args.names.now
        (lists_of c.args.problem.now.labels.items) c.in_ok-sides.sides.far.rows c.in_ok-sides.sides.near.rows))
        c.if-problem.false);
  },
)
