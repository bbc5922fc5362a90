-- The states of the right side are left, and what follows by the left side is entered.
use Rattle.std.proofs.Common.{◌≡◌, [], ◌∷◌, drop, length, reverse, ap, ◌∙◌, arith}
use Rattle.std.proofs.lemmas.List.{reverse-append}
use Rattle.files_parse.proofs.ParserLemmas.{no_reduction}
use Rattle.files_parse.proofs.parser.reduce.Goals as goal

pub returns-in_default-next : goal.returns-in_default-next
returns-in_default-next c =
    let count : c.len.result ≡ length c.in-Some.rule.now.right.items =
    omega (arith, c.len.ensures, c.in-Some.rule.now.right.ok.0) in
    let left = c.leave.ensures ∙ ap (λ n. drop n (reverse c.args.states.now.items)) count in
    no_reduction c.args.table.now c.args.number c.in-Some.rule.now (reverse c.args.states.now.items) _
    c.in-Some.ensures.some left
    (λ p move.
    let found = (c.next.ensures p).1
    (rw (c.lookaheads.ensures.machine, c.newest.ensures, c.deref.ensures.value) move) in
    absurd (c.in_default-next.not-Some p found))

pub returns : goal.returns
returns c =
    let count : c.len.result ≡ length c.in-Some.rule.now.right.items =
    omega (arith, c.len.ensures, c.in-Some.rule.now.right.ok.0) in
    let left = c.leave.ensures ∙ ap (λ n. drop n (reverse c.args.states.now.items)) count in
    let move = (c.next.ensures c.in-Some-next.state).0 c.in-Some-next.is in
    record {
      rule = c.in-Some.rule.now;
      is = c.in-Some.ensures.some;
      state = c.in-Some-next.state;
      move = rw (← left)
          (rw (c.lookaheads.ensures.machine, c.newest.ensures, c.deref.ensures.value) at move);
      after = ap reverse c.in_ok-push.ensures.items
          ∙ reverse-append c.leave.new.states.items (c.in-Some-next.state ∷ [])
          ∙ ap (λ qs. c.in-Some-next.state ∷ qs) left;
    }
