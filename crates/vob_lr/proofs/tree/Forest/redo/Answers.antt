-- A token that is read is a tree, and a rule makes one of others.
use Rattle.std.proofs.Common.{◌+◌, ap, ℕ, refl, List, length, subst, arith}
use Rattle.vob_lr.specs.Replays.{IsJoined}
use Rattle.vob_lr.specs.declared.grammar.Symbol.{Symbol}
use Rattle.vob_lr.proofs.ReplayLemmas.{has_roots, redone_rule, redone_token, room}
use Rattle.vob_lr.proofs.tree.Forest.redo.Goals as goal

pub overflow_add-self-in-None : goal.overflow_add-self-in-None
overflow_add-self-in-None c =
    omega (arith, room c.args.rules.now c.args.self.now c.args.made c.in-None.is c.requires)

pub right_of-requires : goal.right_of-requires
right_of-requires c = (has_roots c.args.rules.now c.args.self.now c.args.made c.in-Some.rule c.in-Some.is c.requires).there

pub join-requires : goal.join-requires
join-requires c =
    let h = has_roots c.args.rules.now c.args.self.now c.args.made c.in-Some.rule c.in-Some.is c.requires in
    let right = c.right_of.ensures h.rule h.is in
    omega (arith, h.long, ap (λ (l : List Symbol). length l) right)

pub returns-in_ok-push-in-None : goal.returns-in_ok-push-in-None
returns-in_ok-push-in-None c =
    redone_token c.args.rules.now c.args.self.now (record {
      nodes = c.args.self.now.nodes;
      roots = c.push.new.self;
      read = c.args.self.now.read + 1;
    }) c.args.made c.in-None.is refl c.in_ok-push-in-None.ensures.items refl

pub returns-in_ok-join-in-Some : goal.returns-in_ok-join-in-Some
returns-in_ok-join-in-Some c =
    let h = has_roots c.args.rules.now c.args.self.now c.args.made c.in-Some.rule c.in-Some.is c.requires in
    let right = ap (λ (l : List Symbol). length l) (c.right_of.ensures h.rule h.is) in
    redone_rule c.args.rules.now c.args.self.now c.join.new.self c.args.made c.in-Some.rule h.rule c.in-Some.is h.is
    (subst (λ (n : ℕ). IsJoined c.in-Some.rule n c.args.self.now c.join.new.self) right c.in_ok-join-in-Some.ensures)
