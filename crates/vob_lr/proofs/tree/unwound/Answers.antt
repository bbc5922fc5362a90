-- All symbols are taken back.
use Rattle.std.proofs.Common.{rules, ◌≡◌, ap, List, ℕ, Option, ◌+◌, [], length, reverse, subst}
use Rattle.vob_lr.specs.Unwinding.{IsUnwound}
use Rattle.vob_lr.specs.declared.grammar.Symbol.{Symbol}
use Rattle.vob_lr.proofs.UnwindLemmas.{all_left, nearer, none_left}
use Rattle.vob_lr.proofs.tree.unwound.Goals as goal

pub forms-init : goal.forms-init
forms-init c =
    let all = all_left c.args.rules.now c.args.tokens.now c.args.parsed.now c.args.symbols.now c.requires in
    let same : c.in_ok-form.form.items ≡ c.args.symbols.now = search rules in
    let none : reverse c.in_ok-moves.moves.items ≡ [] =
    ap (λ (l : List (Option ℕ)). reverse l) c.in_ok-moves.ensures.items in
    rw (same, none) all

pub forms-smaller : goal.forms-smaller
forms-smaller c =
    let next = c.in_ok-made.ensures c.args.tokens.now c.args.symbols.now (reverse c.forms.moves.items)
    (subst (λ (l : List Symbol). IsUnwound c.args.rules.now c.args.tokens.now c.args.parsed.now c.args.symbols.now l
    c.forms.left (reverse c.forms.moves.items)) c.in-Some.ensures.items c.forms.invariant) in
    nearer (length c.args.tokens.now + length c.args.parsed.now) (next.at + c.undo.new.left) c.forms.moves.items
    c.push.new.self.items c.in_ok-made.made next.count c.in_ok-push.ensures.items

pub returns : goal.returns
returns c =
    let none : c.forms.form.items ≡ [] = search rules in
    none_left c.args.rules.now c.args.tokens.now c.args.parsed.now c.args.symbols.now c.forms.form.items
    c.forms.left (reverse c.forms.moves.items) none c.forms.invariant
