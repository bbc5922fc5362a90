-- It is the item behind the last symbol.
use Rattle.std.proofs.Common.{◌∙◌, ap, arith, get_or, length, refl}
use Rattle.std.proofs.lemmas.Option.{slice_get_read}
use Rattle.vob_lr.specs.declared.grammar.Grammar.{Grammar}
use Rattle.vob_lr.specs.declared.items.Item.{Item}
use Rattle.vob_lr.proofs.items.Items.complete.Goals as goal

pub returns : goal.returns
returns c =
    let rules = c.args.self.now.rules.items in
    let rule = c.index.result.now in
    let item : Item = record { rule = c.args.rule; dot = c.len.result } in
    let read = c.index.ensures
    ∙ ap (λ (g : Grammar). get_or g.rules.items c.args.rule rule) c.self.view_is in
    let is = slice_get_read rules (length rules) c.args.rule rule refl c.requires read in
    record {
      item = item;
      is = record { rule = rule; is = is; dot = omega arith; number = omega arith };
      rule = refl;
      dot = omega (arith, c.len.ensures);
    }
