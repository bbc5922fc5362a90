-- The rows are cut in two parts, one of the two in either.
use Rattle.std.proofs.Common.{ap, map, ◌∙◌, ◌||◌, arith}
use Rattle.vob_rows.proofs.PartLemmas.{at_low, at_high, combined_low, combined_high}
use Rattle.vob_c.proofs.rows.add_row.Goals as goal

pub returns-then-into-from : goal.returns-then-into-from
returns-then-into-from c =
    let cut = c.split_at_mut-low.ensures in
    combined_low (λ x. x) 64 c.args.count c.args.words.now _ _ cut.value c.args.from cut.front_len
    ◌||◌ _ _ (ap (map (λ x. x)) (c.words_at.ensures ∙ at_high (λ x. x) 64 c.args.count
    c.args.words.now _ _ cut.value c.args.from cut.front_len)) _ _ c.args.into
    c.if-into-from.true c.add_words.ensures

pub returns-else-into-from : goal.returns-else-into-from
returns-else-into-from c =
    let cut = c.split_at_mut-low-else-into-from.ensures in
    combined_high (λ x. x) 64 c.args.count c.args.words.now _ _ cut.value c.args.into cut.front_len
    ◌||◌ _ _ (ap (map (λ x. x)) (c.words_at-else-into-from.ensures ∙ at_low (λ x. x) 64 c.args.count
    c.args.words.now _ _ cut.value c.args.into cut.front_len c.args.from
    (omega (arith, c.if-into-from.false, c.requires.apart)))) _ _ c.add_words-else-into-from.ensures
