-- Counts up to the greatest number.
use Rattle.std.proofs.Common.{◌≡◌, ℕ, ◌+◌, ◌-◌, ◌<◌, List, get_or, length, take, min, sym, ap, ◌∙◌, arith}
use Rattle.std.proofs.lemmas.List.Sums.{sum_by_more}
use Rattle.files_grammar.specs.ConflictText.{rule_count}
use Rattle.files_grammar.specs.Conflicts.{Choice}

-- a sum is capped as its parts were
capped : (s m most : ℕ) → min (min s most + m) most ≡ min (s + m) most
capped s m most = omega arith

pub count_more : (choices : List Choice) (k count more next most : ℕ) (x : Choice) → k < length choices →
    x ≡ get_or choices k x → more ≡ length x.rules - 1 → count ≡ min (rule_count (take k choices)) most →
    next ≡ min (count + more) most → next ≡ min (rule_count (take (k + 1) choices)) most
count_more choices k count more next most x less at own so_far is =
    let total = sum_by_more (λ (c : Choice). length c.rules - 1) choices k x less in
    is ∙ ap (λ n. min (n + more) most) so_far ∙ capped (rule_count (take k choices)) more most
    ∙ ap (λ n. min (rule_count (take k choices) + n) most)
    (own ∙ ap (λ (c : Choice). length c.rules - 1) at)
    ∙ ap (λ n. min n most) (sym total)
