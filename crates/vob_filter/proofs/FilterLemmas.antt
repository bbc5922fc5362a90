-- How many rows a condition is true of.
use Rattle.std.specs.Prelude.{IsTrue}
use Rattle.std.specs.Option.{unwrap_or}
use Rattle.std.proofs.Common.{◌≡◌, ◌↔◌, ℕ, ◌+◌, Bool, true, false, List, Option, Some, None, refl, sym, ap, ◌∙◌, arith}
use Rattle.std.proofs.lemmas.Bool.{false≢true}
use Rattle.vob_block.specs.Packing.{item}
use Rattle.vob.specs.Bits.{count_of}
use Rattle.vob.proofs.SetsLemmas.{counted}
use Rattle.vob_filter.specs.Columns.{row_at}
use Rattle.vob_filter.specs.Filter.{IsFilter, truth, true_count}
use Rattle.vob_filter.specs.declared.filter.Expression.{Expression}

is_kept : (bit : Bool) (o : Option Bool) → IsTrue bit ↔ (o ≡ Some true) → unwrap_or o false ≡ bit
is_kept true o same = ap (λ p. unwrap_or p false) (same.0 refl)
is_kept false None same = refl
is_kept false (Some true) same = absurd (false≢true (same.1 refl))
is_kept false (Some false) same = refl

-- as many as there are set bits
pub true_count-kept : (expression : Expression) (columns : List (List (Option Bool))) (rows : ℕ)
    (kept : List Bool) → IsFilter expression columns rows kept
    → count_of true kept ≡ true_count expression columns rows
true_count-kept expression columns rows kept h =
    sym (counted (λ i. unwrap_or (truth expression (row_at columns i)) false) 0 kept rows
    (omega (arith, h.len))
    (λ i less. let same : 0 + i ≡ i = omega arith in
    ap (λ k. unwrap_or (truth expression (row_at columns k)) false) same
    ∙ is_kept (item kept i) (truth expression (row_at columns i)) (h.each i)))
