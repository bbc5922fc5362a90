-- Names one after another, and arrays that are the same.
use Rattle.std.proofs.Common.{◌≡◌, ℕ, ◌+◌, ◌-◌, ◌<◌, ◌≤◌, List, [], ◌∷◌, ◌++◌, length, get_or, ap, ◌∙◌, subst, inl, inr, arith, length-append}
use Rattle.std.proofs.lemmas.Bool.{cases_lt}
use Rattle.std.proofs.lemmas.List.{get_or_append_left}
use Rattle.std.proofs.Math.Seq.{get_or-append_seam}
use Rattle.vob_lr.specs.Tables.{TableView}
use Rattle.vob_arrays.specs.Arrays.{IsTableOf}
use Rattle.vob_c.specs.Tables.{AreNamed, table_arrays}

-- one name more
pub named_more : (offsets names name : List ℕ) (end : ℕ) → end ≡ length (names ++ name) →
    AreNamed offsets names → AreNamed (offsets ++ end ∷ []) (names ++ name)
named_more offsets names name end is named =
    let n = length offsets in
    let after = offsets ++ end ∷ [] in
    let long : length after ≡ n + 1 = omega (arith, length-append offsets (end ∷ [])) in
    let whole : end ≡ length names + length name = is ∙ length-append names name in
    let old : (k : ℕ) → k < n → get_or after k 0 ≡ get_or offsets k 0 =
    λ k low. get_or_append_left offsets (end ∷ []) 0 k low in
    let new : get_or after n 0 ≡ end = get_or-append_seam offsets end [] 0 in
    record {
      some = omega (arith, long);
      first = old 0 named.some ∙ named.first;
      rises = λ k low. elim (cases_lt (k + 1) n) as (λ _. get_or after k 0 ≤ get_or after (k + 1) 0) [
        | inl less ↦
            omega (arith, old k (omega (arith, less)), old (k + 1) less, named.rises k less)
        | inr last ↦
            let here : k + 1 ≡ n = omega (arith, last, low, long) in
            let at = ap (λ (i : ℕ). get_or after i 0) here in
            let same : get_or offsets k 0 ≡ get_or offsets (n - 1) 0 =
            ap (λ (i : ℕ). get_or offsets i 0) (let j : k ≡ n - 1 = omega (arith, here) in j) in
            omega (arith, at, new, old k (omega (arith, here)), same, named.last, whole)
      ];
      last = ap (λ (i : ℕ). get_or after i 0) (let j : length after - 1 ≡ n = omega (arith, long) in j)
          ∙ new ∙ is;
    }

-- arrays with the same numbers are those of the same table
pub table_same : (table : TableView) (terminals : ℕ) {os os' ss ss' more more' ls ls' ns ns' : List ℕ} →
    os ≡ os' → ss ≡ ss' → more ≡ more' → ls ≡ ls' → ns ≡ ns' →
    IsTableOf table (table_arrays terminals os ss more ls ns) →
    IsTableOf table (table_arrays terminals os' ss' more' ls' ns')
table_same table terminals {os} {os'} {ss} {ss'} {more} {more'} {ls} {ls'} {ns} {ns'} a b d e f of =
    let same : table_arrays terminals os ss more ls ns ≡ table_arrays terminals os' ss' more' ls' ns' = cc in
    subst (IsTableOf table) same of
