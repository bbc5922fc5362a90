-- The states of a reader.
use Rattle.std.proofs.lemmas.Bool.{false≢true}
use Rattle.std.proofs.Common.{◌==◌, false, true, Some, length, sym, ◌≡◌, ℕ, zero, suc, ◌+◌, List, [], ◌∷◌, ◌++◌, refl, ap, ◌∙◌, arith}
use Rattle.files_condition.specs.declared.waiting.Waiting.{Waiting as Held}
use Rattle.files_condition.specs.Conditions.{Test, Tree, contrary}
use Rattle.files_condition.specs.Reading.{Waiting, after, closing, is_inside, negate, with_alternatives}
use Rattle.files_condition.specs.States.{levels_of, waiting_of}

negate-contrary : (n : ℕ) (tree : Tree) → negate n (contrary tree) ≡ contrary (negate n tree)
negate-contrary zero tree = refl
negate-contrary (suc n) tree = negate-contrary n (contrary tree)

-- one `!` more
pub negate_more : (n : ℕ) (tree : Tree) → negate (n + 1) tree ≡ contrary (negate n tree)
negate_more n tree =
    let more : n + 1 ≡ suc n = omega arith in ap (λ k. negate k tree) more ∙ negate-contrary n tree

-- the last level that was pushed is the innermost
pub levels_of-push : (others : List Held) (held : Held) → levels_of (others ++ held ∷ [])
    ≡ waiting_of held ∷ levels_of others
levels_of-push [] held = refl
levels_of-push (first ∷ others) held = ap (λ l. l ++ waiting_of first ∷ []) (levels_of-push others held)

-- some level is left
pub inside_is : (items : List Held) → false ≡ (length items == 0) → is_inside (levels_of items) ≡ true
inside_is [] some = absurd (false≢true some)
inside_is (held ∷ others) some = by (levels_of others)
  where
    by : (levels : List Waiting) → is_inside (levels ++ waiting_of held ∷ []) ≡ true
    by [] = refl
    by (level ∷ levels) = refl

-- the innermost level ends
pub closing_is : (level : Waiting) (tree whole : Tree) (items before : List Held) (last : Held) (tests : List Test) →
    items ≡ before ++ last ∷ [] → whole ≡ with_alternatives level.alternatives tree →
    closing level tree (levels_of items) tests ≡ Some (after (waiting_of last) whole (levels_of before) tests)
closing_is level tree whole items before last tests same whole_is =
    ap (λ l. closing level tree l tests) (ap levels_of same ∙ levels_of-push before last)
    ∙ ap (λ t. Some (after (waiting_of last) t (levels_of before) tests)) (sym whole_is)
