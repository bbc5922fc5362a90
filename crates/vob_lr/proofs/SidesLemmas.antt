-- Rules with the same symbols have the same parses.
use Rattle.std.proofs.Common.{◌≡◌, ℕ, zero, suc, List, [], ◌∷◌, ◌++◌, map, Some, slice_get, refl, sym, ap, ◌∙◌, subst}
use Rattle.std.specs.Prelude.{reverse}
use Rattle.vob_lr.specs.Derivations.{DerivesBy, ParsesAreOfSymbols, sides}
use Rattle.vob_lr.specs.Derivations.DerivesBy.{nothing, further}
use Rattle.vob_lr.specs.declared.grammar.Rule.{Rule}
use Rattle.vob_lr.specs.declared.grammar.Symbol.{Symbol}
use Rattle.vob_lr.specs.declared.grammar.Symbol.TheVariants.{Terminal, Nonterminal}

-- a rule is there in both
same_at : (rules others : List Rule) → map sides rules ≡ map sides others → (n : ℕ) (rule : Rule) →
    slice_get rules n ≡ Some rule →
    (other : Rule) × (slice_get others n ≡ Some other) × (sides rule ≡ sides other)
same_at [] others same n rule is = absurd (cc)
same_at (r ∷ rs) [] same n rule is = absurd (cc)
same_at (r ∷ rs) (o ∷ os) same zero rule is =
    let own : r ≡ rule = cc in
    let first : sides r ≡ sides o = cc in (o, refl, ap sides (sym own) ∙ first)
same_at (r ∷ rs) (o ∷ os) same (suc n) rule is = same_at rs os (cc) n rule is

derives_same : (rules others : List Rule) → map sides rules ≡ map sides others →
    (tokens : List ℕ) (xs : List Symbol) (by : List ℕ) → DerivesBy rules tokens xs by →
    DerivesBy others tokens xs by
derives_same rules others same tokens xs [] (nothing e) = nothing e
derives_same rules others same tokens xs (r ∷ by) (further {rule = rule} before after is shape rest) =
    let (other, there, sides_are) = same_at rules others same r rule is in
    further before after there
    (shape ∙ ap (λ p. before ++ Nonterminal p.0 ∷ map Terminal after) sides_are)
    (subst (λ p. DerivesBy others tokens (before ++ (p.1 ++ map Terminal after)) by) sides_are
    (derives_same rules others same tokens _ by rest))

pub parse_same : ParsesAreOfSymbols
parse_same rules others same tokens parsed parse =
    let (other, there, sides_are) = same_at rules others same 0 parse.rule parse.is in
    record {
      rule = other;
      is = there;
      symbols = parse.symbols;
      then_end = ap (λ p. p.1) (sym sides_are) ∙ parse.then_end;
      derives = derives_same rules others same tokens parse.symbols (reverse parsed) parse.derives;
    }
