-- What the order of lists of bits obeys, from its laws.
use Rattle.std.specs.Ordering.{ordering_reverse}
use Rattle.std.specs.Cmp.{bool_cmp_total}
use Rattle.std.specs.Cmp.Lexicographic.{lists_total}
use Rattle.std.specs.declared.cmp.Ordering.{Ordering}
use Rattle.std.specs.declared.cmp.Ordering.TheVariants.{Less, Equal, Greater}
use Rattle.std.proofs.Common.{◌≡◌, ◌⊎◌, Bool, true, false, List, [], ◌∷◌, refl, sym, ap, subst, ◌∙◌}
use Rattle.std.proofs.Common.{inl, inr}
use Rattle.vob_laws.specs.OrderLaws.{order_of, OrderIsTotal, OrderIsStrict, OrderIsTransitive}

-- an answer is no other one
abbrev IsLess : Ordering → Type 0
IsLess Less = Unit {0}
IsLess Equal = ⊥
IsLess Greater = ⊥

abbrev IsGreater : Ordering → Type 0
IsGreater Less = ⊥
IsGreater Equal = ⊥
IsGreater Greater = Unit {0}

less≢equal : Less ≡ Equal → ⊥
less≢equal e = subst IsLess e tt

greater≢equal : Greater ≡ Equal → ⊥
greater≢equal e = subst IsGreater e tt

-- lists that tie are equal
tied : (bits others : List Bool) → order_of bits others ≡ Equal → bits ≡ others
tied [] [] e = refl
tied [] (c ∷ others) e = absurd (less≢equal e)
tied (b ∷ bits) [] e = absurd (greater≢equal e)
tied (true ∷ bits) (true ∷ others) e = ap (λ l. true ∷ l) (tied bits others e)
tied (true ∷ bits) (false ∷ others) e = absurd (greater≢equal e)
tied (false ∷ bits) (true ∷ others) e = absurd (less≢equal e)
tied (false ∷ bits) (false ∷ others) e = ap (λ l. false ∷ l) (tied bits others e)

tied_itself : (bits : List Bool) → order_of bits bits ≡ Equal
tied_itself [] = refl
tied_itself (true ∷ bits) = tied_itself bits
tied_itself (false ∷ bits) = tied_itself bits

-- the answer is turned round where the lists are exchanged
turned : (bits others : List Bool) → order_of bits others ≡ ordering_reverse (order_of others bits)
turned = (lists_total bool_cmp_total).antisymm

pub order_strict : OrderIsStrict
order_strict bits others = (
  (tied bits others, λ e. ap (order_of bits) (sym e) ∙ tied_itself bits),
  (
    (λ more. turned others bits ∙ ap ordering_reverse more),
    (λ less. turned bits others ∙ ap ordering_reverse less),
  ),
)

cases_order : (o : Ordering) → (o ≡ Less) ⊎ ((o ≡ Equal) ⊎ (o ≡ Greater))
cases_order Less = inl refl
cases_order Equal = inr (inl refl)
cases_order Greater = inr (inr refl)

pub order_total : OrderIsTotal
order_total bits others = elim (cases_order (order_of bits others)) [
  | inl less ↦ inl less
  | inr rest ↦ elim rest [
    | inl same ↦ inr (inl (tied bits others same))
    | inr more ↦ inr (inr ((order_strict bits others).1.0 more))
  ]
]

pub order_transitive : OrderIsTransitive
order_transitive = (lists_total bool_cmp_total).trans
