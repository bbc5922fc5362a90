-- What precedence leaves of a shift and of rules, as yacc and bison resolve them.
use Rattle.std.specs.Prelude.{ℕ, if◌then◌else◌, nat_lt, List, [], ◌∷◌, None, Option, Some}
use Rattle.vob_lr.specs.declared.precedence.Associativity.{Associativity}
use Rattle.vob_lr.specs.declared.precedence.Associativity.TheVariants.{Left, Right, Neither, Unstated}
use Rattle.vob_lr.specs.declared.precedence.Precedence.{Precedence}
use Rattle.vob_lr.specs.declared.precedence.Stays.{Stays}
use Rattle.vob_lr.specs.declared.precedence.Stays.TheVariants.{Shift, Rule, Nothing, Both}

-- which of a shift and a rule that bind alike stay, by the side on which the terminal groups
abbrev pub stays_by : Associativity → Stays
stays_by Left = Rule
stays_by Right = Shift
stays_by Neither = Nothing
stays_by Unstated = Both

-- the one that binds more tightly stays, and both if one has no precedence
abbrev pub stays : Option Precedence → Option Precedence → Stays
stays None terminal = Both
stays (Some rule) None = Both
stays (Some rule) (Some terminal) =
    if nat_lt terminal.level rule.level then Rule
    else (if nat_lt rule.level terminal.level then Shift else stays_by terminal.associativity)

-- a rule that stays beside what is left of a shift and the rules behind it, unless nothing is left
abbrev pub beside : ℕ → Option ℕ × List ℕ → Option ℕ × List ℕ
beside r (None, []) = (None, [])
beside r (None, s ∷ rs) = (None, r ∷ s ∷ rs)
beside r (Some p, rs) = (Some p, r ∷ rs)

-- and so each of some rules
abbrev pub beside_all : List ℕ → Option ℕ × List ℕ → Option ℕ × List ℕ
beside_all [] rest = rest
beside_all (r ∷ rs) rest = beside r (beside_all rs rest)

-- what is left where rule r stands against a shift: rules rs stand behind it, and the rest is what
-- the shift and these leave
abbrev pub against : Stays → ℕ → List ℕ → Option ℕ × List ℕ → Option ℕ × List ℕ
against Rule r rs rest = (None, r ∷ rs)
against Shift r rs rest = rest
against Nothing r rs rest = (None, [])
against Both r rs rest = beside r rest

-- what is left of a shift to state p and some rules: each rule in turn stands against the shift
abbrev pub left_of : (ℕ → Stays) → ℕ → List ℕ → Option ℕ × List ℕ
left_of which p [] = (Some p, [])
left_of which p (r ∷ rs) = against (which r) r rs (left_of which p rs)

-- and of rules with a shift or without
abbrev pub resolved : (ℕ → Stays) → Option ℕ → List ℕ → Option ℕ × List ℕ
resolved which None rules = (None, rules)
resolved which (Some p) rules = left_of which p rules
