-- Truth tables: what holds of one bit or of two, whatever they are.
use Rattle.std.specs.Prelude.{Some}
use Rattle.std.proofs.Common.{◌≡◌, ◌≢◌, ◌↔◌, Bool, true, false, not, ◌&&◌, ◌||◌, cond, refl, sym, ap}
use Rattle.std.proofs.lemmas.Bool.{false≢true}
use Rattle.vob_block.specs.Pointwise.{differ, without}

pub or-false : (b : Bool) → (b || false) ≡ b
or-false true = refl
or-false false = refl

pub or-absorbs : (a b : Bool) → (b || (a && b)) ≡ b
or-absorbs a true = refl
or-absorbs true false = refl
or-absorbs false false = refl

pub and-none : (a b : Bool) → (a ≡ true → b ≡ false) → (a && b) ≡ false
and-none true b h = h refl
and-none false b h = refl

-- ---- a bit under a test

pub or-test : (b t : Bool) → (b || t) ≡ cond t true b
or-test true true = refl
or-test true false = refl
or-test false true = refl
or-test false false = refl

pub and-test : (b t : Bool) → (b && not t) ≡ cond t false b
and-test true true = refl
and-test true false = refl
and-test false true = refl
and-test false false = refl

pub differ-test : (b t : Bool) → differ b t ≡ cond t (not b) b
differ-test true true = refl
differ-test true false = refl
differ-test false true = refl
differ-test false false = refl

-- ---- whether two bits differ

pub differ-same : (a : Bool) → differ a a ≡ false
differ-same true = refl
differ-same false = refl

pub same_from_differ : (a b : Bool) → differ a b ≡ false → a ≡ b
same_from_differ true true e = refl
same_from_differ true false e = absurd (false≢true (sym e))
same_from_differ false true e = sym e
same_from_differ false false e = refl

pub differ-false : (b : Bool) → differ b false ≡ b
differ-false true = refl
differ-false false = refl

pub differ-true : (b : Bool) → differ b true ≡ not b
differ-true true = refl
differ-true false = refl

-- a flag that is true where a bit has another value is whether they differ
pub differ-is : (r b v : Bool) → ((r ≡ true) ↔ (Some b ≢ Some v)) → r ≡ differ b v
differ-is true true true h = absurd (h.0 refl refl)
differ-is false true true h = refl
differ-is true false false h = absurd (h.0 refl refl)
differ-is false false false h = refl
differ-is true true false h = refl
differ-is false true false h = h.1 (λ e. cc)
differ-is true false true h = refl
differ-is false false true h = h.1 (λ e. cc)

-- ---- a bit that the first has and the other hasn't

pub has_too : (a b : Bool) → without a b ≡ false → a ≡ true → b ≡ true
has_too true true e h = refl
has_too true false e h = absurd (false≢true (sym e))
has_too false b e h = absurd (false≢true h)

pub without-none : (a b : Bool) → (a ≡ true → b ≡ true) → without a b ≡ false
without-none true b h = ap not (h refl)
without-none false b h = refl

-- what differs from what both have is what the first has alone
pub differ-both : (a b : Bool) → differ a (a && b) ≡ without a b
differ-both true b = refl
differ-both false b = refl
