-- What a contract sees of blocks that are read.
use Rattle.std.specs.Prelude.{◌≡◌, ℕ, ◌+◌, List, length, Option, None, Some, refl}
use Rattle.std.specs.Coded.{Coded, code_by, coded×, coded_list, coded_ℕ}

-- one more than the count before, 0 where there is none
abbrev pub one_more : Option ℕ → ℕ
one_more None = 0
one_more (Some n) = n + 1

-- the blocks, the one with bit 0 first, and how many were read so far
-- Example: after block(0) of [5]: 1 read
pub record Reading (X : Type 0) : Type 0 where
  pub items : List X
  pub reads : ℕ

-- each of the blocks was read once
pub record AreReadOnce {X : Type 0} (before after : Reading X) : Type 0 where
  pub items : after.items ≡ before.items
  pub reads : after.reads ≡ before.reads + length before.items

-- a reading is stored as the pair of its fields
abbrev pub reading_code : {X : Type 0} → Coded X → Coded (Reading X)
reading_code {X} code =
    code_by (List X × ℕ) (coded× (coded_list code) coded_ℕ) (λ r. (r.items, r.reads)) (λ p. record { items = p.0; reads = p.1 }) (λ _. refl)
