-- What a contract sees of raw storage.
use Rattle.std.specs.Prelude.{ℕ, List}

-- a length in bits and some blocks, which promise nothing of one another
pub record RawStorage (T : Type 0) : Type 0 where
  pub len : ℕ
  pub blocks : List T
