-- The numbers of the refusals, and what a call at an index refuses.
use Rattle.std.specs.Prelude.{◌≡◌, ◌≢◌, ◌↔◌, ℕ, ◌<◌, Bool, List, length, Result, Err}
use Rattle.vob.specs.declared.error.VobError.{VobError}
use Rattle.vob.specs.declared.error.VobError.TheVariants.{TooLong, Memory, PastEnd}

-- 1 for a length past the greatest one, 2 for want of memory, 4 for an index past the end
abbrev pub refusal_number : VobError → ℕ
refusal_number TooLong = 1
refusal_number Memory = 2
refusal_number PastEnd = 4

-- what a call at an index refuses: one past the end always, and no length as too great
pub record RefusesPastEnd {A : Type 0} (bits : List Bool) (at : ℕ) (result : Result A VobError) : Type 0 where
  pub past_end : (result ≡ Err PastEnd) ↔ (length bits < at)
  pub too_long : result ≢ Err TooLong
