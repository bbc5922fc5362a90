-- Cited by no public clause: why a conversation ends with no reply, as its parts say it.
use Rattle.std.specs.Prelude.{ℕ, List, ⊤}
use Rattle.vob_lines.specs.declared.session.Ending.{Ending}
use Rattle.vob_lines.specs.declared.session.Ending.TheVariants.{Failed, BadLine, Memory}
use Rattle.vob_lines.specs.declared.line.LineError.{LineError}
use Rattle.vob_lines.specs.declared.line.LineError.TheVariants as line_error
use Rattle.vob_lines.specs.Cuts.{lines_of}
use Rattle.vob_lines.specs.Reading.{IsFirstBadLine, IsRefused, WantsMemory}

-- how it ends over these lines, once they are read: all lines before a bad one read as calls, and
-- so do those before a line for which memory was refused
abbrev pub Ends : List (List ℕ) → Ending → Type 0
Ends lines Failed = ⊥
Ends lines (BadLine n) = IsFirstBadLine lines n
Ends lines Memory = IsRefused lines

-- how it ends for an input, which may not be read whole
abbrev pub Stops : List ℕ → Ending → Type 0
Stops input Failed = ⊤
Stops input (BadLine n) = IsFirstBadLine (lines_of input) n
Stops input Memory = WantsMemory input

-- how it ends at the line with this number
abbrev pub ending_at : LineError → ℕ → Ending
ending_at line_error.Unreadable line = BadLine line
ending_at line_error.Memory line = Memory
