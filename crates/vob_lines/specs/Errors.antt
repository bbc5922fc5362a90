-- Cited by no public clause: what an error says of the word or the words that were to be read.
use Rattle.std.specs.Prelude.{◌≡◌, ⊤, Result, IfErr}
use Rattle.vob_lines.specs.Kinds.{some_bits, some_bytes, some_pulls, Kinds, nothing, numbers, before}
use Rattle.vob_lines.specs.declared.line.LineError.{LineError}
use Rattle.vob_lines.specs.declared.line.LineError.TheVariants.{Unreadable}

-- what a reader says that takes no memory: its one error is the unreadable one, with this reason
abbrev pub OnlyUnreadable : {T : Type 0} → Result T LineError → Type 0 → Type 0
OnlyUnreadable result reason = IfErr result (λ error. (error ≡ Unreadable) × reason)

-- some of the words are a list, which takes memory
abbrev pub HoldList : Kinds → Type 0
HoldList nothing = ⊥
HoldList numbers = ⊤
HoldList (before some_bits kinds) = ⊤
HoldList (before some_bytes kinds) = ⊤
HoldList (before some_pulls kinds) = ⊤
HoldList (before kind kinds) = HoldList kinds
