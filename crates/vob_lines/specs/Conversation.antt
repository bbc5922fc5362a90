-- What the program writes for what it reads.
use Rattle.std.specs.Prelude.{◌≡◌, ◌≢◌, ◌⊎◌, ℕ, Bool, List, [], ◌++◌, codes, Option, IfSome}
use Rattle.std.specs.List.{flat_map}
use Rattle.std.specs.Fmt.{decimal}
use Rattle.std.specs.Io.KnownBytes.{Appends, Keeps}
use Rattle.vob_run.specs.Call.{Call}
use Rattle.vob_run.specs.Answer.{Answer}
use Rattle.vob_run.specs.Run.{IsRun}
use Rattle.vob_lines.specs.Cuts.{lines_of}
use Rattle.vob_lines.specs.Reading.{sentences, AllRead, IsFirstBadLine, WantsMemory}
use Rattle.vob_lines.specs.Texts.{text_of, line_of}
use Rattle.vob_lines.specs.Written.{AppendsPart}

-- a line for each answer
abbrev pub lines_for : List Answer → List ℕ
lines_for answers = flat_map (λ answer. line_of (text_of answer)) answers

-- the sentences read as calls, these run from no Vobs at all, and their answers are written
pub record Answers (input written : List ℕ) : Type 0 where
  pub calls : List Call
  pub read : AllRead (sentences (lines_of input)) calls
  pub answers : List Answer
  pub after : List (List Bool)
  pub run : IsRun 64 [] calls answers after
  pub text : written ≡ lines_for answers

-- the number of the first bad line is written, and nothing else
abbrev pub Refuses : List ℕ → List ℕ → Type 0
Refuses input written =
    (n : ℕ) × IsFirstBadLine (lines_of input) n × (written ≡ line_of (codes "bad line " ++ decimal n))

-- what is written for an input with each exit status, if reading and writing don't fail
abbrev pub Says : ℕ → List ℕ → List ℕ → Type 0
Says status input written =
    ((status ≡ 0) × Answers input written)
    ⊎ (((status ≡ 2) × Refuses input written)
    ⊎ ((status ≡ 3) × WantsMemory input × (written ≡ line_of (codes "memory"))))

-- a text is all that a reader has left, where that is known
abbrev pub IsInput : Option (List ℕ) → List ℕ → Type 0
IsInput remaining text = IfSome remaining (λ all. text ≡ all)

-- exactly a text that is told with this status was written, or a first part of one, and status 1
pub record Tells (status : ℕ) (remaining old new : Option (List ℕ)) : Type 0 where
  pub input : List ℕ
  pub read : IsInput remaining input
  pub told : ℕ
  pub text : List ℕ
  pub says : Says told input text
  pub whole : status ≢ 1 → (status ≡ told) × Appends old new text
  pub part : status ≡ 1 → AppendsPart old new text

-- the exit status, and what becomes of the bytes that a writer holds, for what a reader has left:
-- they stay as they are if reading fails
abbrev pub Converses : ℕ → Option (List ℕ) → Option (List ℕ) → Option (List ℕ) → Type 0
Converses status remaining old new =
    ((status ≡ 1) × Keeps old new) ⊎ Tells status remaining old new
