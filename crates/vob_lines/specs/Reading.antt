-- Which lines of the input read as calls, and which ends the reading.
use Rattle.std.specs.Prelude.{◌≡◌, ◌≢◌, ◌⊎◌, ℕ, ◌+◌, List, [], ◌∷◌, ◌++◌, length, filter, map, nat_lt, ⊤}
use Rattle.vob_run.specs.Call.{Call}
use Rattle.vob_lines.specs.Cuts.{lines_of, words_of}
use Rattle.vob_lines.specs.Grammar.{Reads}
use Rattle.vob_lines.specs.Lists.{BeginsAsList}

-- the words of each line that has some
abbrev pub sentences : List (List ℕ) → List (List (List ℕ))
sentences lines = filter (λ words. nat_lt 0 (length words)) (map words_of lines)

-- each of these sentences reads as its call
abbrev pub AllRead : List (List (List ℕ)) → List Call → Type 0
AllRead [] [] = ⊤
AllRead (words ∷ sentences) (call ∷ calls) = Reads words call × AllRead sentences calls
AllRead [] (call ∷ calls) = ⊥
AllRead (words ∷ sentences) [] = ⊥

-- a line that has words and reads as no call, after lines that do; its number counts from 1
-- Example: of "new 0" and "foo": line 2
pub record IsFirstBadLine (lines : List (List ℕ)) (n : ℕ) : Type 0 where
  pub before : List (List ℕ)
  pub line : List ℕ
  pub others : List (List ℕ)
  pub cut : lines ≡ before ++ line ∷ others
  pub place : n ≡ length before + 1
  pub calls : List Call
  pub read : AllRead (sentences before) calls
  pub words : words_of line ≢ []
  pub bad : (call : Call) → Reads (words_of line) call → ⊥

-- the first of some lines begins as a call that holds a list
abbrev pub HoldsListNext : List (List ℕ) → Type 0
HoldsListNext [] = ⊥
HoldsListNext (line ∷ lines) = BeginsAsList (words_of line)

-- memory was refused for a call of the first lines, which all read as calls, or for its reply, or
-- for the list of the line after them
pub record IsRefused (lines : List (List ℕ)) : Type 0 where
  pub before : List (List ℕ)
  pub others : List (List ℕ)
  pub cut : lines ≡ before ++ others
  pub calls : List Call
  pub read : AllRead (sentences before) calls
  pub wanted : (calls ≢ []) ⊎ HoldsListNext others

-- memory was refused for some of the input, and no line was read, or else for what its lines read as
abbrev pub WantsMemory : List ℕ → Type 0
WantsMemory input = (input ≢ []) ⊎ IsRefused (lines_of input)
