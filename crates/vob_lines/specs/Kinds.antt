-- Cited by no public clause: which kinds of words follow which keyword, as the reader of a line goes.
use Rattle.std.specs.Prelude.{◌≡◌, ℕ, List, [], ◌∷◌, map}
use Rattle.vob_run.specs.Call.{Call}
use Rattle.vob_lines.specs.Arguments.{Argument, number, bit, bits, bytes, range, pulls, Spells, AllSpell}
use Rattle.vob_lines.specs.Grammar.{form_of}
use Rattle.vob_lines.specs.Keywords.{word_of}
use Rattle.vob_lines.specs.declared.keyword.Keyword.{Keyword}
use Rattle.vob_lines.specs.declared.keyword.Keyword.TheVariants.{Fresh, Number, NumberNumber}
use Rattle.vob_lines.specs.declared.keyword.Keyword.TheVariants.{BitNumber, NumberBit}
use Rattle.vob_lines.specs.declared.keyword.Keyword.TheVariants.{NumberNumberBit, BitList}
use Rattle.vob_lines.specs.declared.keyword.Keyword.TheVariants.{NumberBitList, Bytes, Raw, Record}
use Rattle.vob_lines.specs.declared.keyword.Keyword.TheVariants.{Drain, Walk, Count}

-- a kind of word
pub data Kind : Type 0 where
  a_number : Kind
  a_bit : Kind
  some_bits : Kind
  some_bytes : Kind
  a_range : Kind
  some_pulls : Kind

abbrev pub kind_of : Argument → Kind
kind_of (number n) = a_number
kind_of (bit value) = a_bit
kind_of (bits values) = some_bits
kind_of (bytes values) = some_bytes
kind_of (range start end) = a_range
kind_of (pulls ends) = some_pulls

-- kinds of words: none, or a number for each word that is left, or one kind before others
pub data Kinds : Type 0 where
  nothing : Kinds
  numbers : Kinds
  before : Kind → Kinds → Kinds

-- the kinds of the words after a keyword
abbrev pub kinds_of : Keyword → Kinds
kinds_of Fresh = nothing
kinds_of (Number word) = before a_number nothing
kinds_of (NumberNumber word) = before a_number (before a_number nothing)
kinds_of (BitNumber word) = before a_bit (before a_number nothing)
kinds_of (NumberBit word) = before a_number (before a_bit nothing)
kinds_of (NumberNumberBit word) = before a_number (before a_number (before a_bit nothing))
kinds_of (BitList word) = before some_bits nothing
kinds_of (NumberBitList word) = before a_number (before some_bits nothing)
kinds_of Bytes = before some_bytes nothing
kinds_of Raw = before a_number (before a_bit numbers)
kinds_of Record = before a_number numbers
kinds_of Drain = before a_number (before a_range nothing)
kinds_of Walk = before a_number (before a_bit (before a_range (before some_pulls nothing)))
kinds_of Count = before a_number (before a_bit (before a_range nothing))

-- the first word stands for this argument, and the others are left
pub record Takes (words : List (List ℕ)) (argument : Argument) (rest : List (List ℕ)) : Type 0 where
  pub word : List ℕ
  pub first : words ≡ word ∷ rest
  pub spelled : Spells word argument

-- the first word stands for some argument of this kind
pub record Begins (words : List (List ℕ)) (kind : Kind) : Type 0 where
  pub argument : Argument
  pub rest : List (List ℕ)
  pub takes : Takes words argument rest
  pub same : kind_of argument ≡ kind

-- the words are of these kinds
abbrev pub Are : List (List ℕ) → Kinds → Type 0
Are words nothing = words ≡ []
Are words numbers = (values : List ℕ) × AllSpell words (map number values)
Are words (before kind kinds) = (begins : Begins words kind) × Are begins.rest kinds

-- a call has this keyword, and these words after it spell its arguments
pub record IsLine (keyword : Keyword) (words : List (List ℕ)) (call : Call) : Type 0 where
  pub word : (form_of call).word ≡ word_of keyword
  pub spelled : AllSpell words (form_of call).arguments
