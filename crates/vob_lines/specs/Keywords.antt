-- Cited by no public clause: the keywords of the reader of a line, their texts, and which one a word is.
use Rattle.std.specs.Prelude.{ℕ, List, [], ◌∷◌, codes, Option, find}
use Rattle.std.specs.Str.{bytes_eq}
use Rattle.vob_lines.specs.declared.keyword.Keyword.{Keyword}
use Rattle.vob_lines.specs.declared.keyword.Keyword.TheVariants.{Fresh, Number, NumberNumber, BitNumber, NumberBit, NumberNumberBit, BitList, NumberBitList}
use Rattle.vob_lines.specs.declared.keyword.Keyword.TheVariants.{Bytes, Raw, Record, Drain, Walk, Count}
use Rattle.vob_lines.specs.declared.keyword.Number.TheVariants.{New, Clone, Room, Pop, Len, Empty, Clear, Negate, Shrink, Bits, Blocks}
use Rattle.vob_lines.specs.declared.keyword.NumberNumber.TheVariants.{Get, GetUnchecked, Index, Truncate, Join, Split, And, Or, Xor, AndNew, OrNew, XorNew}
use Rattle.vob_lines.specs.declared.keyword.NumberNumber.TheVariants.{Equal, Reserve}
use Rattle.vob_lines.specs.declared.keyword.BitNumber.TheVariants.{Elem, Fill}
use Rattle.vob_lines.specs.declared.keyword.NumberBit.TheVariants.{Push, SetAll}
use Rattle.vob_lines.specs.declared.keyword.NumberNumberBit.TheVariants.{Set, SetUnchecked, Resize}
use Rattle.vob_lines.specs.declared.keyword.BitList.TheVariants.{Slice, Items}
use Rattle.vob_lines.specs.declared.keyword.NumberBitList.TheVariants.{Append, Extend}

-- the text of a keyword
abbrev pub word_of : Keyword → List ℕ
word_of Fresh = codes "fresh"
word_of (Number New) = codes "new"
word_of (Number Clone) = codes "clone"
word_of (Number Room) = codes "room"
word_of (Number Pop) = codes "pop"
word_of (Number Len) = codes "len"
word_of (Number Empty) = codes "empty"
word_of (Number Clear) = codes "clear"
word_of (Number Negate) = codes "negate"
word_of (Number Shrink) = codes "shrink"
word_of (Number Bits) = codes "bits"
word_of (Number Blocks) = codes "blocks"
word_of (NumberNumber Get) = codes "get"
word_of (NumberNumber GetUnchecked) = codes "getu"
word_of (NumberNumber Index) = codes "index"
word_of (NumberNumber Truncate) = codes "truncate"
word_of (NumberNumber Join) = codes "join"
word_of (NumberNumber Split) = codes "split"
word_of (NumberNumber And) = codes "and"
word_of (NumberNumber Or) = codes "or"
word_of (NumberNumber Xor) = codes "xor"
word_of (NumberNumber AndNew) = codes "andnew"
word_of (NumberNumber OrNew) = codes "ornew"
word_of (NumberNumber XorNew) = codes "xornew"
word_of (NumberNumber Equal) = codes "equal"
word_of (NumberNumber Reserve) = codes "reserve"
word_of (BitNumber Elem) = codes "elem"
word_of (BitNumber Fill) = codes "fill"
word_of (NumberBit Push) = codes "push"
word_of (NumberBit SetAll) = codes "setall"
word_of (NumberNumberBit Set) = codes "set"
word_of (NumberNumberBit SetUnchecked) = codes "setu"
word_of (NumberNumberBit Resize) = codes "resize"
word_of (BitList Slice) = codes "slice"
word_of (BitList Items) = codes "items"
word_of (NumberBitList Append) = codes "append"
word_of (NumberBitList Extend) = codes "extend"
word_of Bytes = codes "bytes"
word_of Raw = codes "raw"
word_of Record = codes "record"
word_of Drain = codes "drain"
word_of Walk = codes "walk"
word_of Count = codes "count"

-- all keywords, and the one with this text
abbrev pub keywords : List Keyword
keywords =
    Fresh ∷ Number New ∷ Number Clone ∷ Number Room ∷ Number Pop ∷ Number Len
    ∷ Number Empty ∷ Number Clear ∷ Number Negate ∷ Number Shrink ∷ Number Bits
    ∷ Number Blocks ∷ NumberNumber Get ∷ NumberNumber GetUnchecked ∷ NumberNumber Index
    ∷ NumberNumber Truncate ∷ NumberNumber Join ∷ NumberNumber Split ∷ NumberNumber And ∷ NumberNumber Or
    ∷ NumberNumber Xor ∷ NumberNumber AndNew ∷ NumberNumber OrNew ∷ NumberNumber XorNew ∷ NumberNumber Equal
    ∷ NumberNumber Reserve ∷ BitNumber Elem ∷ BitNumber Fill ∷ NumberBit Push
    ∷ NumberBit SetAll ∷ NumberNumberBit Set ∷ NumberNumberBit SetUnchecked
    ∷ NumberNumberBit Resize ∷ BitList Slice ∷ BitList Items ∷ NumberBitList Append
    ∷ NumberBitList Extend ∷ Bytes ∷ Raw ∷ Record ∷ Drain ∷ Walk ∷ Count ∷ []

-- the keyword that a word names, if any
abbrev pub keyword_named : List ℕ → Option Keyword
keyword_named word = find (λ keyword. bytes_eq (word_of keyword) word) keywords
