-- The keyword of each call, and the call of each keyword and its arguments.
use Rattle.std.proofs.Common.{Option, None, ◌≡◌, ℕ, Bool, List, [], ◌∷◌, map, Some, refl, ap}
use Rattle.vob_run.specs.Call.{Call}
use Rattle.vob_run.specs.Call as call
use Rattle.vob_lines.specs.Arguments.{Argument, number, bit, bits, bytes, range, pulls}
use Rattle.vob_lines.specs.Grammar.{form_of}
use Rattle.vob_lines.specs.Kinds.{Kinds, a_number, a_bit, some_bits, nothing, numbers, before, kind_of, kinds_of}
use Rattle.vob_lines.specs.Keywords.{keyword_named}
use Rattle.vob_lines.specs.declared.keyword.Keyword.{Keyword}
use Rattle.vob_lines.specs.declared.keyword.Keyword.TheVariants.{Fresh, Number, NumberNumber}
use Rattle.vob_lines.specs.declared.keyword.Keyword.TheVariants.{BitNumber, NumberBit}
use Rattle.vob_lines.specs.declared.keyword.Keyword.TheVariants.{NumberNumberBit, BitList}
use Rattle.vob_lines.specs.declared.keyword.Keyword.TheVariants.{NumberBitList, Bytes, Raw, Record}
use Rattle.vob_lines.specs.declared.keyword.Keyword.TheVariants.{Drain, Walk, Count}
use Rattle.vob_lines.specs.declared.keyword.Number.TheVariants.{New, Clone, Room, Pop, Len, Empty, Clear, Negate, Shrink, Bits, Blocks}
use Rattle.vob_lines.specs.declared.keyword.NumberNumber.TheVariants.{Get, GetUnchecked, Index}
use Rattle.vob_lines.specs.declared.keyword.NumberNumber.TheVariants.{Truncate, Join, Split, And}
use Rattle.vob_lines.specs.declared.keyword.NumberNumber.TheVariants.{Or, Xor, AndNew, OrNew}
use Rattle.vob_lines.specs.declared.keyword.NumberNumber.TheVariants.{XorNew, Equal, Reserve}
use Rattle.vob_lines.specs.declared.keyword.BitNumber.TheVariants.{Elem, Fill}
use Rattle.vob_lines.specs.declared.keyword.NumberBit.TheVariants.{Push, SetAll}
use Rattle.vob_lines.specs.declared.keyword.NumberNumberBit.TheVariants.{Set, SetUnchecked, Resize}
use Rattle.vob_lines.specs.declared.keyword.BitList.TheVariants.{Slice, Items}
use Rattle.vob_lines.specs.declared.keyword.NumberBitList.TheVariants.{Append, Extend}

-- the keyword of a call
abbrev pub keyword_of : Call → Keyword
keyword_of (call.New n) = Number New
keyword_of (call.FromElem b n) = BitNumber Elem
keyword_of (call.Copy v) = Number Clone
keyword_of (call.FromRaw n b ks) = Raw
keyword_of (call.Push v b) = NumberBit Push
keyword_of (call.Pop v) = Number Pop
keyword_of (call.GetBit v i) = NumberNumber Get
keyword_of (call.GetUnchecked v i) = NumberNumber GetUnchecked
keyword_of (call.IndexBit v i) = NumberNumber Index
keyword_of (call.SetBit v i b) = NumberNumberBit Set
keyword_of (call.SetUnchecked v i b) = NumberNumberBit SetUnchecked
keyword_of (call.Length v) = Number Len
keyword_of (call.IsEmpty v) = Number Empty
keyword_of (call.Truncate v n) = NumberNumber Truncate
keyword_of (call.Clear v) = Number Clear
keyword_of (call.SetAll v b) = NumberBit SetAll
keyword_of (call.Negate v) = Number Negate
keyword_of (call.Resize v n b) = NumberNumberBit Resize
keyword_of (call.ExtendSlice v bs) = NumberBitList Append
keyword_of (call.ExtendItems v bs) = NumberBitList Extend
keyword_of (call.ExtendVob v u) = NumberNumber Join
keyword_of (call.SplitOff v i) = NumberNumber Split
keyword_of (call.Drain v start end) = Drain
keyword_of (call.And v u) = NumberNumber And
keyword_of (call.Or v u) = NumberNumber Or
keyword_of (call.Xor v u) = NumberNumber Xor
keyword_of (call.AndNew v u) = NumberNumber AndNew
keyword_of (call.OrNew v u) = NumberNumber OrNew
keyword_of (call.XorNew v u) = NumberNumber XorNew
keyword_of (call.Equal v u) = NumberNumber Equal
keyword_of (call.Reserve v n) = NumberNumber Reserve
keyword_of (call.Shrink v) = Number Shrink
keyword_of (call.Bits v) = Number Bits
keyword_of (call.Storage v) = Number Blocks
keyword_of (call.Walk v b start end ends) = Walk
keyword_of (call.Count v b start end) = Count
keyword_of call.Fresh = Fresh
keyword_of (call.WithCapacity n) = Number Room
keyword_of (call.Fill b n) = BitNumber Fill
keyword_of (call.FromBytes hex) = Bytes
keyword_of (call.FromSlice bs) = BitList Slice
keyword_of (call.FromItems bs) = BitList Items
keyword_of (call.FromRecord n ks) = Record

-- arguments are of these kinds
abbrev pub Fits : List Argument → Kinds → Type 0
Fits arguments nothing = arguments ≡ []
Fits arguments numbers = (values : List ℕ) × (arguments ≡ map number values)
Fits arguments (before kind kinds) = (first : Argument) × (others : List Argument)
    × (arguments ≡ first ∷ others) × (kind_of first ≡ kind) × Fits others kinds

fits_one : (n : ℕ) → Fits (number n ∷ []) (before a_number nothing)
fits_one n = (_, _, refl, refl, refl)

fits_two : (m n : ℕ) → Fits (number m ∷ number n ∷ []) (before a_number (before a_number nothing))
fits_two m n = (_, _, refl, refl, fits_one n)

fits_bit : (b : Bool) → Fits (bit b ∷ []) (before a_bit nothing)
fits_bit b = (_, _, refl, refl, refl)

fits_number_bit : (n : ℕ) (b : Bool) →
    Fits (number n ∷ bit b ∷ []) (before a_number (before a_bit nothing))
fits_number_bit n b = (_, _, refl, refl, fits_bit b)

fits_bits : (bs : List Bool) → Fits (bits bs ∷ []) (before some_bits nothing)
fits_bits bs = (_, _, refl, refl, refl)

-- the numbers among arguments
values_of : List Argument → List ℕ
values_of [] = []
values_of (number n ∷ arguments) = n ∷ values_of arguments
values_of (_ ∷ arguments) = values_of arguments

values_of-numbers : (values : List ℕ) → values_of (map number values) ≡ values
unfolding values_of
values_of-numbers [] = refl
values_of-numbers (n ∷ values) = ap (λ xs. n ∷ xs) (values_of-numbers values)

-- the call of a keyword and its arguments
pub call_from : Keyword → List Argument → Option Call
call_from (Number New) (number n ∷ []) = Some (call.New n)
call_from (BitNumber Elem) (bit b ∷ number n ∷ []) = Some (call.FromElem b n)
call_from (Number Clone) (number v ∷ []) = Some (call.Copy v)
call_from Raw (number n ∷ bit b ∷ others) = Some (call.FromRaw n b (values_of others))
call_from (NumberBit Push) (number v ∷ bit b ∷ []) = Some (call.Push v b)
call_from (Number Pop) (number v ∷ []) = Some (call.Pop v)
call_from (NumberNumber Get) (number v ∷ number i ∷ []) = Some (call.GetBit v i)
call_from (NumberNumber GetUnchecked) (number v ∷ number i ∷ []) = Some (call.GetUnchecked v i)
call_from (NumberNumber Index) (number v ∷ number i ∷ []) = Some (call.IndexBit v i)
call_from (NumberNumberBit Set) (number v ∷ number i ∷ bit b ∷ []) = Some (call.SetBit v i b)
call_from (NumberNumberBit SetUnchecked) (number v ∷ number i ∷ bit b ∷ []) =
    Some (call.SetUnchecked v i b)
call_from (Number Len) (number v ∷ []) = Some (call.Length v)
call_from (Number Empty) (number v ∷ []) = Some (call.IsEmpty v)
call_from (NumberNumber Truncate) (number v ∷ number n ∷ []) = Some (call.Truncate v n)
call_from (Number Clear) (number v ∷ []) = Some (call.Clear v)
call_from (NumberBit SetAll) (number v ∷ bit b ∷ []) = Some (call.SetAll v b)
call_from (Number Negate) (number v ∷ []) = Some (call.Negate v)
call_from (NumberNumberBit Resize) (number v ∷ number n ∷ bit b ∷ []) = Some (call.Resize v n b)
call_from (NumberBitList Append) (number v ∷ bits bs ∷ []) = Some (call.ExtendSlice v bs)
call_from (NumberBitList Extend) (number v ∷ bits bs ∷ []) = Some (call.ExtendItems v bs)
call_from (NumberNumber Join) (number v ∷ number u ∷ []) = Some (call.ExtendVob v u)
call_from (NumberNumber Split) (number v ∷ number i ∷ []) = Some (call.SplitOff v i)
call_from Drain (number v ∷ range start end ∷ []) = Some (call.Drain v start end)
call_from (NumberNumber And) (number v ∷ number u ∷ []) = Some (call.And v u)
call_from (NumberNumber Or) (number v ∷ number u ∷ []) = Some (call.Or v u)
call_from (NumberNumber Xor) (number v ∷ number u ∷ []) = Some (call.Xor v u)
call_from (NumberNumber AndNew) (number v ∷ number u ∷ []) = Some (call.AndNew v u)
call_from (NumberNumber OrNew) (number v ∷ number u ∷ []) = Some (call.OrNew v u)
call_from (NumberNumber XorNew) (number v ∷ number u ∷ []) = Some (call.XorNew v u)
call_from (NumberNumber Equal) (number v ∷ number u ∷ []) = Some (call.Equal v u)
call_from (NumberNumber Reserve) (number v ∷ number n ∷ []) = Some (call.Reserve v n)
call_from (Number Shrink) (number v ∷ []) = Some (call.Shrink v)
call_from (Number Bits) (number v ∷ []) = Some (call.Bits v)
call_from (Number Blocks) (number v ∷ []) = Some (call.Storage v)
call_from Walk (number v ∷ bit b ∷ range start end ∷ pulls ends ∷ []) =
    Some (call.Walk v b start end ends)
call_from Count (number v ∷ bit b ∷ range start end ∷ []) = Some (call.Count v b start end)
call_from Fresh [] = Some call.Fresh
call_from (Number Room) (number n ∷ []) = Some (call.WithCapacity n)
call_from (BitNumber Fill) (bit b ∷ number n ∷ []) = Some (call.Fill b n)
call_from Bytes (bytes hex ∷ []) = Some (call.FromBytes hex)
call_from (BitList Slice) (bits bs ∷ []) = Some (call.FromSlice bs)
call_from (BitList Items) (bits bs ∷ []) = Some (call.FromItems bs)
call_from Record (number n ∷ others) = Some (call.FromRecord n (values_of others))
call_from _ _ = None

-- a call is named by its word, its arguments are of its keyword's kinds, and it is made of them again
pub record Belongs (c : Call) : Type 0 where
  pub named : keyword_named (form_of c).word ≡ Some (keyword_of c)
  pub fits : Fits (form_of c).arguments (kinds_of (keyword_of c))
  pub back : call_from (keyword_of c) (form_of c).arguments ≡ Some c

pub belongs : (c : Call) → Belongs c
unfolding call_from
belongs (call.New n) = record { named = refl; fits = fits_one n; back = refl }
belongs (call.FromElem b n) = record {
  named = refl;
  fits = (_, _, refl, refl, fits_one n);
  back = refl;
}
belongs (call.Copy v) = record { named = refl; fits = fits_one v; back = refl }
belongs (call.FromRaw n b ks) = record {
  named = refl;
  fits = (_, _, refl, refl, (_, _, refl, refl, (ks, refl)));
  back = ap (λ values. Some (call.FromRaw n b values)) (values_of-numbers ks);
}
belongs (call.Push v b) = record { named = refl; fits = fits_number_bit v b; back = refl }
belongs (call.Pop v) = record { named = refl; fits = fits_one v; back = refl }
belongs (call.GetBit v i) = record { named = refl; fits = fits_two v i; back = refl }
belongs (call.GetUnchecked v i) = record { named = refl; fits = fits_two v i; back = refl }
belongs (call.IndexBit v i) = record { named = refl; fits = fits_two v i; back = refl }
belongs (call.SetBit v i b) = record {
  named = refl;
  fits = (_, _, refl, refl, fits_number_bit i b);
  back = refl;
}
belongs (call.SetUnchecked v i b) = record {
  named = refl;
  fits = (_, _, refl, refl, fits_number_bit i b);
  back = refl;
}
belongs (call.Length v) = record { named = refl; fits = fits_one v; back = refl }
belongs (call.IsEmpty v) = record { named = refl; fits = fits_one v; back = refl }
belongs (call.Truncate v n) = record { named = refl; fits = fits_two v n; back = refl }
belongs (call.Clear v) = record { named = refl; fits = fits_one v; back = refl }
belongs (call.SetAll v b) = record { named = refl; fits = fits_number_bit v b; back = refl }
belongs (call.Negate v) = record { named = refl; fits = fits_one v; back = refl }
belongs (call.Resize v n b) = record {
  named = refl;
  fits = (_, _, refl, refl, fits_number_bit n b);
  back = refl;
}
belongs (call.ExtendSlice v bs) = record {
  named = refl;
  fits = (_, _, refl, refl, fits_bits bs);
  back = refl;
}
belongs (call.ExtendItems v bs) = record {
  named = refl;
  fits = (_, _, refl, refl, fits_bits bs);
  back = refl;
}
belongs (call.ExtendVob v u) = record { named = refl; fits = fits_two v u; back = refl }
belongs (call.SplitOff v i) = record { named = refl; fits = fits_two v i; back = refl }
belongs (call.Drain v start end) = record {
  named = refl;
  fits = (_, _, refl, refl, (_, _, refl, refl, refl));
  back = refl;
}
belongs (call.And v u) = record { named = refl; fits = fits_two v u; back = refl }
belongs (call.Or v u) = record { named = refl; fits = fits_two v u; back = refl }
belongs (call.Xor v u) = record { named = refl; fits = fits_two v u; back = refl }
belongs (call.AndNew v u) = record { named = refl; fits = fits_two v u; back = refl }
belongs (call.OrNew v u) = record { named = refl; fits = fits_two v u; back = refl }
belongs (call.XorNew v u) = record { named = refl; fits = fits_two v u; back = refl }
belongs (call.Equal v u) = record { named = refl; fits = fits_two v u; back = refl }
belongs (call.Reserve v n) = record { named = refl; fits = fits_two v n; back = refl }
belongs (call.Shrink v) = record { named = refl; fits = fits_one v; back = refl }
belongs (call.Bits v) = record { named = refl; fits = fits_one v; back = refl }
belongs (call.Storage v) = record { named = refl; fits = fits_one v; back = refl }
belongs (call.Walk v b start end ends) = record {
  named = refl;
  fits = (_, _, refl, refl, (_, _, refl, refl, (_, _, refl, refl, (_, _, refl, refl, refl))));
  back = refl;
}
belongs (call.Count v b start end) = record {
  named = refl;
  fits = (_, _, refl, refl, (_, _, refl, refl, (_, _, refl, refl, refl)));
  back = refl;
}
belongs call.Fresh = record { named = refl; fits = refl; back = refl }
belongs (call.WithCapacity n) = record { named = refl; fits = fits_one n; back = refl }
belongs (call.Fill b n) = record {
  named = refl;
  fits = (_, _, refl, refl, fits_one n);
  back = refl;
}
belongs (call.FromBytes hex) = record { named = refl; fits = (_, _, refl, refl, refl); back = refl }
belongs (call.FromSlice bs) = record { named = refl; fits = fits_bits bs; back = refl }
belongs (call.FromItems bs) = record { named = refl; fits = fits_bits bs; back = refl }
belongs (call.FromRecord n ks) = record {
  named = refl;
  fits = (_, _, refl, refl, (ks, refl));
  back = ap (λ values. Some (call.FromRecord n values)) (values_of-numbers ks);
}
