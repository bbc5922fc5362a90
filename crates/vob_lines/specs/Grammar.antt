-- Which words stand for which call.
use Rattle.std.specs.Prelude.{◌≡◌, ℕ, List, [], ◌∷◌, map, codes}
use Rattle.vob_run.specs.Call.{Call, New, FromElem, Copy, FromRaw, Push, Pop, GetBit, GetUnchecked}
use Rattle.vob_run.specs.Call.{IndexBit, SetBit, SetUnchecked, Length, IsEmpty, Truncate, Clear}
use Rattle.vob_run.specs.Call.{SetAll, Negate, Resize, ExtendSlice, ExtendItems, ExtendVob}
use Rattle.vob_run.specs.Call.{SplitOff, Drain, And, Or, Xor, AndNew, OrNew, XorNew, Equal, Reserve}
use Rattle.vob_run.specs.Call.{Shrink, Bits, Storage, Walk, Count, Fresh, WithCapacity, Fill}
use Rattle.vob_run.specs.Call.{FromBytes, FromSlice, FromItems, FromRecord}
use Rattle.vob_lines.specs.Arguments.{Argument, number, bit, bits, bytes, range, pulls, AllSpell}

-- a line: its first word, and the arguments after it
pub record Form : Type 0 where
  pub word : List ℕ
  pub arguments : List Argument

abbrev pub form : List ℕ → List Argument → Form
form word arguments = record { word = word; arguments = arguments }

-- the line of each call
-- Example: a push is the word push and two numbers, as in push 0 1
abbrev pub form_of : Call → Form
form_of (New n) = form (codes "new") (number n ∷ [])
form_of (FromElem b n) = form (codes "elem") (bit b ∷ number n ∷ [])
form_of (Copy v) = form (codes "clone") (number v ∷ [])
form_of (FromRaw n b ks) = form (codes "raw") (number n ∷ bit b ∷ map number ks)
form_of Fresh = form (codes "fresh") []
form_of (WithCapacity n) = form (codes "room") (number n ∷ [])
form_of (Fill b n) = form (codes "fill") (bit b ∷ number n ∷ [])
form_of (FromBytes hex) = form (codes "bytes") (bytes hex ∷ [])
form_of (FromSlice bs) = form (codes "slice") (bits bs ∷ [])
form_of (FromItems bs) = form (codes "items") (bits bs ∷ [])
form_of (FromRecord n ks) = form (codes "record") (number n ∷ map number ks)
form_of (Push v b) = form (codes "push") (number v ∷ bit b ∷ [])
form_of (Pop v) = form (codes "pop") (number v ∷ [])
form_of (GetBit v i) = form (codes "get") (number v ∷ number i ∷ [])
form_of (GetUnchecked v i) = form (codes "getu") (number v ∷ number i ∷ [])
form_of (IndexBit v i) = form (codes "index") (number v ∷ number i ∷ [])
form_of (SetBit v i b) = form (codes "set") (number v ∷ number i ∷ bit b ∷ [])
form_of (SetUnchecked v i b) = form (codes "setu") (number v ∷ number i ∷ bit b ∷ [])
form_of (Length v) = form (codes "len") (number v ∷ [])
form_of (IsEmpty v) = form (codes "empty") (number v ∷ [])
form_of (Truncate v n) = form (codes "truncate") (number v ∷ number n ∷ [])
form_of (Clear v) = form (codes "clear") (number v ∷ [])
form_of (SetAll v b) = form (codes "setall") (number v ∷ bit b ∷ [])
form_of (Negate v) = form (codes "negate") (number v ∷ [])
form_of (Resize v n b) = form (codes "resize") (number v ∷ number n ∷ bit b ∷ [])
form_of (ExtendSlice v bs) = form (codes "append") (number v ∷ bits bs ∷ [])
form_of (ExtendItems v bs) = form (codes "extend") (number v ∷ bits bs ∷ [])
form_of (ExtendVob v u) = form (codes "join") (number v ∷ number u ∷ [])
form_of (SplitOff v i) = form (codes "split") (number v ∷ number i ∷ [])
form_of (Drain v start end) = form (codes "drain") (number v ∷ range start end ∷ [])
form_of (And v u) = form (codes "and") (number v ∷ number u ∷ [])
form_of (Or v u) = form (codes "or") (number v ∷ number u ∷ [])
form_of (Xor v u) = form (codes "xor") (number v ∷ number u ∷ [])
form_of (AndNew v u) = form (codes "andnew") (number v ∷ number u ∷ [])
form_of (OrNew v u) = form (codes "ornew") (number v ∷ number u ∷ [])
form_of (XorNew v u) = form (codes "xornew") (number v ∷ number u ∷ [])
form_of (Equal v u) = form (codes "equal") (number v ∷ number u ∷ [])
form_of (Reserve v n) = form (codes "reserve") (number v ∷ number n ∷ [])
form_of (Shrink v) = form (codes "shrink") (number v ∷ [])
form_of (Bits v) = form (codes "bits") (number v ∷ [])
form_of (Storage v) = form (codes "blocks") (number v ∷ [])
form_of (Walk v b start end ends) =
    form (codes "walk") (number v ∷ bit b ∷ range start end ∷ pulls ends ∷ [])
form_of (Count v b start end) = form (codes "count") (number v ∷ bit b ∷ range start end ∷ [])

-- words read as a call: the first is its word, the others spell its arguments
abbrev pub Reads : List (List ℕ) → Call → Type 0
Reads [] call = ⊥
Reads (word ∷ words) call = (word ≡ (form_of call).word) × AllSpell words (form_of call).arguments
