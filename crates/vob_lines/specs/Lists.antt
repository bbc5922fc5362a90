-- Which lines hold a list: want of memory is told of these alone.
use Rattle.std.specs.Prelude.{◌≡◌, ℕ, List, ◌∷◌, ⊤}
use Rattle.vob_run.specs.Call.{Call, FromRaw, FromBytes, FromSlice, FromItems, FromRecord, ExtendSlice, ExtendItems, Walk}
use Rattle.vob_lines.specs.Grammar.{form_of}

-- the calls that hold a list of bits, bytes, blocks or pulls
abbrev pub HasList : Call → Type 0
HasList (FromRaw n b ks) = ⊤
HasList (FromBytes hex) = ⊤
HasList (FromSlice bs) = ⊤
HasList (FromItems bs) = ⊤
HasList (FromRecord n ks) = ⊤
HasList (ExtendSlice v bs) = ⊤
HasList (ExtendItems v bs) = ⊤
HasList (Walk v b start end ends) = ⊤
HasList call = ⊥

-- the first word is that of a call that holds a list
pub record BeginsAsList (line : List (List ℕ)) : Type 0 where
  pub call : Call
  pub holds : HasList call
  pub words : List (List ℕ)
  pub first : line ≡ (form_of call).word ∷ words
