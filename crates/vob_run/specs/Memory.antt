-- Which calls may be refused for want of memory.
use Rattle.std.specs.Prelude.{◌≢◌, ℕ, ◌+◌, ◌<◌, List, [], length, get_or, slice_get, Bool, IsSomeAnd, ⊤}
use Rattle.vob_block.specs.Packing.{need}
use Rattle.vob_run.specs.Call.{Call, New, FromElem, Copy, FromRaw, Push, Resize, ExtendSlice}
use Rattle.vob_run.specs.Call.{ExtendItems, ExtendVob, SplitOff, Drain, AndNew, OrNew, XorNew}
use Rattle.vob_run.specs.Call.{Reserve, Bits, Storage, Walk, Fresh, WithCapacity, Fill, FromBytes}
use Rattle.vob_run.specs.Call.{FromSlice, FromItems, FromRecord}
use Rattle.vob_run.specs.Answer.{skipped, refused}
use Rattle.vob_run.specs.Step.{step}

module _ (width : ℕ) (lists : List (List Bool)) where
  -- the list with this number would take more blocks at the length that is asked for
  abbrev pub Grows : ℕ → (List Bool → ℕ) → Type 0
  Grows which asked =
      IsSomeAnd (slice_get lists which) (λ bits. need (length bits) width < need (asked bits) width)

  -- a call asks for memory: it makes something, or a list would take more blocks
  abbrev pub TakesMemory : Call → Type 0
  TakesMemory (New capacity) = ⊤
  TakesMemory (FromElem value len) = ⊤
  TakesMemory (Copy which) = ⊤
  TakesMemory (FromRaw len mask blocks) = ⊤
  TakesMemory (Push which value) = Grows which (λ bits. length bits + 1)
  TakesMemory (Resize which len value) = Grows which (λ bits. len)
  TakesMemory (ExtendSlice which more) = Grows which (λ bits. length bits + length more)
  TakesMemory (ExtendItems which more) = Grows which (λ bits. length bits + length more)
  TakesMemory (ExtendVob which other) =
      Grows which (λ bits. length bits + length (get_or lists other []))
  TakesMemory (SplitOff which index) = ⊤
  TakesMemory (Drain which start end) = ⊤
  TakesMemory (AndNew which other) = ⊤
  TakesMemory (OrNew which other) = ⊤
  TakesMemory (XorNew which other) = ⊤
  TakesMemory (Reserve which additional) = Grows which (λ bits. length bits + additional)
  TakesMemory (Bits which) = ⊤
  TakesMemory (Storage which) = ⊤
  TakesMemory (Walk which value start end pulls) = ⊤
  TakesMemory Fresh = ⊤
  TakesMemory (WithCapacity capacity) = ⊤
  TakesMemory (Fill value len) = ⊤
  TakesMemory (FromBytes bytes) = ⊤
  TakesMemory (FromSlice bits) = ⊤
  TakesMemory (FromItems bits) = ⊤
  TakesMemory (FromRecord len blocks) = ⊤
  TakesMemory _ = ⊥

  -- memory is asked for only after a call is found not to be skipped, not to be too long, and not to
  -- cut past the end
  abbrev pub MayWantMemory : Call → Type 0
  MayWantMemory call =
      TakesMemory call × ((step width lists call).answer ≢ skipped)
      × ((step width lists call).answer ≢ refused 1)
      × ((step width lists call).answer ≢ refused 4)
