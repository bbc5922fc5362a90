-- Texts that are written one behind the other.
use Rattle.std.proofs.Common.{Option, None, Some, ◌≡◌, ℕ, ◌+◌, ◌<◌, List, ◌∷◌, ◌++◌, length, get_or, map, take, drop, refl, ap, sym, ◌∙◌, take-append-drop, []}
use Rattle.std.specs.Prelude.{Result, Ok, Err, IsErr}
use Rattle.std.specs.Io.KnownBytes.{Appends, Keeps}
use Rattle.std.proofs.lemmas.List.{append_assoc, append-nil, map-append, take_more}
use Rattle.std.proofs.lemmas.List.Concat.{flat_map-append}
use Rattle.std.specs.List.{flat_map}
use Rattle.vob_lines.specs.Written.{AppendsBut, AppendsPart, Puts}

Appends-none : (known : Option (List ℕ)) → Appends known known []
Appends-none None = tt
Appends-none (Some xs) = sym (append-nil xs)

Appends-both : (a b c : Option (List ℕ)) (xs ys : List ℕ) → Appends a b xs → Appends b c ys →
    Appends a c (xs ++ ys)
Appends-both None b c xs ys one two = tt
Appends-both (Some x) None c xs ys one two = absurd one
Appends-both (Some x) (Some y) None xs ys one two = absurd two
Appends-both (Some x) (Some y) (Some z) xs ys one two =
    two ∙ ap (λ l. l ++ ys) one ∙ append_assoc x xs ys

Appends-kept : (a b : Option (List ℕ)) → Keeps a b → Appends a b []
Appends-kept None b kept = tt
Appends-kept (Some x) None kept = absurd kept
Appends-kept (Some x) (Some y) kept = kept ∙ sym (append-nil x)

-- nothing is written yet
pub but_all : (known : Option (List ℕ)) (text : List ℕ) → AppendsBut known known text text
but_all known text = record { part = []; appended = Appends-none known; cut = refl }

-- all is written
pub but_none : (old new : Option (List ℕ)) (text : List ℕ) → AppendsBut old new text [] →
    Appends old new text
but_none old new text is = rw (is.cut ∙ append-nil is.part) is.appended

-- what waited was written too
pub but_later : (a b c : Option (List ℕ)) (text rest later : List ℕ) → AppendsBut a b text rest →
    AppendsBut b c rest later → AppendsBut a c text later
but_later a b c text rest later one two = record {
  part = one.part ++ two.part;
  appended = Appends-both a b c one.part two.part one.appended two.appended;
  cut =
      one.cut ∙ ap (λ l. one.part ++ l) two.cut ∙ sym (append_assoc one.part two.part later);
}

-- so many bytes of what waited were written
pub but_taken : (a b c : Option (List ℕ)) (text rest : List ℕ) (n : ℕ) → AppendsBut a b text rest →
    Appends b c (take n rest) → AppendsBut a c text (drop n rest)
but_taken a b c text rest n one taken = but_later a b c text rest (drop n rest) one (record {
  part = take n rest;
  appended = taken;
  cut = sym (take-append-drop n rest);
})

-- none of what waited was
pub but_kept : (a b c : Option (List ℕ)) (text rest : List ℕ) → AppendsBut a b text rest →
    Keeps b c → AppendsPart a c text
but_kept a b c text rest one kept = (
  rest,
  but_later a b c text rest rest one (record {
    part = [];
    appended = Appends-kept b c kept;
    cut = refl;
  }),
)

-- more waits behind what does
pub but_waits : (a b : Option (List ℕ)) (xs ys rest : List ℕ) → AppendsBut a b xs rest →
    AppendsBut a b (xs ++ ys) (rest ++ ys)
but_waits a b xs ys rest is = record {
  part = is.part;
  appended = is.appended;
  cut = ap (λ l. l ++ ys) is.cut ∙ append_assoc is.part rest ys;
}

-- a text behind another, which stands behind what waited before
module _ (a b : Option (List ℕ)) (waits xs ys : List ℕ) where
  pub but_next : (c : Option (List ℕ)) (text rest later : List ℕ) → xs ++ ys ≡ text →
      AppendsBut a b (waits ++ xs) rest → AppendsBut b c (rest ++ ys) later →
      AppendsBut a c (waits ++ text) later
  but_next c text rest later same one two =
      rw (← same, ← append_assoc)
      (but_later a b c _ _ later (but_waits a b (waits ++ xs) ys rest one) two)

  -- the second one may fail
  pub puts_next : {T E : Type 0} (result : Result T E) (c : Option (List ℕ))
      (rest later : List ℕ) → AppendsBut a b (waits ++ xs) rest →
      Puts result b c (rest ++ ys) later → Puts result a c (waits ++ (xs ++ ys)) later
  puts_next (Ok value) c rest later one two = but_next c (xs ++ ys) rest later refl one two
  puts_next (Err error) c rest later one two =
      (two.0, but_next c (xs ++ ys) rest two.0 refl one two.1)

  -- the first one failed
  pub puts_failed : {T E : Type 0} (result : Result T E) (text later : List ℕ) → xs ++ ys ≡ text →
      IsErr result → AppendsPart a b (waits ++ xs) → Puts result a b (waits ++ text) later
  puts_failed (Ok value) text later same failed part = cc
  puts_failed (Err error) text later same failed part =
      rw (← same, ← append_assoc)
      (part.0 ++ ys, but_waits a b (waits ++ xs) ys part.0 part.1)

-- a text failed
pub puts_bad : {T E : Type 0} (result : Result T E) (a b : Option (List ℕ)) (text later : List ℕ) →
    IsErr result → AppendsPart a b text → Puts result a b text later
puts_bad (Ok value) a b text later failed part = cc
puts_bad (Err error) a b text later failed part = part

-- what waited was written at the end
pub puts_last : {T E : Type 0} (result : Result T E) (a b c : Option (List ℕ))
    (text rest : List ℕ) → AppendsBut a b text rest → Puts result b c rest [] →
    Puts result a c text []
puts_last (Ok value) a b c text rest one two = but_later a b c text rest [] one two
puts_last (Err error) a b c text rest one (later, two) =
    (later, but_later a b c text rest later one two)

-- one call of a writer that answers otherwise
pub kept_none : (old new : Option (List ℕ)) (text : List ℕ) (n : ℕ) → n ≡ 0 →
    Appends old new (take n text) → Keeps old new
kept_none None new text n none is = tt
kept_none (Some xs) None text n none is = absurd is
kept_none (Some xs) (Some ys) text n none is =
    let e : ys ≡ xs ++ take 0 text = rw none at is in e ∙ append-nil xs

-- a loop that adds one text after another, of a list whose text is put together of its items'
module _ {X : Type 0} (text : List X → List ℕ)
    (adds : (xs ys : List X) → text (xs ++ ys) ≡ text xs ++ text ys) (a b c : Option (List ℕ))
    (waits rest more : List ℕ) (xs : List X) (i : ℕ) (d : X) (below : i < length xs)
    (same : text (get_or xs i d ∷ []) ≡ more) where
  text_more : text (take i xs) ++ more ≡ text (take (i + 1) xs)
  text_more =
      ap (λ l. text (take i xs) ++ l) (sym same) ∙ sym (adds (take i xs) (get_or xs i d ∷ []))
      ∙ ap text (sym (take_more xs i d below))

  text_all : text (take (i + 1) xs) ++ text (drop (i + 1) xs) ≡ text xs
  text_all =
      sym (adds (take (i + 1) xs) (drop (i + 1) xs)) ∙ ap text (take-append-drop (i + 1) xs)

  pub loop_next : (later : List ℕ) → AppendsBut a b (waits ++ text (take i xs)) rest →
      AppendsBut b c (rest ++ more) later → AppendsBut a c (waits ++ text (take (i + 1) xs)) later
  loop_next later one two =
      but_next a b waits (text (take i xs)) more c (text (take (i + 1) xs)) rest later text_more one two

  pub loop_failed : {T E : Type 0} (result : Result T E) (later : List ℕ) → IsErr result →
      AppendsBut a b (waits ++ text (take i xs)) rest → AppendsPart b c (rest ++ more) →
      Puts result a c (waits ++ text xs) later
  loop_failed result later failed one two =
      puts_failed a c waits (text (take (i + 1) xs)) (text (drop (i + 1) xs)) result (text xs) later
      text_all failed (two.0, loop_next two.0 one two.1)

-- texts behind one another
pub flat_map-adds : {X Y : Type 0} (g : Y → List ℕ) (f : X → Y) (xs ys : List X) →
    flat_map g (map f (xs ++ ys)) ≡ flat_map g (map f xs) ++ flat_map g (map f ys)
flat_map-adds g f xs ys =
    ap (flat_map g) (map-append f xs ys) ∙ flat_map-append g (map f xs) (map f ys)
