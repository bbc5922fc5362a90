-- Texts that are written one after another.
use Rattle.std.proofs.Common.{Option, None, Some, ◌≡◌, ℕ, suc, ◌+◌, ◌-◌, ◌<◌, ◌≤◌, true, false, Bool, inl, inr, List, [], ◌∷◌, ◌++◌, length, get_or, map, refl, ap, sym, ◌∙◌, arith}
use Rattle.std.specs.Prelude.{◌↔◌, All, Contains, AllPairs}
use Rattle.std.specs.Io.KnownBytes.{Appends}
use Rattle.std.specs.List.{flat_map, range_with_len}
use Rattle.std.specs.declared.ops.Bound.TheVariants.{Unbounded}
use Rattle.std.proofs.lemmas.List.{append_assoc, append-nil, get_or_past}
use Rattle.std.proofs.lemmas.Bool.{cases_lt, false≢true}
use Rattle.std.proofs.lemmas.List.Elements.{Contains-get_or}
use Rattle.std.proofs.lemmas.List.Concat.{flat_map-append}
use Rattle.vob_block.specs.Packing.{item}
use Rattle.vob_walk.proofs.IndexLemmas.{matches_exactly, matches_rise}
use Rattle.files_text.specs.Printed.{members}

-- known bytes grew by a part of a text, and a rest of it is left
pub record AppendsBut (old now : Option (List ℕ)) (text rest : List ℕ) : Type 0 where
  pub part : List ℕ
  pub appended : Appends old now part
  pub cut : text ≡ part ++ rest

pub Appends-none : (known : Option (List ℕ)) → Appends known known []
Appends-none None = tt
Appends-none (Some xs) = sym (append-nil xs)

pub Appends-both : (a b c : Option (List ℕ)) (xs ys : List ℕ) → Appends a b xs → Appends b c ys →
    Appends a c (xs ++ ys)
Appends-both None b c xs ys one two = tt
Appends-both (Some x) None c xs ys one two = absurd one
Appends-both (Some x) (Some y) None xs ys one two = absurd two
Appends-both (Some x) (Some y) (Some z) xs ys one two =
    two ∙ ap (λ l. l ++ ys) one ∙ append_assoc x xs ys

-- nothing is written yet
pub but_all : (known : Option (List ℕ)) (text : List ℕ) → AppendsBut known known text text
but_all known text = record { part = []; appended = Appends-none known; cut = refl }

-- all is written
pub but_none : (old now : Option (List ℕ)) (text : List ℕ) → AppendsBut old now text [] →
    Appends old now text
but_none old now text is = rw (is.cut ∙ append-nil is.part) is.appended

-- what comes next was written too
pub but_more : (a b c : Option (List ℕ)) (text xs rest : List ℕ) → AppendsBut a b text (xs ++ rest) →
    Appends b c xs → AppendsBut a c text rest
but_more a b c text xs rest is more = record {
  part = is.part ++ xs;
  appended = Appends-both a b c is.part xs is.appended more;
  cut = is.cut ∙ sym (append_assoc is.part xs rest);
}

-- a loop over a list: of the texts of its items those of a rest are left
pub record AppendsItems {X : Type 0} (f : X → List ℕ) (old now : Option (List ℕ)) (all rest : List X)
    : Type 0 where
  pub but : AppendsBut old now (flat_map f all) (flat_map f rest)

module _ {X : Type 0} (f : X → List ℕ) where
  pub items_all : (known : Option (List ℕ)) (all rest : List X) → rest ≡ all →
      AppendsItems f known known all rest
  items_all known all rest same = rw same (record { but = but_all known (flat_map f all) })

  pub items_more : (a b c : Option (List ℕ)) (all rest after : List X) (x : X) → rest ≡ x ∷ after →
      AppendsItems f a b all rest → Appends b c (f x) → AppendsItems f a c all after
  items_more a b c all rest after x same is more =
      let left = rw same at is in
      record { but = but_more a b c (flat_map f all) (f x) (flat_map f after) left.but more }

  pub items_part : (a b c : Option (List ℕ)) (all rest part after : List X) → part ++ after ≡ rest →
      AppendsItems f a b all rest → Appends b c (flat_map f part) → AppendsItems f a c all after
  items_part a b c all rest part after same is more =
      let left = rw (← same, flat_map-append) at is.but in
      record { but = but_more a b c (flat_map f all) (flat_map f part) (flat_map f after) left more }

  pub items_none : (old now : Option (List ℕ)) (all rest : List X) → rest ≡ [] →
      AppendsItems f old now all rest → Appends old now (flat_map f all)
  items_none old now all rest same is =
      let left = rw same at is in but_none old now (flat_map f all) left.but

-- the numbers from i on begin with i
pub range_more : (i n : ℕ) → i < n → range_with_len i (n - i) ≡ i ∷ range_with_len (i + 1) (n - (i + 1))
range_more i n less =
    let more : n - i ≡ suc (n - (i + 1)) = omega (arith, less) in ap (range_with_len i) more

pub range_none : (i n : ℕ) → n ≤ i → range_with_len i (n - i) ≡ []
range_none i n past = let none : n - i ≡ 0 = omega (arith, past) in ap (range_with_len i) none

-- a place is among the members exactly if the set has it
pub members-has : (set : List Bool) (i : ℕ) → Contains (members set) i ↔ (item set i ≡ true)
members-has set i = (
  (λ there. ((matches_exactly set true Unbounded Unbounded i).0 there).2),
  (λ there. (matches_exactly set true Unbounded Unbounded i).1 (inside there, refl, there)),
)
  where
    inside : item set i ≡ true → i < length set
    inside there = elim (cases_lt i (length set)) [
      | inl less ↦ less
      | inr past ↦ absurd (false≢true (sym (get_or_past set i false past) ∙ there))
    ]

-- the members are below the length
pub members_inside : (set : List Bool) → All (λ number. number < length set) (members set)
members_inside set k d less =
    ((matches_exactly set true Unbounded Unbounded (get_or (members set) k d)).0
    (Contains-get_or (members set) k d less)).0

none_below : (numbers : List ℕ) → All (λ number. number < 0) numbers → numbers ≡ []
none_below [] all = refl
none_below (x ∷ numbers) all =
    let less : x < 0 = all 0 x (omega arith) in absurd (omega (arith, less))

pub members_none : members [] ≡ []
members_none = none_below (members []) (members_inside [])

pub members-rise : (set : List Bool) → AllPairs (λ i j. i < j) (members set)
members-rise set = matches_rise set true Unbounded Unbounded

-- texts of items that are made of others
module _ {X Y A : Type 0} (f : Y → List A) where
  pub flat_map-map : (g : X → Y) (xs : List X) → flat_map f (map g xs) ≡ flat_map (λ x. f (g x)) xs
  flat_map-map g [] = refl
  flat_map-map g (x ∷ xs) = ap (λ ys. f (g x) ++ ys) (flat_map-map g xs)

  pub flat_map-flat_map : (g : X → List Y) (xs : List X)
      → flat_map f (flat_map g xs) ≡ flat_map (λ x. flat_map f (g x)) xs
  flat_map-flat_map g [] = refl
  flat_map-flat_map g (x ∷ xs) =
      flat_map-append f (g x) (flat_map g xs) ∙ ap (λ ys. flat_map f (g x) ++ ys) (flat_map-flat_map g xs)
