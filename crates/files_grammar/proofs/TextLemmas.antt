-- Texts that are written one after another.
use Rattle.std.proofs.Common.{◌≡◌, ◌↔◌, ℕ, inl, inr, List, [], ◌∷◌, ◌++◌, Option, refl}
use Rattle.std.specs.Io.KnownBytes.{Appends}
use Rattle.std.proofs.lemmas.List.{append_assoc, append-nil}
use Rattle.files_text.specs.Printed.{Writes}
use Rattle.files_text.proofs.PrintedLemmas.{Appends-both, Appends-none}
use Rattle.files_grammar.specs.Texts.{AreTexts, Both, SaysIf}

-- ---- one text after another

module _ (a b c : Option (List ℕ)) where
  pub both : {P Q : List ℕ → Type 0} → Writes a b P → Writes b c Q → Writes a c (Both P Q)
  both (xs, one, p) (ys, two, q) = (
    xs ++ ys,
    Appends-both a b c xs ys one two,
    record { first = xs; second = ys; joined = refl; first_is = p; second_is = q },
  )

  pub after : {Q : List ℕ → Type 0} → (xs : List ℕ) → Appends a b xs → Writes b c Q →
      Writes a c (Both (λ part. part ≡ xs) Q)
  after xs one (ys, two, q) = (
    xs ++ ys,
    Appends-both a b c xs ys one two,
    record { first = xs; second = ys; joined = refl; first_is = refl; second_is = q },
  )

  pub before : {P : List ℕ → Type 0} → (ys : List ℕ) → Writes a b P → Appends b c ys →
      Writes a c (Both P (λ part. part ≡ ys))
  before ys (xs, one, p) two = (
    xs ++ ys,
    Appends-both a b c xs ys one two,
    record { first = xs; second = ys; joined = refl; first_is = p; second_is = refl },
  )

-- a text of which something else holds too
pub writes_as : (a b : Option (List ℕ)) {P Q : List ℕ → Type 0} → ((text : List ℕ) → P text → Q text) →
    Writes a b P → Writes a b Q
writes_as a b gives (text, one, p) = (text, one, gives text p)

pub writes_nothing : (a : Option (List ℕ)) → {P : List ℕ → Type 0} → P [] → Writes a a P
writes_nothing a p = ([], Appends-none a, p)

-- ---- a text for each of some things

-- a loop over a list: the texts of those of a rest are left
pub record WritesBut {X : Type 0} (Says : X → List ℕ → Type 0) (old now : Option (List ℕ)) (all rest : List X)
    : Type 0 where
  pub text : List ℕ
  pub appended : Appends old now text
  pub on : (more : List ℕ) → AreTexts Says rest more → AreTexts Says all (text ++ more)

module _ {X : Type 0} (Says : X → List ℕ → Type 0) where
  pub texts_all : (known : Option (List ℕ)) (all rest : List X) → rest ≡ all → WritesBut Says known known all rest
  texts_all known all rest same = rw same (record {
    text = [];
    appended = Appends-none known;
    on = λ more are. are;
  })

  pub texts_more : (a b c : Option (List ℕ)) (all rest behind : List X) (x : X) → rest ≡ x ∷ behind →
      WritesBut Says a b all rest → Writes b c (Says x) → WritesBut Says a c all behind
  texts_more a b c all rest behind x same so_far (xs, one, says) =
      let left = rw same at so_far in
      record {
        text = left.text ++ xs;
        appended = Appends-both a b c left.text xs left.appended one;
        on = λ more are. rw (append_assoc left.text xs more)
            (left.on (xs ++ more) (xs, more, refl, says, are));
      }

  pub texts_none : (old now : Option (List ℕ)) (all rest : List X) → rest ≡ [] → WritesBut Says old now all rest →
      Writes old now (AreTexts Says all)
  texts_none old now all rest same so_far =
      let left = rw same at so_far in (
        left.text,
        left.appended,
        rw (← append-nil left.text) (left.on [] refl),
      )

-- ---- a text if something holds

pub says_yes : (a b : Option (List ℕ)) {H : Type 0} {P : List ℕ → Type 0} → H → Writes a b P → Writes a b (SaysIf H P)
says_yes a b h (text, one, p) = (text, one, inl (h, p))

pub says_no : (a : Option (List ℕ)) {H : Type 0} {P : List ℕ → Type 0} → (¬ H) → Writes a a (SaysIf H P)
says_no a not = ([], Appends-none a, inr (not, refl))

pub says_as : (a b : Option (List ℕ)) {H G : Type 0} {P : List ℕ → Type 0} → (H ↔ G) → Writes a b (SaysIf H P) →
    Writes a b (SaysIf G P)
says_as a b same (text, one, inl (h, p)) = (text, one, inl (same.0 h, p))
says_as a b same (text, one, inr (not, none)) = (text, one, inr ((λ g. not (same.1 g)), none))
