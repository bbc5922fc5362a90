-- Numbers read to the end of a line.
use Rattle.std.proofs.Common.{◌≡◌, ◌≢◌, ℕ, List, [], ◌∷◌, ◌++◌, map, refl}
use Rattle.std.proofs.lemmas.List.{append_assoc, append-nil}
use Rattle.vob_lines.specs.Arguments.{number, AllSpell}
use Rattle.vob_lines.specs.Kinds.{a_number, numbers, Are, Begins, Takes}

-- the first words are these numbers, and numbers alone may follow
pub record ReadNumbers (words rest : List (List ℕ)) (values : List ℕ) : Type 0 where
  pub front : (more : List ℕ) → AllSpell rest (map number more) →
      AllSpell words (map number (values ++ more))
  pub back : Are words numbers → Are rest numbers

-- none yet
pub no_numbers : (words : List (List ℕ)) → ReadNumbers words words []
no_numbers words = record { front = λ more spelled. spelled; back = λ all. all }

numbers_behind : (words rest : List (List ℕ)) (word : List ℕ) (values : List ℕ) →
    words ≡ word ∷ rest → AllSpell words (map number values) → Are rest numbers
numbers_behind words rest word [] e spelled = absurd (rw e at spelled)
numbers_behind words rest word (value ∷ values) e spelled =
    let both = rw e at spelled in (values, both.1)

spelled_before : (words rest : List (List ℕ)) (n : ℕ) (more : List ℕ) →
    Takes words (number n) rest → AllSpell rest (map number more) →
    AllSpell words (map number (n ∷ more))
spelled_before words rest n more takes spelled = rw takes.first (takes.spelled, spelled)

-- one more
pub number_more : (words between rest : List (List ℕ)) (values : List ℕ) (n : ℕ) →
    ReadNumbers words between values → Takes between (number n) rest →
    ReadNumbers words rest (values ++ n ∷ [])
number_more words between rest values n so_far takes = record {
  front = λ more spelled.
      let whole = so_far.front (n ∷ more) (spelled_before between rest n more takes spelled) in
      rw append_assoc whole;
  back = λ all. let left = so_far.back all in
      numbers_behind between rest takes.word left.0 takes.first left.1;
}

-- no word is left
pub all_numbers : (words rest : List (List ℕ)) (values : List ℕ) → ReadNumbers words rest values →
    rest ≡ [] → AllSpell words (map number values)
all_numbers words rest values so_far none =
    let whole = so_far.front [] (rw none tt) in rw append-nil at whole

first_number : (words : List (List ℕ)) (values : List ℕ) → words ≢ [] →
    AllSpell words (map number values) → Begins words a_number
first_number [] values some spelled = absurd (some refl)
first_number (word ∷ words) [] some spelled = absurd spelled
first_number (word ∷ words) (value ∷ values) some spelled = record {
  argument = number value;
  rest = words;
  takes = record { word = word; first = refl; spelled = spelled.0 };
  same = refl;
}

-- a word that is none
pub no_number : (words rest : List (List ℕ)) (values : List ℕ) → ReadNumbers words rest values →
    rest ≢ [] → (Begins rest a_number → ⊥) → Are words numbers → ⊥
no_number words rest values so_far some other all =
    let left = so_far.back all in other (first_number rest left.0 some left.1)
