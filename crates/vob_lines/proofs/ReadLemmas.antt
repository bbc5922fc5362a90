-- Words read as the calls of their keyword, and as one call at most.
use Rattle.std.proofs.Common.{None, Some, ◌≡◌, ℕ, Bool, true, false, cond, List, [], ◌∷◌, map, refl, ap, sym, ◌∙◌}
use Rattle.std.specs.Prelude.{find}
use Rattle.std.specs.Str.{bytes_eq}
use Rattle.std.proofs.lemmas.Option.{none-some, same_Some}
use Rattle.std.proofs.lemmas.Slice.Eq.{bytes_eq-Decides}
use Rattle.std.specs.declared.ops.Bound.TheVariants.{Unbounded}
use Rattle.vob_run.specs.Call.{Call}
use Rattle.vob_run.specs.Call as call
use Rattle.vob_lines.specs.Arguments.{Argument, number, AllSpell}
use Rattle.vob_lines.specs.Errors.{HoldList}
use Rattle.vob_lines.specs.Grammar.{form_of, Reads}
use Rattle.vob_lines.specs.Lists.{HasList, BeginsAsList}
use Rattle.vob_lines.specs.Kinds.{Kinds, nothing, numbers, before, kinds_of, Are, Begins, IsLine}
use Rattle.vob_lines.specs.Keywords.{word_of, keywords, keyword_named}
use Rattle.vob_lines.specs.declared.keyword.Keyword.{Keyword}
use Rattle.vob_lines.specs.declared.keyword.Keyword.TheVariants.{Fresh, Number, NumberNumber}
use Rattle.vob_lines.specs.declared.keyword.Keyword.TheVariants.{BitNumber, NumberBit}
use Rattle.vob_lines.specs.declared.keyword.Keyword.TheVariants.{NumberNumberBit, BitList}
use Rattle.vob_lines.specs.declared.keyword.Keyword.TheVariants.{NumberBitList, Bytes, Raw, Record}
use Rattle.vob_lines.specs.declared.keyword.Keyword.TheVariants.{Drain, Walk, Count}
use Rattle.vob_lines.specs.declared.keyword.BitList.TheVariants.{Slice, Items}
use Rattle.vob_lines.specs.declared.keyword.NumberBitList.TheVariants.{Append, Extend}
use Rattle.vob_lines.proofs.SpellsLemmas.{spells_once}
use Rattle.vob_lines.proofs.KeywordLemmas.{keyword_of, Fits, belongs, call_from}

-- words that spell arguments are of their kinds
are_kinds : (words : List (List ℕ)) (arguments : List Argument) (kinds : Kinds) →
    Fits arguments kinds → AllSpell words arguments → Are words kinds
are_kinds [] arguments nothing fits spelled = refl
are_kinds (word ∷ words) arguments nothing fits spelled = absurd (rw fits at spelled)
are_kinds words arguments numbers fits spelled = (fits.0, rw fits.1 at spelled)
are_kinds [] arguments (before kind kinds) fits spelled = absurd (rw fits.2 at spelled)
are_kinds (word ∷ words) arguments (before kind kinds) fits spelled =
    let both = rw fits.2 at spelled in
    let begins : Begins (word ∷ words) kind = record {
      argument = fits.0;
      rest = words;
      takes = record { word = word; first = refl; spelled = both.0 };
      same = fits.3;
    } in
    (begins, are_kinds words fits.1 kinds fits.4 both.1)

-- numbers are spelled by one word each
numbers_once : (words : List (List ℕ)) (xs ys : List ℕ) → AllSpell words (map number xs) →
    AllSpell words (map number ys) → xs ≡ ys
numbers_once [] [] [] here there = refl
numbers_once (word ∷ words) (x ∷ xs) (y ∷ ys) here there =
    let first : x ≡ y = sym here.0.1 ∙ there.0.1 in
    let others = numbers_once words xs ys here.1 there.1 in cc
numbers_once [] (x ∷ xs) ys here there = absurd here
numbers_once [] [] (y ∷ ys) here there = absurd there
numbers_once (word ∷ words) [] ys here there = absurd here
numbers_once (word ∷ words) (x ∷ xs) [] here there = absurd there

-- words spell arguments of these kinds once at most
all_spell_once : (words : List (List ℕ)) (xs ys : List Argument) (kinds : Kinds) → Fits xs kinds →
    Fits ys kinds → AllSpell words xs → AllSpell words ys → xs ≡ ys
all_spell_once words xs ys nothing mine other here there = mine ∙ sym other
all_spell_once words xs ys numbers mine other here there =
    let same = numbers_once words mine.0 other.0 (rw mine.1 at here) (rw other.1 at there) in
    mine.1 ∙ ap (map number) same ∙ sym other.1
all_spell_once [] xs ys (before kind kinds) mine other here there = absurd (rw mine.2 at here)
all_spell_once (word ∷ words) xs ys (before kind kinds) mine other here there =
    let both = rw mine.2 at here in
    let twice = rw other.2 at there in
    let first = spells_once word mine.0 other.0 (mine.3 ∙ sym other.3) both.0 twice.0 in
    let rest = all_spell_once words mine.1 other.1 kinds mine.4 other.4 both.1 twice.1 in
    cc

passes-find : (p : Keyword → Bool) (ks : List Keyword) (k : Keyword) → find p ks ≡ Some k →
    p k ≡ true
passes-find p [] k e = absurd (none-some k e)
passes-find p (x ∷ ks) k e =
    elim (p x) as (λ b. p x ≡ b → cond b (Some x) (find p ks) ≡ Some k → p k ≡ true) [
      | true ↦ λ here same. ap p (sym (same_Some x k same)) ∙ here
      | false ↦ λ _ later. passes-find p ks k later
    ] refl e

-- the table finds a keyword by its text alone
word_named : (word : List ℕ) (k : Keyword) → keyword_named word ≡ Some k → word ≡ word_of k
word_named word k named =
    let passes = passes-find (λ keyword. bytes_eq (word_of keyword) word) keywords k named in
    sym ((bytes_eq-Decides (word_of k) word).0 passes)

-- the first word of a line that reads as a call names the call's keyword
named_call : (word : List ℕ) (words : List (List ℕ)) (c : Call) → Reads (word ∷ words) c →
    keyword_named word ≡ Some (keyword_of c)
named_call word words c reads =
    ap keyword_named reads.0 ∙ (belongs c).named

-- words read as one call at most
pub reads_once : (line : List (List ℕ)) (c d : Call) → Reads line c → Reads line d → c ≡ d
reads_once [] c d here there = absurd here
reads_once (word ∷ words) c d here there =
    let same : Some (keyword_of c) ≡ Some (keyword_of d) =
    sym (named_call word words c here) ∙ named_call word words d there in
    let key : keyword_of c ≡ keyword_of d = cc in
    let mine = rw key at (belongs c).fits in
    let arguments = all_spell_once words _ _ _ mine (belongs d).fits here.1 there.1 in
    let back : call_from (keyword_of c) (form_of c).arguments
    ≡ call_from (keyword_of d) (form_of d).arguments = cc in
    same_Some c d (sym (belongs c).back ∙ back ∙ (belongs d).back)

-- a word that is no keyword
pub not_named : (line : List (List ℕ)) (word : List ℕ) (words : List (List ℕ)) →
    line ≡ word ∷ words → keyword_named word ≡ None → (c : Call) → Reads line c → ⊥
not_named line word words cut none c reads =
    let here = rw cut at reads in none-some (keyword_of c) (sym none ∙ named_call word words c here)

-- a call that holds a list, for a keyword of such calls
list_call : (k : Keyword) → HoldList (kinds_of k) →
    (c : Call) × HasList c × ((form_of c).word ≡ word_of k)
list_call (BitList Slice) takes = (call.FromSlice [], tt, refl)
list_call (BitList Items) takes = (call.FromItems [], tt, refl)
list_call (NumberBitList Append) takes = (call.ExtendSlice 0 [], tt, refl)
list_call (NumberBitList Extend) takes = (call.ExtendItems 0 [], tt, refl)
list_call Bytes takes = (call.FromBytes [], tt, refl)
list_call Raw takes = (call.FromRaw 0 false [], tt, refl)
list_call Record takes = (call.FromRecord 0 [], tt, refl)
list_call Walk takes = (call.Walk 0 false Unbounded Unbounded [], tt, refl)
list_call Fresh takes = absurd takes
list_call (Number word) takes = absurd takes
list_call (NumberNumber word) takes = absurd takes
list_call (BitNumber word) takes = absurd takes
list_call (NumberBit word) takes = absurd takes
list_call (NumberNumberBit word) takes = absurd takes
list_call Drain takes = absurd takes
list_call Count takes = absurd takes

module _ (line : List (List ℕ)) (word : List ℕ) (words : List (List ℕ)) (k : Keyword)
    (cut : line ≡ word ∷ words) where
  -- the keyword and its arguments
  pub reads_line : (c : Call) → keyword_named word ≡ Some k → IsLine k words c → Reads line c
  reads_line c named is =
      let here : Reads (word ∷ words) c = (word_named word k named ∙ sym is.word, is.spelled) in
      rw cut here

  -- words of other kinds are no arguments of the keyword
  pub not_read : keyword_named word ≡ Some k → (Are words (kinds_of k) → ⊥) → (c : Call) →
      Reads line c → ⊥
  not_read named others c reads =
      let here = rw cut at reads in
      let same : Some k ≡ Some (keyword_of c) = sym named ∙ named_call word words c here in
      let key : k ≡ keyword_of c = cc in
      others (rw key (are_kinds words _ _ (belongs c).fits here.1))

  -- only a keyword of calls that hold a list takes memory
  pub begins_as_list : keyword_named word ≡ Some k → HoldList (kinds_of k) → BeginsAsList line
  begins_as_list named takes =
      let found = list_call k takes in
      record {
        call = found.0;
        holds = found.1;
        words = words;
        first = cut ∙ ap (λ w. w ∷ words) (word_named word k named ∙ sym found.2);
      }
