-- A text has one fault at most, and none if it is a condition.
use Rattle.std.specs.Prelude.{All, codes}
use Rattle.std.specs.Char.{is_ascii_whitespace}
use Rattle.std.proofs.Common.{◌≡◌, ◌≢◌, ◌⊎◌, ◌↔◌, inl, inr, ℕ, suc, ◌+◌, Bool, true, false, Option, None, Some, List, [], ◌∷◌, ◌++◌, length, drop, get_or, refl, sym, ap, subst, ◌∙◌, arith}
use Rattle.std.specs.Option.{option_and_then}
use Rattle.std.proofs.lemmas.Bool.{true≢false, false≢true}
use Rattle.std.proofs.lemmas.List.{append_assoc, append-nil, length-append}
use Rattle.std.proofs.lemmas.Option.{same_Some, none-some}
use Rattle.files_condition.specs.declared.words.Mark.TheVariants.{And, Close, Compares, Not}
use Rattle.files_condition.specs.declared.condition.Relation.TheVariants.{Equal}
use Rattle.files_condition.specs.Conditions.{AreCondition, IsKey, Test, Tree}
use Rattle.files_condition.specs.Laws.{ConditionsHaveNoFault, FaultsAreOne}
use Rattle.files_condition.specs.Places.{CanBegin, CanStand, HasNoWords, IsFirstFault, IsLong, IsUnclosed, LeadTo, Place, Stop, after_is, after_name, after_not, after_operand, after_relation, before_operand, column_at, expected_at}
use Rattle.files_condition.specs.Reading.{State, is_inside, place_of, run, start, step}
use Rattle.files_condition.specs.Words.{AreWords, AreWordsOf, IsSpelled, IsWritten, Token, column_of, mark, text}
use Rattle.files_condition.specs.Words.AreWords.{none, white, word}
use Rattle.files_condition.proofs.CompleteLemmas.{condition_ends, condition_reads, run-append}
use Rattle.files_condition.proofs.OneLemmas.{dark, first_plain, spelled_one, tail_is, told, words_of_one}
use Rattle.files_condition.proofs.PlaceLemmas.{leads, stands}

-- what words begin with
pub data BeginsBy (c b : ℕ) (rest : List ℕ) (words : List Token) (after : ℕ) (end : List ℕ) : Type 0 where
  by_none : end ≡ b ∷ rest → words ≡ [] → after ≡ c → BeginsBy c b rest words after end
  by_white : is_ascii_whitespace b ≡ true → AreWords (c + 1) rest words after end → BeginsBy c b rest words after end
  by_word : (others behind : List ℕ) (token : Token) (more : List Token) → rest ≡ others ++ behind →
      IsSpelled c token (b ∷ others) behind → words ≡ token ∷ more →
      AreWords (c + length (b ∷ others)) behind more after end → BeginsBy c b rest words after end

begins_by : {c after : ℕ} {words : List Token} {end : List ℕ} (b : ℕ) (rest : List ℕ) →
    AreWords c (b ∷ rest) words after end →
    BeginsBy c b rest words after end
begins_by b rest none = by_none refl refl refl
begins_by b rest (white is left) = by_white is left
begins_by b rest (word first others {token} {behind} {words = words} spelled left) =
    by_word others behind token words refl spelled refl left

-- of two lists of words of a text one goes on with the other
pub record GoesOn (from : ℕ) (behind : List ℕ) (after : ℕ) (end : List ℕ) (words longer : List Token) : Type 0 where
  pub more : List Token
  pub are_words : AreWords from behind more after end
  pub longer_is : longer ≡ words ++ more

abbrev Compared : (d : ℕ) → List ℕ → (e : ℕ) → List ℕ → List Token → List Token → Type 0
Compared d ys e zs words others = GoesOn d ys e zs words others ⊎ GoesOn e zs d ys others words

longer_by : {d e : ℕ} {ys zs : List ℕ} {words others : List Token} (token other : Token) → token ≡ other →
    Compared d ys e zs words others → Compared d ys e zs (token ∷ words) (other ∷ others)
longer_by {words = words} token other same (inl goes) = inl (record {
  more = goes.more;
  are_words = goes.are_words;
  longer_is = ap (λ l. other ∷ l) goes.longer_is ∙ ap (λ t. t ∷ (words ++ goes.more)) (sym same);
})
longer_by {others = others} token other same (inr goes) = inr (record {
  more = goes.more;
  are_words = goes.are_words;
  longer_is = ap (λ l. token ∷ l) goes.longer_is ∙ ap (λ t. t ∷ (others ++ goes.more)) same;
})

-- the other list ends here
ended : {c d e : ℕ} {xs ys zs : List ℕ} {words others : List Token} → AreWords c xs words d ys → zs ≡ xs → others
    ≡ [] → e ≡ c →
    Compared d ys e zs words others
ended {c} {d} {e} {xs} {ys} {zs} {words} are text_is no_words column_is = inr (record {
  more = words;
  are_words = subst (λ k. AreWords k zs words d ys) (sym column_is) (subst (λ l. AreWords c l words d ys) (sym
      text_is) are);
  longer_is = sym (ap (λ l. l ++ words) no_words);
})

pub compare : {c d e : ℕ} {xs ys zs : List ℕ} {words others : List Token} → AreWords c xs words d ys →
    AreWords c xs others e zs → Compared d ys e zs words others
compare {others = others} none other = inl (record { more = others; are_words = other; longer_is = refl })
compare {c} {d} {e} {xs} {ys} {zs} (white {byte = b} {others = rest} is left) other =
    elim (begins_by b rest other) [
      | by_none text_is no_words column_is ↦ ended (white is left) text_is no_words column_is
      | by_white also left' ↦ compare left left'
      | by_word others behind token more cut spelled words_are left' ↦
          absurd (true≢false (sym is ∙ dark c b others behind token spelled))
    ]
compare {c} {d} {e} {xs} {ys} {zs} {others = all} (word first rest {token} {behind} {words =
    words} spelled left) other =
    elim (begins_by first (rest ++ behind) other) [
      | by_none text_is no_words column_is ↦ ended (word first rest spelled left) text_is no_words column_is
      | by_white is left' ↦ absurd (true≢false (sym is ∙ dark c first rest behind token spelled))
      | by_word rest' behind' token' more cut spelled' words_are left' ↦
          let (tokens, rests, behinds) = spelled_one c first rest behind rest' behind' cut token token' spelled
          spelled' in
          let there : AreWords (c + length (first ∷ rest)) behind more e zs =
          subst (λ t. AreWords (c + length (first ∷ rest)) t more e zs) (sym behinds)
          (subst (λ r. AreWords (c + length (first ∷ r)) behind' more e zs) (sym rests) left') in
          subst (λ l. Compared d ys e zs (token ∷ words) l) (sym words_are) (longer_by token token' tokens (compare
          left there))
    ]

-- nothing goes on behind a quote that isn't closed
no_quote : (name rest : List ℕ) → All (λ byte. byte ≢ 34) (name ++ 34 ∷ rest) → ⊥
no_quote [] rest all = all 0 0 (omega arith) refl
no_quote (x ∷ name) rest all = no_quote name rest (λ k d less. all (suc k) d (omega (arith, less)))

never_written : (others behind inside name : List ℕ) (q : Bool) → IsWritten q name (34 ∷ others) behind → inside
    ≡ others ++ behind →
    All (λ byte. byte ≢ 34) inside → ⊥
never_written others behind inside name true is cut all =
    let others_are : others ≡ name ++ 34 ∷ [] = tail_is 34 others 34 (name ++ 34 ∷ []) is.0 in
    let whole : inside ≡ name ++ 34 ∷ behind = cut ∙ ap (λ l. l ++ behind) others_are
    ∙ append_assoc name (34 ∷ []) behind in
    no_quote name behind (subst (λ l. All (λ byte. byte ≢ 34) l) whole all)
never_written others behind inside name false is cut all = false≢true (first_plain 34 others name is.0 is.1)

never_spelled : (c : ℕ) (others behind inside : List ℕ) (token : Token) → IsSpelled c token (34 ∷ others) behind →
    inside ≡ others ++ behind → All (λ byte. byte ≢ 34) inside → ⊥
never_spelled c others behind inside (text term) is cut all =
    never_written others behind inside term.text term.is_quoted is.1 cut all
never_spelled c others behind inside (mark sign at) is cut all = none-some sign (told 34 others behind sign is.1 is.2)

blocked : {d e : ℕ} {zs : List ℕ} {more : List Token} (inside : List ℕ) → AreWords d (34 ∷ inside) more e zs →
    All (λ byte. byte ≢ 34) inside → (zs ≡ 34 ∷ inside) × (more ≡ [])
blocked {d} inside are all = elim (begins_by 34 inside are) [
  | by_none text_is no_words column_is ↦ (text_is, no_words)
  | by_white is left ↦ absurd (false≢true is)
  | by_word others behind token more cut spelled words_are left ↦
      absurd (never_spelled d others behind inside token spelled cut all)
]

nothing_more : {d e : ℕ} {zs : List ℕ} {more : List Token} → AreWords d [] more e zs → (zs ≡ []) × (more ≡ [])
nothing_more none = (refl, refl)

module _ (whole : List ℕ) where
  unclosed_has_no_words : (column : ℕ) (expected : List ℕ) (words : List Token) → IsUnclosed whole column expected →
      AreWordsOf whole words → ⊥
  unclosed_has_no_words column expected words is are = elim (compare is.are_words are.are_words) [
    | inl goes ↦ let (end, more) = blocked is.inside goes.are_words is.unclosed in omega (arith, ap length end)
    | inr goes ↦ let (end, more) = nothing_more goes.are_words in omega (arith, ap length end)
  ]

  long_has_no_words : (column : ℕ) (expected : List ℕ) (words : List Token) → IsLong whole column expected →
      AreWordsOf whole words → ⊥
  long_has_no_words column expected words is are = elim (compare is.are_words are.are_words) [
    | inl goes ↦
        omega (
          arith,
          is.many,
          are.few,
          ap length goes.longer_is,
          length-append (is.words ++ is.token ∷ []) goes.more,
          length-append is.words (is.token ∷ []),
        )
    | inr goes ↦
        let (end, more) = nothing_more goes.are_words in
        omega (
          arith,
          is.many,
          are.few,
          ap length goes.longer_is,
          ap length more,
          length-append words goes.more,
          length-append is.words (is.token ∷ []),
        )
  ]

  has_no_words : (column : ℕ) (expected : List ℕ) (words : List Token) → HasNoWords whole column expected →
      AreWordsOf whole words → ⊥
  has_no_words column expected words (inl is) are = unclosed_has_no_words column expected words is are
  has_no_words column expected words (inr is) are = long_has_no_words column expected words is are

  unclosed_is_short : (column other : ℕ) (expected said : List ℕ) → IsUnclosed whole column expected →
      IsLong whole other said → ⊥
  unclosed_is_short column other expected said is long = elim (compare is.are_words long.are_words) [
    | inl goes ↦
        let (end, more) = blocked is.inside goes.are_words is.unclosed in
        omega (
          arith,
          is.few,
          long.many,
          ap length goes.longer_is,
          ap length more,
          length-append is.words goes.more,
          length-append long.words (long.token ∷ []),
        )
    | inr goes ↦
        omega (
          arith,
          is.few,
          long.many,
          ap length goes.longer_is,
          length-append (long.words ++ long.token ∷ []) goes.more,
          length-append long.words (long.token ∷ []),
        )
  ]

-- lists that go on alike are alike
last_one : (xs ys more : List Token) (x y : Token) → length xs ≡ length ys → ys ++ y ∷ [] ≡ xs ++ x ∷ [] ++ more → y ≡ x
last_one [] [] more x y long same = ap (λ l. get_or l 0 y) same
last_one [] (b ∷ ys) more x y long same = absurd (omega (arith, long))
last_one (a ∷ xs) [] more x y long same = absurd (omega (arith, long))
last_one (a ∷ xs) (b ∷ ys) more x y long same = last_one xs ys more x y (omega (arith, long)) (ap (drop 1) same)

long_one : (whole : List ℕ) (column other : ℕ) (expected said : List ℕ) → IsLong whole column expected →
    IsLong whole other said → (column ≡ other) × (expected ≡ said)
long_one whole column other expected said is too =
    let same : is.token ≡ too.token = elim (compare is.are_words too.are_words) [
      | inl goes ↦ sym (last_one is.words too.words goes.more is.token too.token (is.many
          ∙ sym too.many) goes.longer_is)
      | inr goes ↦ last_one too.words is.words goes.more too.token is.token (too.many ∙ sym is.many) goes.longer_is
    ] in
    (is.column_is ∙ ap column_of same ∙ sym too.column_is, is.expected_is ∙ sym too.expected_is)

no_words_one : (whole : List ℕ) (column other : ℕ) (expected said : List ℕ) → HasNoWords whole column expected →
    HasNoWords whole other said → (column ≡ other) × (expected ≡ said)
no_words_one whole column other expected said (inl is) (inl too) =
    (is.column_is ∙ sym too.column_is, is.expected_is ∙ sym too.expected_is)
no_words_one whole column other expected said (inl is) (inr too) =
    absurd (unclosed_is_short whole column other expected said is too)
no_words_one whole column other expected said (inr is) (inl too) =
    absurd (unclosed_is_short whole other column said expected too is)
no_words_one whole column other expected said (inr is) (inr too) = long_one whole column other expected said is too

-- no word can be next
abbrev Stuck : State → List Token → Type 0
Stuck s [] = Unit {0}
Stuck s (token ∷ rest) = step s token ≡ None

-- the words before one that can't be next are the same
module _ (s1 s2 : State) (rest1 rest2 : List Token) (stuck1 : Stuck s1 rest1) (stuck2 : Stuck s2 rest2) where
  -- nothing is read behind the end
  ends_first : (t u : State) (rest more others : List Token) → Stuck t rest → (token : Token) → rest
      ≡ (token ∷ more) ++ others →
      run t (token ∷ more) ≡ Some u → ⊥
  ends_first t u [] more others stuck token same ran = omega (arith, ap length same)
  ends_first t u (first ∷ rest) more others stuck token same ran =
      let none : step t token ≡ None = ap (step t) (sym (ap (λ l. get_or l 0 first) same)) ∙ stuck in
      none-some u (sym (ap (option_and_then (λ v. run v more)) none) ∙ ran)

  firsts_by : (s : State) (before1 before2 : List Token) → before1 ++ rest1 ≡ before2 ++ rest2 → run s before1
      ≡ Some s1 →
      run s before2 ≡ Some s2 → before1 ≡ before2
  firsts_by s [] [] same ran1 ran2 = refl
  firsts_by s [] (token ∷ more) same ran1 ran2 = absurd (ends_first s s2 rest1 more rest2
      (subst (λ t. Stuck t rest1) (sym (same_Some s s1 ran1)) stuck1) token same ran2)
  firsts_by s (token ∷ more) [] same ran1 ran2 = absurd (ends_first s s1 rest2 more rest1
      (subst (λ t. Stuck t rest2) (sym (same_Some s s2 ran2)) stuck2) token (sym same) ran1)
  firsts_by s (token ∷ more) (other ∷ others) same ran1 ran2 =
      let first : token ≡ other = ap (λ l. get_or l 0 token) same in
      by first (step s token) refl (λ t. firsts_by t more others (ap (drop 1) same)) ran1
      (subst (λ w. option_and_then (λ t. run t others) (step s w) ≡ Some s2) (sym first) ran2)
    where
      by : token ≡ other → (o : Option State) → step s token ≡ o →
          ((t : State) → run t more ≡ Some s1 → run t others ≡ Some s2 → more ≡ others) →
          option_and_then (λ t. run t more) o ≡ Some s1 → option_and_then (λ t. run t others) (step s token) ≡ Some s2 →
          token ∷ more ≡ other ∷ others
      by first None never each ran1 ran2 = absurd (none-some s1 ran1)
      by first (Some t) is each ran1 ran2 =
          ap (λ w. w ∷ more) first ∙ ap (λ l. other ∷ l) (each t ran1 (sym (ap (option_and_then (λ u. run u others))
          is) ∙ ran2))

-- the words that can stand at a place tell the place
abbrev some_name : Token
some_name = text (record { text = 97 ∷ []; at = 0; is_quoted = false })

abbrev a_not : Token
a_not = text (record { text = codes "not"; at = 0; is_quoted = false })

abbrev a_missing_word : Token
a_missing_word = text (record { text = codes "missing"; at = 0; is_quoted = false })

no_key : (xs ys : List ℕ) (k : ℕ) → length xs + suc k ≡ length ys → xs ≡ ys → ⊥
no_key xs ys k long same = omega (arith, long, ap length same)

is_not : IsKey (record { text = codes "not"; at = 0; is_quoted = false }) (codes "not")
is_not = record { text_is = refl; plain = refl }

is_missing : IsKey (record { text = codes "missing"; at = 0; is_quoted = false }) (codes "missing")
is_missing = record { text_is = refl; plain = refl }

some_bytes : (x : ℕ) → (x ∷ []) ≢ []
some_bytes x same = omega (arith, ap length same)

abbrev Alike : Place → Place → Type 0
Alike p q = (token : Token) → CanStand p token ↔ CanStand q token

after_relation_is : Alike after_relation after_is → ⊥
after_relation_is same = elim ((same some_name).0 (some_bytes 97)) [
  | inl key ↦ no_key (97 ∷ []) (codes "missing") 5 refl key.text_is
  | inr key ↦ no_key (97 ∷ []) (codes "not") 1 refl key.text_is
]

after_relation_not : Alike after_relation after_not → ⊥
after_relation_not same = no_key (97 ∷ []) (codes "missing") 5 refl ((same some_name).0 (some_bytes 97)).text_is

after_is_not : Alike after_is after_not → ⊥
after_is_not same = no_key (codes "not") (codes "missing") 3 refl ((same a_not).0 (inr is_not)).text_is

turned : (p q : Place) → Alike p q → Alike q p
turned p q same token = ((same token).1, (same token).0)

insides_one : (b c : Bool) → Alike (after_operand b) (after_operand c) → b ≡ c
insides_one true true same = refl
insides_one false false same = refl
insides_one true false same = absurd (false≢true ((same (mark Close 0)).0 refl))
insides_one false true same = absurd (false≢true ((same (mark Close 0)).1 refl))

places_one : (p q : Place) → Alike p q → p ≡ q
places_one before_operand before_operand same = refl
places_one before_operand after_name same = absurd ((same (mark Not 0)).0 tt)
places_one before_operand after_relation same = absurd ((same (mark Not 0)).0 tt)
places_one before_operand after_is same = absurd ((same (mark Not 0)).0 tt)
places_one before_operand after_not same = absurd ((same (mark Not 0)).0 tt)
places_one before_operand (after_operand b) same = absurd ((same (mark Not 0)).0 tt)
places_one after_name before_operand same = absurd ((same (mark Not 0)).1 tt)
places_one after_name after_name same = refl
places_one after_name after_relation same = absurd ((same (mark (Compares Equal) 0)).0 tt)
places_one after_name after_is same = absurd ((same (mark (Compares Equal) 0)).0 tt)
places_one after_name after_not same = absurd ((same (mark (Compares Equal) 0)).0 tt)
places_one after_name (after_operand b) same = absurd ((same (mark (Compares Equal) 0)).0 tt)
places_one after_relation before_operand same = absurd ((same (mark Not 0)).1 tt)
places_one after_relation after_name same = absurd ((same (mark (Compares Equal) 0)).1 tt)
places_one after_relation after_relation same = refl
places_one after_relation after_is same = absurd (after_relation_is same)
places_one after_relation after_not same = absurd (after_relation_not same)
places_one after_relation (after_operand b) same = absurd ((same (mark And 0)).1 tt)
places_one after_is before_operand same = absurd ((same (mark Not 0)).1 tt)
places_one after_is after_name same = absurd ((same (mark (Compares Equal) 0)).1 tt)
places_one after_is after_relation same = absurd (after_relation_is (turned after_is after_relation same))
places_one after_is after_is same = refl
places_one after_is after_not same = absurd (after_is_not same)
places_one after_is (after_operand b) same = absurd ((same (mark And 0)).1 tt)
places_one after_not before_operand same = absurd ((same (mark Not 0)).1 tt)
places_one after_not after_name same = absurd ((same (mark (Compares Equal) 0)).1 tt)
places_one after_not after_relation same = absurd (after_relation_not (turned after_not after_relation same))
places_one after_not after_is same = absurd (after_is_not (turned after_not after_is same))
places_one after_not after_not same = refl
places_one after_not (after_operand b) same = absurd ((same (mark And 0)).1 tt)
places_one (after_operand b) before_operand same = absurd ((same (mark Not 0)).1 tt)
places_one (after_operand b) after_name same = absurd ((same (mark (Compares Equal) 0)).1 tt)
places_one (after_operand b) after_relation same = absurd ((same (mark And 0)).0 tt)
places_one (after_operand b) after_is same = absurd ((same (mark And 0)).0 tt)
places_one (after_operand b) after_not same = absurd ((same (mark And 0)).0 tt)
places_one (after_operand b) (after_operand c) same = ap after_operand (insides_one b c same)

-- words that can begin a condition are read
pub record Reached (words : List Token) : Type 0 where
  pub s : State
  pub ran : run start words ≡ Some s

reached_by : (words rest : List Token) (u : State) → run start (words ++ rest) ≡ Some u → Reached words
reached_by words rest u ran = by (run start words) refl
  where
    by : (o : Option State) → run start words ≡ o → Reached words
    by None never = absurd (none-some u (sym (run-append start words rest
        ∙ ap (option_and_then (λ t. run t rest)) never) ∙ ran))
    by (Some s) there = record { s = s; ran = there }

reached : (words : List Token) → CanBegin words → Reached words
reached words can =
    let (u, ran, tests_are, tree_is) = condition_reads (words ++ can.rest) can.tests can.tree can.are_condition in
    reached_by words can.rest u ran

-- the place and what stops there, by the state
module _ (s : State) (before : List Token) (place : Place) (ran : run start before
    ≡ Some s) (lead : LeadTo before place) where
  place_is : place ≡ place_of s.next s.outer
  place_is =
      let here = leads s before ran in
      places_one place (place_of s.next s.outer) (λ token. (
        (λ can. (here.next token).0 ((lead.next token).1 can)),
        (λ can. (lead.next token).0 ((here.next token).1 can)),
      ))

  stuck_there : (rest : List Token) → Stop place rest → Stuck s rest
  stuck_there [] stop = tt
  stuck_there (token ∷ rest) stop = by (step s token) refl
    where
      by : (o : Option State) → step s token ≡ o → step s token ≡ None
      by None never = never
      by (Some t) there = absurd (stop
          (subst (λ p. CanStand p token) (sym place_is) (stands s.level s.outer s.tests t s.next token there)))

first_fault_one : (end : ℕ) (words : List Token) (column other : ℕ) (expected said : List ℕ) →
    IsFirstFault end words column expected → IsFirstFault end words other said → (column ≡ other) × (expected ≡ said)
first_fault_one end words column other expected said is too =
    let one = reached is.before is.lead.begin in
    let two = reached too.before too.lead.begin in
    let stuck1 = stuck_there one.s is.before is.place one.ran is.lead is.rest is.stop in
    let stuck2 = stuck_there two.s too.before too.place two.ran too.lead too.rest too.stop in
    let befores = firsts_by one.s two.s is.rest too.rest stuck1 stuck2 start is.before too.before (sym is.cut
    ∙ too.cut) one.ran two.ran in
    let rests : is.rest ≡ too.rest = rest_one is.before is.rest too.rest (sym is.cut ∙ too.cut
    ∙ ap (λ l. l ++ too.rest) (sym befores)) in
    let states : one.s ≡ two.s = same_Some one.s two.s (sym one.ran ∙ ap (run start) befores ∙ two.ran) in
    let places : is.place ≡ too.place = place_is one.s is.before is.place one.ran is.lead
    ∙ ap (λ (s : State). place_of s.next s.outer) states
    ∙ sym (place_is two.s too.before too.place two.ran too.lead) in (
      is.column_is ∙ ap (column_at end) rests ∙ sym too.column_is,
      is.expected_is ∙ ap (λ p. expected_at p is.rest) places ∙ ap (expected_at too.place) rests ∙ sym too.expected_is,
    )
  where
    rest_one : (before xs ys : List Token) → before ++ xs ≡ before ++ ys → xs ≡ ys
    rest_one [] xs ys same = same
    rest_one (token ∷ before) xs ys same = rest_one before xs ys (ap (drop 1) same)

pub faults_one : FaultsAreOne
faults_one whole column other expected said (inl is) (inl too) = no_words_one whole column other expected said is too
faults_one whole column other expected said (inl is) (inr too) =
    absurd (has_no_words whole column expected too.0 is too.1)
faults_one whole column other expected said (inr is) (inl too) = absurd (has_no_words whole other said is.0 too is.1)
faults_one whole column other expected said (inr is) (inr too) =
    let same = words_of_one whole too.0 is.0 too.1 is.1 in
    first_fault_one (length whole + 1) is.0 column other expected said is.2
    (subst (λ l. IsFirstFault (length whole + 1) l other said) same too.2)

-- a condition is read to its end
no_first_fault : (end : ℕ) (words : List Token) (tests : List Test) (tree : Tree) (column : ℕ) (expected : List ℕ) →
    AreCondition words tests tree → IsFirstFault end words column expected → ⊥
no_first_fault end words tests tree column expected are is =
    let (last, s, ran, next, outer) = condition_ends words tests tree are in
    let one = reached is.before is.lead.begin in
    let stuck = stuck_there one.s is.before is.place one.ran is.lead is.rest is.stop in
    let befores : is.before ≡ words = firsts_by one.s s is.rest [] stuck tt start is.before words
    (sym is.cut ∙ sym (append-nil words)) one.ran ran in
    let none_left : is.rest ≡ [] = rest_none is.before is.rest (sym is.cut ∙ sym befores) in
    let states : one.s ≡ s = same_Some one.s s (sym one.ran ∙ ap (run start) befores ∙ ran) in
    let place : is.place ≡ after_operand false = place_is one.s is.before is.place one.ran is.lead
    ∙ ap (λ (s : State). place_of s.next s.outer) states ∙ ap (λ n. place_of n s.outer) next
    ∙ ap (λ o. after_operand (is_inside o)) outer in
    let stop : Stop (after_operand false) [] = subst (λ p. Stop p []) place (subst (Stop is.place) none_left is.stop) in
    false≢true stop
  where
    rest_none : (before xs : List Token) → before ++ xs ≡ before → xs ≡ []
    rest_none [] xs same = same
    rest_none (token ∷ before) xs same = rest_none before xs (ap (drop 1) same)

pub no_fault : ConditionsHaveNoFault
no_fault whole tests tree column expected is (inl fault) = has_no_words whole column expected is.words fault
    is.are_words
no_fault whole tests tree column expected is (inr fault) =
    let same = words_of_one whole fault.0 is.words fault.1 is.are_words in
    no_first_fault (length whole + 1) is.words tests tree column expected is.are_condition
    (subst (λ l. IsFirstFault (length whole + 1) l column expected) same fault.2)
