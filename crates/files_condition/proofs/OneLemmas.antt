-- A text has one list of words.
use Rattle.std.specs.Prelude.{All, codes}
use Rattle.std.specs.Char.{is_ascii_whitespace}
use Rattle.std.specs.List.{list_any}
use Rattle.std.proofs.Common.{◌≡◌, ◌≢◌, ◌==◌, ◌&&◌, ℕ, suc, ◌+◌, Bool, true, false, not, Some, List, [], ◌∷◌, ◌++◌, length, drop, get_or, arith, refl, sym, ap, subst, ◌∙◌}
use Rattle.std.proofs.lemmas.Bool.{true≢false}
use Rattle.std.proofs.lemmas.Grind.{common_steps}
use Rattle.std.proofs.lemmas.List.{append_assoc}
use Rattle.std.proofs.lemmas.Option.{same_Some, none-some}
use Rattle.files_condition.specs.declared.condition.Relation.TheVariants.{Equal, Greater, GreaterOrEqual, Less, LessOrEqual, NotEqual}
use Rattle.files_condition.specs.declared.words.Mark.{Mark}
use Rattle.files_condition.specs.declared.words.Mark.TheVariants.{And, Close, Compares, Not, Open, Or}
use Rattle.files_condition.specs.Laws.{WordsAreOne}
use Rattle.files_condition.specs.Scanning.{has_equal, is_inside, mark_of}
use Rattle.files_condition.specs.Words.{AreWords, EndsMark, EndsPlain, IsSpelled, IsWritten, NoEqual, Token, is_plain, mark, spelling, text}
use Rattle.files_condition.specs.Words.AreWords.{none, white, word}

-- a text ends, or goes on with a byte that fails a test
abbrev pub Stops : (ℕ → Bool) → List ℕ → Type 0
Stops p [] = Unit {0}
Stops p (x ∷ xs) = p x ≡ false

-- where the items that a test passes end, a list is cut in one way
module _ (p : ℕ → Bool) where
  one_cut : (xs ys zs ws : List ℕ) → All (λ x. p x ≡ true) xs → Stops p ys → All (λ x. p x ≡ true) zs →
      Stops p ws → xs ++ ys ≡ zs ++ ws → (xs ≡ zs) × (ys ≡ ws)
  one_cut [] ys [] ws all stop all' stop' same = (refl, same)
  one_cut [] [] (z ∷ zs) ws all stop all' stop' same = absurd (omega (arith, ap length same))
  one_cut [] (y ∷ ys) (z ∷ zs) ws all stop all' stop' same =
      let first : y ≡ z = ap (λ l. get_or l 0 y) same in
      absurd (true≢false (sym (all' 0 z (omega arith)) ∙ ap p (sym first) ∙ stop))
  one_cut (x ∷ xs) ys [] [] all stop all' stop' same = absurd (omega (arith, ap length same))
  one_cut (x ∷ xs) ys [] (w ∷ ws) all stop all' stop' same =
      let first : x ≡ w = ap (λ l. get_or l 0 x) same in
      absurd (true≢false (sym (all 0 x (omega arith)) ∙ ap p first ∙ stop'))
  one_cut (x ∷ xs) ys (z ∷ zs) ws all stop all' stop' same =
      let first : x ≡ z = ap (λ l. get_or l 0 x) same in
      let rest = one_cut xs ys zs ws (λ k d less. all (suc k) d (omega (arith, less))) stop
      (λ k d less. all' (suc k) d (omega (arith, less))) stop' (ap (drop 1) same) in
      (ap (λ a. a ∷ xs) first ∙ ap (λ l. z ∷ l) rest.0, rest.1)

-- what begins with a byte, from how it is written
module _ (b : ℕ) (xs : List ℕ) where
  pub head_is : (c : ℕ) (ys : List ℕ) → b ∷ xs ≡ c ∷ ys → b ≡ c
  head_is c ys same = ap (λ l. get_or l 0 0) same

  pub tail_is : (c : ℕ) (ys : List ℕ) → b ∷ xs ≡ c ∷ ys → xs ≡ ys
  tail_is c ys same = ap (drop 1) same

no_equal : (ys : List ℕ) → NoEqual ys → has_equal ys ≡ false
no_equal [] other = refl
no_equal (y ∷ ys) other = grind (arith, common_steps)

-- the byte that begins a mark, and the byte after it, tell the mark
module _ (b : ℕ) (xs ys : List ℕ) where
  one_byte : (c : ℕ) (m : Mark) → b ∷ xs ≡ c ∷ [] → mark_of c (has_equal ys) ≡ Some m →
      mark_of b (has_equal (xs ++ ys)) ≡ Some m
  one_byte c m same is = rw (head_is b xs c [] same, tail_is b xs c [] same) is

  two_bytes : (c : ℕ) (m : Mark) → b ∷ xs ≡ c ∷ 61 ∷ [] → mark_of c true ≡ Some m →
      mark_of b (has_equal (xs ++ ys)) ≡ Some m
  two_bytes c m same is = rw (head_is b xs c (61 ∷ []) same, tail_is b xs c (61 ∷ []) same) is

  pub told : (m : Mark) → b ∷ xs ≡ spelling m → EndsMark m ys → mark_of b (has_equal (xs ++ ys)) ≡ Some m
  told And same ends = one_byte 38 And same refl
  told Or same ends = one_byte 124 Or same refl
  told Not same ends = one_byte 33 Not same (rw (no_equal ys ends) refl)
  told Open same ends = one_byte 40 Open same refl
  told Close same ends = one_byte 41 Close same refl
  told (Compares Equal) same ends = one_byte 61 (Compares Equal) same refl
  told (Compares NotEqual) same ends = two_bytes 33 (Compares NotEqual) same refl
  told (Compares Less) same ends = one_byte 60 (Compares Less) same (rw (no_equal ys ends) refl)
  told (Compares LessOrEqual) same ends = two_bytes 60 (Compares LessOrEqual) same refl
  told (Compares Greater) same ends = one_byte 62 (Compares Greater) same (rw (no_equal ys ends) refl)
  told (Compares GreaterOrEqual) same ends = two_bytes 62 (Compares GreaterOrEqual) same refl

-- a mark begins with a byte of no word, which isn't white space
module _ (b : ℕ) (xs : List ℕ) where
  begins : (f : ℕ → Bool) (c : ℕ) (ys : List ℕ) → b ∷ xs ≡ c ∷ ys → f c ≡ false → f b ≡ false
  begins f c ys same is = ap f (head_is b xs c ys same) ∙ is

  mark_begins : (f : ℕ → Bool) → f 33 ≡ false → f 38 ≡ false → f 40 ≡ false → f 41 ≡ false → f 60 ≡ false →
      f 61 ≡ false → f 62 ≡ false → f 124 ≡ false → (m : Mark) → b ∷ xs ≡ spelling m → f b ≡ false
  mark_begins f not_is and_is open_is close_is less_is equal_is greater_is or_is m same = by m same
    where
      by : (m : Mark) → b ∷ xs ≡ spelling m → f b ≡ false
      by And same = begins f 38 [] same and_is
      by Or same = begins f 124 [] same or_is
      by Not same = begins f 33 [] same not_is
      by Open same = begins f 40 [] same open_is
      by Close same = begins f 41 [] same close_is
      by (Compares Equal) same = begins f 61 [] same equal_is
      by (Compares NotEqual) same = begins f 33 (61 ∷ []) same not_is
      by (Compares Less) same = begins f 60 [] same less_is
      by (Compares LessOrEqual) same = begins f 60 (61 ∷ []) same less_is
      by (Compares Greater) same = begins f 62 [] same greater_is
      by (Compares GreaterOrEqual) same = begins f 62 (61 ∷ []) same greater_is

  mark_is_plain : (m : Mark) → b ∷ xs ≡ spelling m → is_plain b ≡ false
  mark_is_plain = mark_begins is_plain refl refl refl refl refl refl refl refl

  mark_is_white : (m : Mark) → b ∷ xs ≡ spelling m → is_ascii_whitespace b ≡ false
  mark_is_white = mark_begins is_ascii_whitespace refl refl refl refl refl refl refl refl

plain_is_dark : (b : ℕ) → is_plain b ≡ true → is_ascii_whitespace b ≡ false
plain_is_dark b is = by (is_ascii_whitespace b) (not (list_any (λ sign. sign == b) (codes "&|!()=<>\""))) is
  where
    by : (w other : Bool) → (not w && other) ≡ true → w ≡ false
    by false other is = refl
    by true other is = sym is

pub first_plain : (b : ℕ) (xs name : List ℕ) → b ∷ xs ≡ name → All (λ byte. is_plain byte ≡ true) name → is_plain b
    ≡ true
first_plain b xs name same all =
    let there : All (λ byte. is_plain byte ≡ true) (b ∷ xs) = subst (λ l. All (λ byte. is_plain byte
    ≡ true) l) (sym same) all in there 0 b (omega arith)

pub dark : (c b : ℕ) (xs ys : List ℕ) (token : Token) → IsSpelled c token (b ∷ xs) ys → is_ascii_whitespace b ≡ false
dark c b xs ys (text term) is = by term.is_quoted term.text is.1
  where
    by : (q : Bool) (name : List ℕ) → IsWritten q name (b ∷ xs) ys → is_ascii_whitespace b ≡ false
    by true name is = ap is_ascii_whitespace (head_is b xs 34 _ is.0)
    by false name is = plain_is_dark b (first_plain b xs name is.0 is.1)
dark c b xs ys (mark sign at) is = mark_is_white b xs sign is.1

inside_all : (name : List ℕ) → All (λ byte. byte ≢ 34) name → All (λ byte. is_inside byte ≡ true) name
inside_all name all k d less = by (get_or name k d) (all k d less)
  where
    by : (byte : ℕ) → byte ≢ 34 → is_inside byte ≡ true
    by byte other = grind (arith, common_steps)

plain_stops : (ys : List ℕ) → EndsPlain ys → Stops is_plain ys
plain_stops [] end = tt
plain_stops (y ∷ ys) end = end

-- one word is next
module _ (b : ℕ) (xs ys zs ws : List ℕ) (same : xs ++ ys ≡ zs ++ ws) where
  written_one : (q q' : Bool) (name other : List ℕ) → IsWritten q name (b ∷ xs) ys →
      IsWritten q' other (b ∷ zs) ws → (q ≡ q') × (name ≡ other) × (xs ≡ zs) × (ys ≡ ws)
  written_one true true name other is too =
      let one = tail_is b xs 34 (name ++ 34 ∷ []) is.0 in
      let two = tail_is b zs 34 (other ++ 34 ∷ []) too.0 in
      let whole : name ++ 34 ∷ ys ≡ other ++ 34 ∷ ws = sym (append_assoc name (34 ∷ []) ys)
      ∙ ap (λ l. l ++ ys) (sym one)
      ∙ same ∙ ap (λ l. l ++ ws) two ∙ append_assoc other (34 ∷ []) ws in
      let cut = one_cut is_inside name (34 ∷ ys) other (34 ∷ ws) (inside_all name is.1) refl (inside_all other too.1)
      refl whole in
      (refl, cut.0, one ∙ ap (λ l. l ++ 34 ∷ []) cut.0 ∙ sym two, ap (drop 1) cut.1)
  written_one false false name other is too =
      let one : All (λ byte. is_plain byte ≡ true) (b ∷ xs) = subst (λ l. All (λ byte. is_plain byte
      ≡ true) l) (sym is.0) is.1 in
      let two : All (λ byte. is_plain byte ≡ true) (b ∷ zs) = subst (λ l. All (λ byte. is_plain byte
      ≡ true) l) (sym too.0) too.1 in
      let cut = one_cut is_plain (b ∷ xs) ys (b ∷ zs) ws one (plain_stops ys is.2) two (plain_stops ws too.2) (ap (λ
      l. b ∷ l) same) in
      (refl, sym is.0 ∙ cut.0 ∙ too.0, ap (drop 1) cut.0, cut.1)
  written_one true false name other is too =
      absurd (true≢false (sym (first_plain b zs other too.0 too.1) ∙ ap is_plain (head_is b xs 34 _ is.0)))
  written_one false true name other is too =
      absurd (true≢false (sym (first_plain b xs name is.0 is.1) ∙ ap is_plain (head_is b zs 34 _ too.0)))

  no_mark : (xs' ys' : List ℕ) (q : Bool) (name : List ℕ) (m : Mark) → IsWritten q name (b ∷ xs') ys' →
      b ∷ zs ≡ spelling m → EndsMark m ws → ⊥
  no_mark xs' ys' true name m is too ends =
      none-some m (ap (λ c. mark_of c (has_equal (zs ++ ws))) (sym (head_is b xs' 34 _ is.0)) ∙ told b zs ws m too ends)
  no_mark xs' ys' false name m is too ends =
      true≢false (sym (first_plain b xs' name is.0 is.1) ∙ mark_is_plain b zs m too)

module _ (c b : ℕ) (xs ys zs ws : List ℕ) (same : xs ++ ys ≡ zs ++ ws) where
  pub spelled_one : (token other : Token) → IsSpelled c token (b ∷ xs) ys → IsSpelled c other (b ∷ zs) ws →
      (token ≡ other) × (xs ≡ zs) × (ys ≡ ws)
  spelled_one (text one) (text two) is too =
      let (q, name, rests, behind) = written_one b xs ys zs ws same one.is_quoted two.is_quoted one.text two.text is.1
      too.1 in (
        ap (λ t. text (record { text = t; at = one.at; is_quoted = one.is_quoted })) name
            ∙ ap (λ k. text (record { text = two.text; at = k; is_quoted = one.is_quoted })) (is.0 ∙ sym too.0)
            ∙ ap (λ t. text (record { text = two.text; at = two.at; is_quoted = t })) q,
        rests,
        behind,
      )
  spelled_one (mark one at) (mark two to) is too =
      let told_one = told b xs ys one is.1 is.2 in
      let told_two = told b zs ws two too.1 too.2 in
      let marks : one ≡ two = same_Some one two (sym told_one ∙ ap (λ l. mark_of b (has_equal l)) same ∙ told_two) in
      let rests : xs ≡ zs = ap (drop 1) (is.1 ∙ ap spelling marks ∙ sym too.1) in
      let behind : ys ≡ ws = cancelled zs ys ws (ap (λ l. l ++ ys) (sym rests) ∙ same) in
      (ap (λ m. mark m at) marks ∙ ap (mark two) (is.0 ∙ sym too.0), rests, behind)
    where
      cancelled : (zs ys ws : List ℕ) → zs ++ ys ≡ zs ++ ws → ys ≡ ws
      cancelled [] ys ws same = same
      cancelled (z ∷ zs) ys ws same = cancelled zs ys ws (ap (drop 1) same)
  spelled_one (text one) (mark two to) is too =
      absurd (no_mark b xs ys zs ws same xs ys one.is_quoted one.text two is.1 too.1 too.2)
  spelled_one (mark one at) (text two) is too =
      absurd (no_mark b zs ws xs ys (sym same) zs ws two.is_quoted two.text one too.1 is.1 is.2)

-- what is left behind the first byte of a text that is read to its end
of_white : {c after : ℕ} {words : List Token} {end : List ℕ} (b : ℕ) (rest : List ℕ) →
    AreWords c (b ∷ rest) words after end → end ≡ [] →
    is_ascii_whitespace b ≡ true → AreWords (c + 1) rest words after end
of_white b rest none ended is = absurd (omega (arith, ap length ended))
of_white b rest (white also left) ended is = left
of_white {c} b rest (word first others {token} {behind} spelled left) ended is =
    absurd (true≢false (sym is ∙ dark c b others behind token spelled))

of_word : {c after : ℕ} {words : List Token} {end : List ℕ} (b : ℕ) (rest : List ℕ) →
    AreWords c (b ∷ rest) words after end → end ≡ [] →
    is_ascii_whitespace b ≡ false → (others behind : List ℕ) × (token : Token) × (more : List Token)
    × (rest ≡ others ++ behind) × IsSpelled c token (b ∷ others) behind × (words ≡ token ∷ more)
    × AreWords (c + length (b ∷ others)) behind more after end
of_word b rest none ended is = absurd (omega (arith, ap length ended))
of_word b rest (white also left) ended is = absurd (true≢false (sym also ∙ is))
of_word b rest (word first others {token} {behind} {words = words} spelled left) ended is =
    (others, behind, token, words, refl, spelled, refl, left)

of_none : {c after : ℕ} {words : List Token} {end : List ℕ} → AreWords c [] words after end → words ≡ []
of_none none = refl

pub words_one : {c after to : ℕ} {whole end stop : List ℕ} {words others : List Token} →
    AreWords c whole words after end → end ≡ [] → AreWords c whole others to stop → stop ≡ [] → words ≡ others
words_one {c} {to = to} {stop = stop} {others = others} (none {rest = rest}) ended other stopped =
    sym (of_none (subst (λ t. AreWords c t others to stop) ended other))
words_one (white {byte = b} {others = rest} is left) ended other stopped =
    words_one left ended (of_white b rest other stopped is) stopped
words_one {c} {to = to} {stop = stop} (word first rest {token} {behind} {words =
    words} spelled left) ended other stopped =
    let is_dark = dark c first rest behind token spelled in
    let (rest', behind', token', more, whole, spelled', is, left') =
    of_word first (rest ++ behind) other stopped is_dark in
    let (tokens, rests, behinds) = spelled_one c first rest behind rest' behind' whole token token' spelled spelled' in
    let same = words_one left ended (subst (λ t. AreWords (c + length (first ∷ rest)) t more to stop) (sym behinds)
    (subst (λ r. AreWords (c + length (first ∷ r)) behind' more to stop) (sym rests) left')) stopped in
    ap (λ t. t ∷ words) tokens ∙ ap (λ ws. token' ∷ ws) same ∙ sym is

pub words_of_one : WordsAreOne
words_of_one whole words others is too = words_one is.are_words refl too.are_words refl
