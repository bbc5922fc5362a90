-- How the words of a text are cut off its front.
use Rattle.std.specs.Prelude.{All, codes, slice_get}
use Rattle.std.proofs.Common.{◌-◌, inl, map}
use Rattle.std.specs.Char.{is_ascii_whitespace}
use Rattle.std.specs.List.{prefix_len}
use Rattle.std.proofs.Common.{◌≡◌, ◌≢◌, ◌==◌, ℕ, zero, suc, ◌+◌, ◌<◌, ◌≤◌, Bool, true, false, cond, if◌then◌else◌, Option, None, Some, List, [], ◌∷◌, ◌++◌, length, take, drop, get_or, arith, refl, sym, ap, subst, ◌∙◌}
use Rattle.std.proofs.lemmas.Bool.{true≢false}
use Rattle.std.proofs.lemmas.Grind.{common_steps}
use Rattle.std.proofs.lemmas.List.{append-nil, append_assoc, drop_more, length-append, length-map, map-append, length-drop, length-take-le, take-append-drop, take_all}
use Rattle.std.proofs.lemmas.List.Sums.{prefix_len-le-length, prefix_len_stops}
use Rattle.std.proofs.lemmas.Option.{same_Some, none-some}
use Rattle.files_condition.specs.declared.condition.Relation.TheVariants.{Equal, Greater, GreaterOrEqual, Less, LessOrEqual, NotEqual}
use Rattle.files_condition.specs.declared.words.Mark.{Mark}
use Rattle.files_condition.specs.declared.words.Mark.TheVariants.{And, Close, Compares, Not, Open, Or}
use Rattle.files_condition.specs.declared.fault.ConditionFault.{ConditionFault}
use Rattle.files_condition.specs.declared.fault.ConditionFault.TheVariants.{Memory, Word as Fault}
use Rattle.files_condition.specs.declared.words.Word.{Word}
use Rattle.files_condition.specs.Places.{IsLong, IsWordFault}
use Rattle.files_condition.specs.Scanning.{BeginsMark, BeginsPlain, EndsWhite, IsNext, IsUnclosedHere, has_equal, is_inside, mark_of}
use Rattle.files_condition.specs.Words.{AreWords, AreWordsOf, EndsMark, EndsPlain, IsSpelled, NoEqual, Token, column_of, is_plain, mark, spelling, text, token_of}
use Rattle.files_condition.specs.Words.AreWords.{none, white, word}
use Rattle.files_condition.proofs.OneLemmas.{Stops}

-- the bytes that a test passes, and where they end
module _ (p : ℕ → Bool) where
  prefix_step : (x : ℕ) (xs : List ℕ) → prefix_len p (x ∷ xs) ≡ cond (p x) (suc (prefix_len p xs)) 0
  prefix_step x xs = ap (λ k. cond (p x) k 0) (omega arith)

  passes_first : (x : ℕ) (xs : List ℕ) (n : ℕ) → All (λ x. p x ≡ true) (take n xs) → (b : Bool) → p x ≡ b →
      All (λ x. p x ≡ true) (take (cond b (suc n) 0) (x ∷ xs))
  passes_first x xs n all true is zero d less = is
  passes_first x xs n all true is (suc k) d less = all k d (omega (arith, less))
  passes_first x xs n all false is k d less = absurd (omega (arith, less))

  pub all_pass : (xs : List ℕ) → All (λ x. p x ≡ true) (take (prefix_len p xs) xs)
  all_pass [] = λ k d less. absurd (omega (arith, less))
  all_pass (x ∷ xs) = rw (prefix_step x xs) (passes_first x xs (prefix_len p xs) (all_pass xs) (p x) refl)

  stops_behind : (x : ℕ) (xs : List ℕ) (n : ℕ) → Stops p (drop n xs) → (b : Bool) → p x ≡ b →
      Stops p (drop (cond b (suc n) 0) (x ∷ xs))
  stops_behind x xs n stop true is = stop
  stops_behind x xs n stop false is = is

  pub stops : (xs : List ℕ) → Stops p (drop (prefix_len p xs) xs)
  stops [] = tt
  stops (x ∷ xs) = rw (prefix_step x xs) (stops_behind x xs (prefix_len p xs) (stops xs) (p x) refl)

-- white space
white_step : (c x : ℕ) (xs : List ℕ) (n : ℕ) → ((c : ℕ) → AreWords c xs [] (c + n) (drop n xs)) → (b : Bool) →
    is_ascii_whitespace x ≡ b →
    AreWords c (x ∷ xs) [] (c + cond b (suc n) 0) (drop (cond b (suc n) 0) (x ∷ xs))
white_step c x xs n each true is =
    let more : c + 1 + n ≡ c + suc n = omega arith in
    white is (subst (λ k. AreWords (c + 1) xs [] k (drop n xs)) more (each (c + 1)))
white_step c x xs n each false is =
    let same : c ≡ c + 0 = omega arith in subst (λ k. AreWords c (x ∷ xs) [] k (x ∷ xs)) same none

white_by : (xs : List ℕ) (c : ℕ) → let n = prefix_len is_ascii_whitespace xs in AreWords c xs [] (c + n) (drop n xs)
white_by [] c = let same : c ≡ c + 0 = omega arith in subst (λ k. AreWords c [] [] k []) same none
white_by (x ∷ xs) c =
    rw (prefix_step is_ascii_whitespace x xs)
    (white_step c x xs (prefix_len is_ascii_whitespace xs) (white_by xs) (is_ascii_whitespace x) refl)

pub white_left : (c : ℕ) (xs : List ℕ) (n after : ℕ) (rest : List ℕ) → n ≡ prefix_len is_ascii_whitespace xs →
    rest ≡ drop n xs → after ≡ c + n → AreWords c xs [] after rest
white_left c xs n after rest is rest_is after_is = rw (rest_is, after_is, is) (white_by xs c)

pub dark_left : (xs : List ℕ) (n : ℕ) (rest : List ℕ) → n ≡ prefix_len is_ascii_whitespace xs → rest ≡ drop n xs →
    EndsWhite rest
dark_left xs n rest is rest_is =
    subst EndsWhite (sym (rest_is ∙ ap (λ k. drop k xs) is)) (by (drop (prefix_len is_ascii_whitespace xs) xs) (stops
    is_ascii_whitespace xs))
  where
    by : (ys : List ℕ) → Stops is_ascii_whitespace ys → EndsWhite ys
    by [] stop = tt
    by (y ∷ ys) stop = stop

-- words behind words
pub words_then : {c d e : ℕ} {xs ys zs : List ℕ} {words more : List Token} → AreWords c xs words d ys →
    AreWords d ys more e zs →
    AreWords c xs (words ++ more) e zs
words_then none others = others
words_then (white is left) others = white is (words_then left others)
words_then (word first rest spelled left) others = word first rest spelled (words_then left others)

-- a column counts the bytes
pub column_counts : {c d : ℕ} {xs ys : List ℕ} {words : List Token} → AreWords c xs words d ys → d + length ys
    ≡ c + length xs
column_counts none = refl
column_counts (white {c = c} {others = others} is left) =
    let more : c + 1 + length others ≡ c + suc (length others) = omega arith in column_counts left ∙ more
column_counts (word {c = c} first others {behind = behind} spelled left) =
    column_counts left ∙ grind (arith, common_steps)

-- one word is next
module _ (c : ℕ) (whole rest : List ℕ) (after : ℕ) (token : Token) where
  abbrev pub Begins : Type 0
  Begins = AreWords c whole (token ∷ []) after rest × (length rest < length whole)

  one_left : (first : ℕ) (others behind : List ℕ) → whole ≡ (first ∷ others) ++ behind → rest ≡ behind →
      after ≡ c + length (first ∷ others) → IsSpelled c token (first ∷ others) behind → Begins
  one_left first others behind whole_is rest_is after_is spelled =
      let made : AreWords c ((first ∷ others) ++ behind) (token ∷ []) (c + length (first ∷ others)) behind =
      word first others spelled none in
      let long : length ((first ∷ others) ++ behind) ≡ suc (length others + length behind) = grind (
        arith,
        length-append others behind,
      ) in (
        rw (whole_is, rest_is, after_is) made,
        omega (arith, ap length whole_is, ap length rest_is, long),
      )

-- a name or a value in quotes
all_inside : (xs : List ℕ) → All (λ x. is_inside x ≡ true) xs → All (λ byte. byte ≢ 34) xs
all_inside xs all k d less = by (get_or xs k d) (all k d less)
  where
    by : (byte : ℕ) → is_inside byte ≡ true → byte ≢ 34
    by byte is same = grind (arith, common_steps)

no_inside : (byte : ℕ) → is_inside byte ≡ false → byte ≡ 34
no_inside byte is = grind (arith, common_steps)

quoted_by : (c : ℕ) (tail : List ℕ) (n after : ℕ) (rest name : List ℕ) → n ≡ prefix_len is_inside tail →
    n ≢ length tail →
    name ≡ take n tail → rest ≡ drop (n + 2) (34 ∷ tail) → after ≡ c + (n + 2) →
    Begins c (34 ∷ tail) rest after (text (record { text = name; at = c; is_quoted = true }))
quoted_by c tail n after rest name count more is rest_is after_is =
    let within : n ≤ length tail = rw count (prefix_len-le-length is_inside tail) in
    let less : n < length tail = omega (arith, within, more) in
    let quote : get_or tail n 0 ≡ 34 = no_inside (get_or tail n 0) (rw count (prefix_len_stops is_inside tail 0 (rw
    count at less))) in
    let cut : tail ≡ take n tail ++ 34 ∷ drop (n + 1) tail =
    sym (take-append-drop n tail) ∙ ap (λ l. take n tail ++ l) (drop_more tail n 0 less
    ∙ ap (λ b. b ∷ drop (n + 1) tail) quote) in
    let two : n + 2 ≡ suc (n + 1) = omega arith in
    let inside : All (λ byte. byte ≢ 34) (take n tail) =
    all_inside (take n tail) (subst (λ k. All (λ x. is_inside x
    ≡ true) (take k tail)) (sym count) (all_pass is_inside tail)) in
    let long : length (take n tail ++ 34 ∷ []) ≡ n + 1 =
    length-append (take n tail) (34 ∷ []) ∙ ap (λ k. k + 1) (length-take-le n tail within) in
    one_left c (34 ∷ tail) rest after _ 34 (take n tail ++ 34 ∷ []) (drop (n + 1) tail)
    (ap (λ l. 34 ∷ l) (cut ∙ sym (append_assoc (take n tail) (34 ∷ []) (drop (n + 1) tail))))
    (rest_is ∙ ap (λ k. drop k (34 ∷ tail)) two) (omega (arith, after_is, long))
    (refl, (ap (λ l. 34 ∷ (l ++ 34 ∷ [])) (sym is), subst (λ l. All (λ byte. byte ≢ 34) l) (sym is) inside))

-- and without
plain_by : (c x : ℕ) (xs : List ℕ) (n after : ℕ) (rest name : List ℕ) → is_plain x ≡ true → n
    ≡ prefix_len is_plain (x ∷ xs) →
    name ≡ take n (x ∷ xs) → rest ≡ drop n (x ∷ xs) → after ≡ c + n →
    Begins c (x ∷ xs) rest after (text (record { text = name; at = c; is_quoted = false }))
plain_by c x xs n after rest name plain count is rest_is after_is =
    let m = prefix_len is_plain xs in
    let more : n ≡ suc m = count ∙ prefix_step is_plain x xs ∙ ap (λ b. cond b (suc m) 0) plain in
    let named : name ≡ x ∷ take m xs = is ∙ ap (λ k. take k (x ∷ xs)) more in
    let all : All (λ byte. is_plain byte ≡ true) name = subst (λ l. All (λ byte. is_plain byte ≡ true) l) (sym is)
    (subst (λ k. All (λ byte. is_plain byte ≡ true) (take k (x ∷ xs))) (sym count) (all_pass is_plain (x ∷ xs))) in
    let long : length (take m xs) ≡ m = length-take-le m xs (prefix_len-le-length is_plain xs) in
    one_left c (x ∷ xs) rest after _ x (take m xs) (drop m xs) (ap (λ l. x ∷ l) (sym (take-append-drop m xs)))
    (rest_is ∙ ap (λ k. drop k (x ∷ xs)) more) (omega (arith, after_is, more, long))
    (refl, (sym named, all, ends (drop m xs) (stops is_plain xs)))
  where
    ends : (ys : List ℕ) → Stops is_plain ys → EndsPlain ys
    ends [] stop = tt
    ends (y ∷ ys) stop = stop

-- a mark, from the byte that begins it
pub record Marks (x : ℕ) (xs : List ℕ) (sign : Mark) : Type 0 where
  pub others : List ℕ
  pub behind : List ℕ
  pub cut : xs ≡ others ++ behind
  pub written : x ∷ others ≡ spelling sign
  pub ends : EndsMark sign behind

module _ (x : ℕ) (xs : List ℕ) (sign : Mark) where
  same_byte : (k : ℕ) → (x == k) ≡ true → x ≡ k
  same_byte k is = grind (arith, common_steps)

  tested : (k : ℕ) (this other : Option Mark) → (x ≡ k → this ≡ Some sign → Marks x xs sign) →
      (other ≡ Some sign → Marks x xs sign) → (b : Bool) → (x == k) ≡ b → (if b then this else other) ≡ Some sign →
      Marks x xs sign
  tested k this other here there true is same = here (same_byte k is) same
  tested k this other here there false is same = there same

  lone : (m : Mark) → spelling m ≡ x ∷ [] → EndsMark m xs → Some m ≡ Some sign → Marks x xs sign
  lone m written ends same = subst (Marks x xs) (same_Some m sign same) (record {
    others = [];
    behind = xs;
    cut = refl;
    written = sym written;
    ends = ends;
  })

module _ (x : ℕ) (sign : Mark) (f : Bool → Mark) (k : ℕ) (is : x ≡ k) (one : spelling (f false) ≡ k ∷ [])
    (two : spelling (f true) ≡ k ∷ 61 ∷ []) (ends : (ys : List ℕ) → NoEqual ys → EndsMark (f false) ys)
    (always : (ys : List ℕ) → EndsMark (f true) ys) where
  paired_by : (y : ℕ) (ys : List ℕ) (b : Bool) → (y == 61) ≡ b → Some (f b) ≡ Some sign → Marks x (y ∷ ys) sign
  paired_by y ys true equal same = subst (Marks x (y ∷ ys)) (same_Some (f true) sign same) (record {
    others = 61 ∷ [];
    behind = ys;
    cut = ap (λ z. z ∷ ys) (same_byte y ys sign 61 equal);
    written = ap (λ z. z ∷ 61 ∷ []) is ∙ sym two;
    ends = always ys;
  })
  paired_by y ys false other same = lone x (y ∷ ys) sign (f false) (one ∙ ap (λ z. z ∷ []) (sym is))
      (ends (y ∷ ys) (λ equal. true≢false (sym (grind (arith, common_steps)) ∙ other))) same

  paired : (xs : List ℕ) → Some (f (has_equal xs)) ≡ Some sign → Marks x xs sign
  paired [] same = lone x [] sign (f false) (one ∙ ap (λ z. z ∷ []) (sym is)) (ends [] tt) same
  paired (y ∷ ys) same = paired_by y ys (y == 61) refl same

abbrev bang : Bool → Mark
bang true = Compares NotEqual
bang false = Not

abbrev less : Bool → Mark
less true = Compares LessOrEqual
less false = Compares Less

abbrev greater : Bool → Mark
greater true = Compares GreaterOrEqual
greater false = Compares Greater

bang_is : (b : Bool) → (if b then Compares NotEqual else Not) ≡ bang b
bang_is true = refl
bang_is false = refl

less_is : (b : Bool) → Compares (if b then LessOrEqual else Less) ≡ less b
less_is true = refl
less_is false = refl

greater_is : (b : Bool) → Compares (if b then GreaterOrEqual else Greater) ≡ greater b
greater_is true = refl
greater_is false = refl

pub marked : (x : ℕ) (xs : List ℕ) (sign : Mark) → mark_of x (has_equal xs) ≡ Some sign → Marks x xs sign
marked x xs sign same =
    let alone = λ (k : ℕ) (m : Mark) (written : spelling m ≡ k ∷ []) (ends : EndsMark m xs) (is : x ≡ k) (it : Some m
    ≡ Some sign).
    lone x xs sign m (written ∙ ap (λ z. z ∷ []) (sym is)) ends it in
    tested x xs sign 38 _ _ (alone 38 And refl tt)
    (tested x xs sign 124 _ _ (alone 124 Or refl tt)
    (tested x xs sign 40 _ _ (alone 40 Open refl tt)
    (tested x xs sign 41 _ _ (alone 41 Close refl tt)
    (tested x xs sign 61 _ _ (alone 61 (Compares Equal) refl tt)
    (tested x xs sign 33 _ _ (λ is it. paired x sign bang 33 is refl refl (λ ys ends. ends) (λ ys. tt) xs (ap Some
    (sym (bang_is (has_equal xs))) ∙ it))
    (tested x xs sign 60 _ _ (λ is it. paired x sign less 60 is refl refl (λ ys ends. ends) (λ ys. tt) xs (ap Some
    (sym (less_is (has_equal xs))) ∙ it))
    (tested x xs sign 62 _ None (λ is it. paired x sign greater 62 is refl refl (λ ys ends. ends) (λ ys. tt) xs (ap
    Some (sym (greater_is (has_equal xs))) ∙ it))
    (λ it. absurd (none-some sign it))
    (x == 62) refl) (x == 60) refl) (x == 33) refl) (x == 61) refl) (x == 41) refl) (x == 40) refl) (x == 124) refl)
    (x == 38) refl same

mark_by : (c x : ℕ) (xs : List ℕ) (n after : ℕ) (rest : List ℕ) (sign : Mark) → mark_of x (has_equal xs) ≡ Some sign →
    n ≡ length (spelling sign) → rest ≡ drop n (x ∷ xs) → after ≡ c + n → Begins c (x ∷ xs) rest after (mark sign c)
mark_by c x xs n after rest sign begins count rest_is after_is =
    let m = marked x xs sign begins in
    let long : n ≡ suc (length m.others) = count ∙ ap length (sym m.written) in
    one_left c (x ∷ xs) rest after _ x m.others m.behind (ap (λ l. x ∷ l) m.cut)
    (rest_is ∙ ap (λ k. drop k (x ∷ xs)) long ∙ ap (drop (length m.others)) m.cut ∙ drop-append m.others m.behind)
    (omega (arith, after_is, long)) (refl, m.written, m.ends)
  where
    drop-append : (xs ys : List ℕ) → drop (length xs) (xs ++ ys) ≡ ys
    drop-append [] ys = refl
    drop-append (x ∷ xs) ys = drop-append xs ys

module _ (c n after : ℕ) (rest : List ℕ) where
  quoted_there : (whole name : List ℕ) → Some 34 ≡ slice_get whole 0 → n ≡ prefix_len is_inside (drop 1 whole) →
      n ≢ length (drop 1 whole) → name ≡ take n (drop 1 whole) → rest ≡ drop (n + 2) whole → after ≡ c + (n + 2) →
      Begins c whole rest after (text (record { text = name; at = c; is_quoted = true }))
  quoted_there [] name begins count more is rest_is after_is = absurd (none-some 34 (sym begins))
  quoted_there (x ∷ xs) name begins count more is rest_is after_is =
      let first : x ≡ 34 = same_Some x 34 (sym begins) in
      let there = quoted_by c xs n after rest name count more is (rest_is
      ∙ ap (λ b. drop (n + 2) (b ∷ xs)) first) after_is in
      subst (λ b. Begins c (b ∷ xs) rest after (text (record {
        text = name;
        at = c;
        is_quoted =
            true;
      }))) (sym first) there

  pub quoted_left : (whole inner name : List ℕ) → inner ≡ drop 1 whole → Some 34 ≡ slice_get whole 0 →
      n ≡ prefix_len is_inside inner → n ≢ length inner → name ≡ take n inner → rest ≡ drop (n + 2) whole →
      after ≡ c + (n + 2) → Begins c whole rest after (text (record { text = name; at = c; is_quoted = true }))
  quoted_left whole inner name same begins count more is rest_is after_is =
      quoted_there whole name begins (rw same at count) (rw same at more) (rw same at is) rest_is after_is

  pub plain_left : (whole name : List ℕ) → BeginsPlain whole → n ≡ prefix_len is_plain whole → name ≡ take n whole →
      rest ≡ drop n whole → after ≡ c + n →
      Begins c whole rest after (text (record { text = name; at = c; is_quoted = false }))
  plain_left [] name begins count is rest_is after_is = absurd begins
  plain_left (x ∷ xs) name begins count is rest_is after_is =
      plain_by c x xs n after rest name begins count is rest_is after_is

  pub mark_left : (whole : List ℕ) (sign : Mark) → BeginsMark sign whole → n ≡ length (spelling sign) →
      rest ≡ drop n whole → after ≡ c + n → Begins c whole rest after (mark sign c)
  mark_left [] sign begins count rest_is after_is = absurd begins
  mark_left (x ∷ xs) sign begins count rest_is after_is = mark_by c x xs n after rest sign begins count rest_is after_is

-- a quote that isn't closed
pub inner_is : (xs : List ℕ) → take (length xs - 1) (drop 1 xs) ≡ drop 1 xs
inner_is xs = take_all (length xs - 1) (drop 1 xs) (grind (arith, length-drop 1 xs))

head_is : (xs : List ℕ) (byte : ℕ) → Some byte ≡ slice_get xs 0 → xs ≡ byte ∷ drop 1 xs
head_is [] byte there = absurd (none-some byte (sym there))
head_is (x ∷ xs) byte there = ap (λ b. b ∷ xs) (same_Some x byte (sym there))

pub never_closed : (c : ℕ) (whole inner : List ℕ) (n : ℕ) → inner ≡ drop 1 whole → Some 34 ≡ slice_get whole 0 →
    n ≡ prefix_len is_inside inner → n ≡ length inner → (at : ℕ) × (inside : List ℕ)
    × AreWords c whole [] at (34 ∷ inside) × All (λ byte. byte ≢ 34) inside
never_closed c whole inner n same begins count all =
    let long : length inner ≤ prefix_len is_inside inner = omega (arith, count, all) in (
      c,
      inner,
      rw (head_is whole 34 begins ∙ ap (λ l. 34 ∷ l) (sym same)) none,
      all_inside inner (subst (λ l. All (λ x. is_inside x ≡ true) l) (take_all (prefix_len is_inside inner) inner
          long) (all_pass is_inside inner)),
    )

-- what is left is no longer
pub shrinks : {c d : ℕ} {xs ys : List ℕ} {words : List Token} → AreWords c xs words d ys → length ys ≤ length xs
shrinks none = omega arith
shrinks (white {others = others} is left) = omega (arith, shrinks left)
shrinks (word first others {behind = behind} spelled left) =
    let long : length ((first ∷ others) ++ behind) ≡ suc (length others + length behind) = grind (
      arith,
      length-append others behind,
    ) in
    omega (arith, shrinks left, long)

-- what comes behind white space
module _ (c d : ℕ) (xs ys : List ℕ) (blank : AreWords c xs [] d ys) where
  pub next_then : (found : Option Word) (e : ℕ) (zs : List ℕ) → IsNext d ys found e zs → IsNext c xs found e zs
  next_then None e zs is = (words_then blank is.0, is.1)
  next_then (Some given) e zs is = (words_then blank is.0, omega (arith, is.1, shrinks blank))

  pub unclosed_then : (fault : ConditionFault) → IsUnclosedHere d ys fault → IsUnclosedHere c xs fault
  unclosed_then Memory is = absurd is
  unclosed_then (Fault column expected) is =
      (is.0, is.1, words_then blank is.2, is.3, is.4 ∙ column_counts blank, is.5)

pub nothing_left : (c : ℕ) (xs : List ℕ) → None ≡ slice_get xs 0 → AreWords c xs [] c xs × (xs ≡ [])
nothing_left c [] is = (none, refl)
nothing_left c (x ∷ xs) is = absurd (none-some x is)

-- the words so far
module _ (whole : List ℕ) (items : List Word) where
  pub words_start : items ≡ [] → AreWords 1 whole (map token_of items) 1 whole × (length items ≤ 1000)
  words_start same = rw same (none, omega arith)

  module _ (at : ℕ) (rest : List ℕ)
      (before : AreWords 1 whole (map token_of items) at rest × (length items ≤ 1000)) where
    few_words : length (map token_of items) ≤ 1000
    few_words = omega (arith, before.1, length-map items token_of)

    pub unclosed_fault : (fault : ConditionFault) → IsUnclosedHere at rest fault → IsWordFault whole fault
    unclosed_fault Memory is = absurd is
    unclosed_fault (Fault column expected) (k, inside, blank, all, column_is, expected_is) = inl (record {
      words = map token_of items;
      at = k;
      inside = inside;
      are_words = subst (λ l. AreWords 1 whole l k (34 ∷ inside)) (append-nil (map token_of items)) (words_then
          before.0 blank);
      few = few_words;
      unclosed = all;
      column_is = omega (arith, column_is, column_counts before.0);
      expected_is = expected_is;
    })

    module _ (given : Word) (after : ℕ) (behind : List ℕ) (next : IsNext at rest (Some given) after behind) where
      pub long_fault : 1000 ≤ length items → IsLong whole (column_of (token_of given)) (codes "at most 1000 words")
      long_fault many = record {
        words = map token_of items;
        token = token_of given;
        after = after;
        rest = behind;
        are_words = words_then before.0 next.0;
        many = omega (arith, few_words, many, length-map items token_of);
        column_is = refl;
        expected_is = refl;
      }

      pub words_more : (now : List Word) → now ≡ items ++ given ∷ [] → length items < 1000 →
          AreWords 1 whole (map token_of now) after behind × (length now ≤ 1000)
      words_more now same less = (
        subst (λ l. AreWords 1 whole l after behind)
            (sym (map-append token_of items (given ∷ [])) ∙ ap (map token_of) (sym same)) (words_then before.0 next.0),
        omega (arith, ap length same, length-append items (given ∷ [])),
      )

    pub words_end : (after : ℕ) (behind : List ℕ) → IsNext at rest None after behind →
        AreWordsOf whole (map token_of items)
    words_end after behind next = record {
      after = after;
      are_words = subst (λ l. AreWords 1 whole l after []) (append-nil (map token_of items))
          (subst (λ l. AreWords 1 whole (map token_of items ++ []) after l) next.1 (words_then before.0 next.0));
      few = few_words;
    }
