-- The words of a text, a piece after another.
use Rattle.std.specs.Prelude.{slice_get, slice_index, All, ⊤}
use Rattle.std.specs.Char.{is_ascii_whitespace}
use Rattle.std.specs.List.{prefix_len}
use Rattle.std.proofs.Common.{◌≡◌, ◌≢◌, ◌==◌, ℕ, zero, suc, ◌+◌, ◌<◌, ◌≤◌, Bool, true, false, not, cond, ◌⊎◌, inl, inr, Some, List, [], ◌∷◌, ◌++◌, take, drop, length, get_or, refl, sym, ap, subst, ◌∙◌, arith}
use Rattle.std.proofs.lemmas.Bool.{true≢false, false≢true}
use Rattle.std.proofs.lemmas.Option.{same_Some, none-some}
use Rattle.std.proofs.lemmas.List.{take-append-drop}
use Rattle.std.proofs.lemmas.List.Folds.{length-prefix_len}
use Rattle.std.proofs.lemmas.List.Sums.{prefix_len-le-length}
use Rattle.std.proofs.lemmas.Grind.{common_steps}
use Rattle.files_text.specs.Words.{AreLeft, AreWords, BeginsWord, EndsLine, EndsName, IsMarkOrName, Rest, Token, is_letter, is_mark}
use Rattle.files_text.specs.Words.AreWords.{none, white, line_feed, comment, word}

-- the items that a test passes, up to the first that it does not
module _ (p : ℕ → Bool) where
  abbrev pub Stops : List ℕ → Type 0
  Stops [] = ⊤
  Stops (x ∷ xs) = p x ≡ false

  prefix_step : (x : ℕ) (xs : List ℕ) → prefix_len p (x ∷ xs) ≡ cond (p x) (suc (prefix_len p xs)) 0
  prefix_step x xs = ap (λ k. cond (p x) k 0) (omega arith)

  passes_first : (x : ℕ) (xs : List ℕ) (n : ℕ) → All (λ x. p x ≡ true) (take n xs) → (b : Bool) → p x ≡ b →
      All (λ x. p x ≡ true) (take (cond b (suc n) 0) (x ∷ xs))
  passes_first x xs n all true is zero d less = is
  passes_first x xs n all true is (suc k) d less = all k d (omega (arith, less))
  passes_first x xs n all false is k d less = absurd (omega (arith, less))

  pub all_pass : (xs : List ℕ) → All (λ x. p x ≡ true) (take (prefix_len p xs) xs)
  all_pass [] = λ k d less. absurd (omega (arith, less))
  all_pass (x ∷ xs) = rw (prefix_step x xs) (passes_first x xs (prefix_len p xs) (all_pass xs) (p x) refl)

  stops_behind : (x : ℕ) (xs : List ℕ) (n : ℕ) → Stops (drop n xs) → (b : Bool) → p x ≡ b →
      Stops (drop (cond b (suc n) 0) (x ∷ xs))
  stops_behind x xs n stop true is = stop
  stops_behind x xs n stop false is = is

  pub stops : (xs : List ℕ) → Stops (drop (prefix_len p xs) xs)
  stops [] = tt
  stops (x ∷ xs) = rw (prefix_step x xs) (stops_behind x xs (prefix_len p xs) (stops xs) (p x) refl)

pub head_is : (text : List ℕ) (byte : ℕ) → Some byte ≡ slice_get text 0 → text ≡ byte ∷ drop 1 text
head_is [] byte there = absurd (none-some byte (sym there))
head_is (x ∷ text) byte there = ap (λ b. b ∷ text) (same_Some x byte (sym there))

abbrev pub in_line : ℕ → Bool
in_line byte = not (byte == 10)

no_line_feed : (byte : ℕ) → in_line byte ≡ true → byte ≢ 10
no_line_feed byte is same = grind (arith, common_steps)

line_ends : (text : List ℕ) → Stops in_line text → EndsLine text
line_ends [] stop = tt
line_ends (x ∷ text) stop = grind (arith, common_steps)

module _ {marks : List ℕ} {l c : ℕ} {words : List Token} where
  pub white_left : (text : List ℕ) (byte : ℕ) → Some byte ≡ slice_get text 0 → is_ascii_whitespace byte ≡ true →
      byte ≢ 10 → AreWords marks l (c + 1) (drop 1 text) words → AreWords marks l c text words
  white_left text byte there is other left =
      let all : AreWords marks l c (byte ∷ drop 1 text) words = white is other left in
      rw (← head_is text byte there) at all

  pub line_feed_left : (text : List ℕ) (byte : ℕ) → Some byte ≡ slice_get text 0 → byte ≡ 10 →
      AreWords marks (l + 1) 1 (drop 1 text) words → AreWords marks l c text words
  line_feed_left text byte there is left =
      let all : AreWords marks l c (10 ∷ drop 1 text) words = line_feed left in
      rw (← is, ← head_is text byte there) at all

  comment_whole : (text : List ℕ) → let n = prefix_len in_line text in
      AreWords marks l (c + suc n) (drop n text) words → AreWords marks l c (35 ∷ text) words
  comment_whole text left =
      let n = prefix_len in_line text in
      let long : suc n ≡ length (35 ∷ take n text) = ap suc (sym (length-prefix_len in_line text)) in
      let all : AreWords marks l c ((35 ∷ take n text) ++ drop n text) words =
      comment (take n text) (λ k d less. no_line_feed (get_or (take n text) k d) (all_pass in_line text k d less))
      (line_ends (drop n text) (stops in_line text)) (rw long at left) in
      rw (take-append-drop n text) at all

  pub comment_left : (text : List ℕ) (byte n : ℕ) → Some byte ≡ slice_get text 0 → byte ≡ 35 →
      n ≡ prefix_len in_line text →
      AreWords marks l (c + n) (drop n text) words → AreWords marks l c text words
  comment_left [] byte n there hash is left = absurd (none-some byte (sym there))
  comment_left (x ∷ text) byte n there hash is left =
      let same : x ≡ 35 = same_Some x byte (sym there) ∙ hash in
      let n_is : n ≡ suc (prefix_len in_line text) = is ∙ ap (λ b. prefix_len in_line (b ∷ text)) same ∙ omega arith in
      let all : AreWords marks l c (35 ∷ text) words = comment_whole text (rw n_is at left) in
      rw (← same) at all

  pub word_left : (text : List ℕ) (n : ℕ) → BeginsWord text →
      IsMarkOrName marks (take n text) (drop n text) → n ≤ length text →
      AreWords marks l (c + n) (drop n text) words →
      AreWords marks l c text (record { text = take n text; line = l; column = c } ∷ words)
  word_left [] n begins named within left = absurd begins
  word_left (x ∷ text) zero begins named within left = absurd named
  word_left (x ∷ text) (suc n) begins named within left =
      let long : c + suc n ≡ c + length (x ∷ take n text) = grind (arith, common_steps) in
      let all : AreWords marks l c ((x ∷ take n text) ++ drop n text)
      (record { text = x ∷ take n text; line = l; column = c } ∷ words) =
      word x (take n text) begins named (rw long at left) in
      rw (take-append-drop n text) at all

module _ (marks : List ℕ) where
  pub mark_is_word : (text : List ℕ) → BeginsWord text → true ≡ is_mark marks (slice_index text 0) →
      IsMarkOrName marks (take 1 text) (drop 1 text)
  mark_is_word [] begins is = absurd begins
  mark_is_word (x ∷ text) begins is = inl (sym is, refl)

  name_ends : (text : List ℕ) → Stops (is_letter marks) text → EndsName marks text
  name_ends [] stop = tt
  name_ends (x ∷ text) stop = stop

  letters_whole : (x : ℕ) (text : List ℕ) → is_letter marks x ≡ true → let n = prefix_len (is_letter marks) (x ∷ text) in
      IsMarkOrName marks (take n (x ∷ text)) (drop n (x ∷ text))
  letters_whole x text is =
      let n = prefix_len (is_letter marks) text in
      let more : prefix_len (is_letter marks) (x ∷ text) ≡ suc n = ap (λ b. cond b (1 + n) 0) is ∙ omega arith in
      let long : All (λ byte. is_letter marks byte ≡ true) (take (prefix_len (is_letter marks) (x ∷ text)) (x ∷ text)) =
      all_pass (is_letter marks) (x ∷ text) in
      let all : All (λ byte. is_letter marks byte ≡ true) (x ∷ take n text) = rw more at long in
      rw more (inr (all, name_ends (drop n text) (stops (is_letter marks) text)))

  pub letters_are_word : (text : List ℕ) (n : ℕ) → n ≡ prefix_len (is_letter marks) text → BeginsWord text →
      false ≡ is_mark marks (slice_index text 0) → IsMarkOrName marks (take n text) (drop n text)
  letters_are_word [] n is begins plain = absurd begins
  letters_are_word (x ∷ text) n is begins plain =
      let letter : is_letter marks x ≡ true = rw (begins.1, sym plain) refl in
      rw is (letters_whole x text letter)

pub not_empty : (text : List ℕ) → BeginsWord text → 0 < length text
not_empty [] begins = absurd begins
not_empty (x ∷ text) begins = omega arith

pub none_left : (rest : Rest) → true ≡ (length rest.text == 0) → AreLeft rest []
none_left rest is = by rest.text is
  where
    by : (text : List ℕ) → true ≡ (length text == 0) → AreWords rest.marks rest.line rest.column text []
    by [] is = none
    by (x ∷ text) is = absurd (true≢false (is ∙ grind (arith, common_steps)))

begun_by : (text : List ℕ) → (text ≡ []) ⊎ BeginsWord text → false ≡ (length text == 0) → BeginsWord text
begun_by text (inr begins) some = begins
begun_by text (inl same) some = absurd (false≢true (some ∙ ap (λ t. length t == 0) same))

module _ (old rest new : Rest) (n : ℕ) (same : rest ≡ old) where
  pub word_next : (old.text ≡ []) ⊎ BeginsWord old.text → false ≡ (length rest.text == 0) →
      IsMarkOrName rest.marks (take n rest.text) (drop n rest.text) → n ≤ length rest.text →
      new ≡ record old { text = drop n old.text; column = old.column + n } →
      (words : List Token) → AreLeft new words →
      AreLeft old (record { text = take n rest.text; line = rest.line; column = rest.column } ∷ words)
  word_next begin some named within after words left =
      let begun : BeginsWord rest.text = begun_by rest.text (rw same begin) some in
      let left_is : AreWords rest.marks rest.line (rest.column + n) (drop n rest.text) words =
      rw same (rw after at left) in
      subst (λ r. AreLeft r (record { text = take n rest.text; line = rest.line; column = rest.column } ∷ words)) same
      (word_left rest.text n begun named within left_is)

-- each text has words
some_letters : (marks after : List ℕ) (k : ℕ) (text : List ℕ) → IsMarkOrName marks (take k text) after → 0 < k
some_letters marks after zero text named = absurd named
some_letters marks after (suc k) text named = omega arith

module _ {marks : List ℕ} (x : ℕ) (text : List ℕ) (l c : ℕ)
    (later : (l c k : ℕ) → 0 < k → (words : List Token) × AreWords marks l c (drop k (x ∷ text)) words) where
  abbrev Words-here : Type 0
  Words-here = (words : List Token) × AreWords marks l c (x ∷ text) words

  white_here : is_ascii_whitespace x ≡ true → (b : Bool) → (x == 10) ≡ b → Words-here
  white_here is true feed =
      let found = later (l + 1) 1 1 (omega arith) in
      (found.0, line_feed_left (x ∷ text) x refl (grind (arith, common_steps)) found.1)
  white_here is false feed =
      let found = later l (c + 1) 1 (omega arith) in
      (found.0, white_left (x ∷ text) x refl is (λ same. grind (arith, common_steps)) found.1)

  comment_here : x ≡ 35 → Words-here
  comment_here hash =
      let n = prefix_len in_line (x ∷ text) in
      let n_is : n ≡ suc (prefix_len in_line text) = ap (λ b. prefix_len in_line (b ∷ text)) hash ∙ omega arith in
      let found = later l (c + n) n (omega (arith, n_is)) in
      (found.0, comment_left (x ∷ text) x n refl hash refl found.1)

  word_here : BeginsWord (x ∷ text) → (k : ℕ) → k ≤ length (x ∷ text) →
      IsMarkOrName marks (take k (x ∷ text)) (drop k (x ∷ text)) → Words-here
  word_here begins k within named =
      let found = later l (c + k) k (some_letters marks _ k (x ∷ text) named) in
      (_, word_left (x ∷ text) k begins named within found.1)

  dark_here : is_ascii_whitespace x ≡ false → (b : Bool) → (x == 35) ≡ b → (m : Bool) → is_mark marks x ≡ m → Words-here
  dark_here dark true hash m mark = comment_here (grind (arith, common_steps))
  dark_here dark false hash true mark =
      let begins : BeginsWord (x ∷ text) = (λ same. grind (arith, common_steps), dark) in
      word_here begins 1 (omega arith) (mark_is_word marks (x ∷ text) begins (sym mark))
  dark_here dark false hash false mark =
      let begins : BeginsWord (x ∷ text) = (λ same. grind (arith, common_steps), dark) in
      let k = prefix_len (is_letter marks) (x ∷ text) in
      word_here begins k (prefix_len-le-length (is_letter marks) (x ∷ text)) (letters_are_word marks (x ∷ text) k refl begins (sym mark))

  words_here : (b : Bool) → is_ascii_whitespace x ≡ b → Words-here
  words_here true is = white_here is (x == 10) refl
  words_here false is = dark_here is (x == 35) refl (is_mark marks x) refl

words_by : {marks : List ℕ} (n : ℕ) (l c : ℕ) (text : List ℕ) → length text ≤ n → (words : List Token) × AreWords marks l c text words
words_by n l c [] within = ([], none)
words_by zero l c (x ∷ text) within = absurd (omega (arith, within))
words_by (suc n) l c (x ∷ text) within =
    words_here x text l c (λ l' c' k some. words_by n l' c' (drop k (x ∷ text)) (grind (arith, common_steps)))
    (is_ascii_whitespace x) refl

pub words_exist : (rest : Rest) → (words : List Token) × AreLeft rest words
words_exist rest = words_by (length rest.text) rest.line rest.column rest.text (omega arith)
