-- A text has one list of words.
use Rattle.std.specs.Prelude.{All}
use Rattle.std.specs.Char.{is_ascii_whitespace}
use Rattle.std.proofs.Common.{◌≡◌, ◌≢◌, ◌&&◌, inl, inr, ℕ, suc, ◌+◌, Bool, true, false, not, List, [], ◌∷◌, ◌++◌, length, drop, get_or, arith, refl, sym, ap, subst, ◌∙◌}
use Rattle.std.proofs.lemmas.Bool.{true≢false}
use Rattle.std.proofs.lemmas.Grind.{common_steps}
use Rattle.files_text.specs.Words.{AreWords, EndsLine, EndsName, IsMarkOrName, Token, is_letter, is_mark}
use Rattle.files_text.specs.Words.AreWords.{none, white, line_feed, comment, word}
use Rattle.files_text.proofs.WordsLemmas.{Stops, in_line}

module _ (p : ℕ → Bool) where
  -- where the items that a test passes end, a list is cut in one way
  one_cut : (xs ys zs ws : List ℕ) → All (λ x. p x ≡ true) xs → Stops p ys → All (λ x. p x ≡ true) zs →
      Stops p ws → xs ++ ys ≡ zs ++ ws → (xs ≡ zs) × (ys ≡ ws)
  one_cut [] ys [] ws all stop all' stop' same = (refl, same)
  one_cut [] [] (z ∷ zs) ws all stop all' stop' same = absurd (omega (arith, ap length same))
  one_cut [] (y ∷ ys) (z ∷ zs) ws all stop all' stop' same =
      let first : y ≡ z = ap (λ l. get_or l 0 y) same in
      absurd (true≢false (sym (all' 0 z (omega arith)) ∙ ap p (sym first) ∙ stop))
  one_cut (x ∷ xs) ys [] [] all stop all' stop' same = absurd (omega (arith, ap length same))
  one_cut (x ∷ xs) ys [] (w ∷ ws) all stop all' stop' same =
      let first : x ≡ w = ap (λ l. get_or l 0 x) same in
      absurd (true≢false (sym (all 0 x (omega arith)) ∙ ap p first ∙ stop'))
  one_cut (x ∷ xs) ys (z ∷ zs) ws all stop all' stop' same =
      let first : x ≡ z = ap (λ l. get_or l 0 x) same in
      let rest = one_cut xs ys zs ws (λ k d less. all (suc k) d (omega (arith, less))) stop
      (λ k d less. all' (suc k) d (omega (arith, less))) stop' (ap (drop 1) same) in
      (ap (λ a. a ∷ xs) first ∙ ap (λ l. z ∷ l) rest.0, rest.1)

module _ {marks : List ℕ} {l c : ℕ} where
  of_white : {words : List Token} (b : ℕ) (rest : List ℕ) → AreWords marks l c (b ∷ rest) words → is_ascii_whitespace b ≡ true → b ≢ 10 →
      AreWords marks l (c + 1) rest words
  of_white b rest (white is other left) space no_feed = left
  of_white b rest (line_feed left) space no_feed = absurd (no_feed refl)
  of_white b rest (comment note all end left) space no_feed = absurd (true≢false (sym space))
  of_white b rest (word first others begins named left) space no_feed = absurd (true≢false (sym space ∙ begins.1))

  of_line_feed : {words : List Token} (b : ℕ) (rest : List ℕ) → AreWords marks l c (b ∷ rest) words → b ≡ 10 → AreWords marks (l + 1) 1 rest words
  of_line_feed b rest (white is other left) same = absurd (other same)
  of_line_feed b rest (line_feed left) same = left
  of_line_feed b rest (comment note all end left) same = absurd (omega (arith, same))
  of_line_feed b rest (word first others begins named left) same =
      absurd (true≢false (ap is_ascii_whitespace (sym same) ∙ begins.1))

  of_comment : {words : List Token} (b : ℕ) (rest : List ℕ) → AreWords marks l c (b ∷ rest) words → b ≡ 35 → (note : List ℕ) × (text : List ℕ)
      × (rest ≡ note ++ text) × All (λ byte. byte ≢ 10) note × EndsLine text
      × AreWords marks l (c + length (35 ∷ note)) text words
  of_comment b rest (white is other left) same = absurd (true≢false (sym is ∙ ap is_ascii_whitespace same))
  of_comment b rest (line_feed left) same = absurd (omega (arith, same))
  of_comment b rest (comment note {text} all end left) same = (note, text, refl, all, end, left)
  of_comment b rest (word first others begins named left) same = absurd (begins.0 same)

  of_word : {words : List Token} (b : ℕ) (rest : List ℕ) → AreWords marks l c (b ∷ rest) words → b ≢ 35 → is_ascii_whitespace b ≡ false →
      (others : List ℕ) × (text : List ℕ) × (more : List Token) × (rest ≡ others ++ text)
      × IsMarkOrName marks (b ∷ others) text × (words ≡ record { text = b ∷ others; line = l; column = c } ∷ more)
      × AreWords marks l (c + length (b ∷ others)) text more
  of_word b rest (white is other left) plain dark = absurd (true≢false (sym is ∙ dark))
  of_word b rest (line_feed left) plain dark = absurd (true≢false dark)
  of_word b rest (comment note all end left) plain dark = absurd (plain refl)
  of_word b rest (word first others {text} {words} begins named left) plain dark =
      (others, text, words, refl, named, refl, left)

of_none : {marks : List ℕ} {l c : ℕ} {words : List Token} → AreWords marks l c [] words → words ≡ []
of_none none = refl

in_line_all : (note : List ℕ) → All (λ byte. byte ≢ 10) note → All (λ byte. in_line byte ≡ true) note
in_line_all note all k d less = by (get_or note k d) (all k d less)
  where
    by : (byte : ℕ) → byte ≢ 10 → in_line byte ≡ true
    by byte other = grind (arith, common_steps)

line_stops : (text : List ℕ) → EndsLine text → Stops in_line text
line_stops [] end = tt
line_stops (x ∷ text) end = ap in_line end

name_stops : (marks text : List ℕ) → EndsName marks text → Stops (is_letter marks) text
name_stops marks [] end = tt
name_stops marks (x ∷ text) end = end

no_mark : (marks : List ℕ) (b : ℕ) → is_mark marks b ≡ true → is_letter marks b ≡ true → ⊥
no_mark marks b mark letter = by (not (is_ascii_whitespace b)) (is_mark marks b) mark letter
  where
    by : (dark mark : Bool) → mark ≡ true → (dark && not mark) ≡ true → ⊥
    by true true is letter = true≢false (sym letter)
    by false true is letter = true≢false (sym letter)
    by dark false is letter = true≢false (sym is)

-- words that begin alike, in texts that are alike, are alike
name_cut : (marks : List ℕ) (b : ℕ) (xs ys zs ws : List ℕ) → IsMarkOrName marks (b ∷ xs) ys →
    IsMarkOrName marks (b ∷ zs) ws → xs ++ ys ≡ zs ++ ws → (xs ≡ zs) × (ys ≡ ws)
name_cut marks b xs ys zs ws (inl one) (inl two) same =
    (one.1 ∙ sym two.1, sym (ap (λ l. l ++ ys) one.1) ∙ same ∙ ap (λ l. l ++ ws) two.1)
name_cut marks b xs ys zs ws (inl one) (inr two) same = absurd (no_mark marks b one.0 (two.0 0 b (omega arith)))
name_cut marks b xs ys zs ws (inr one) (inl two) same = absurd (no_mark marks b two.0 (one.0 0 b (omega arith)))
name_cut marks b xs ys zs ws (inr one) (inr two) same =
    one_cut (is_letter marks) xs ys zs ws (λ k d less. one.0 (suc k) d (omega (arith, less)))
    (name_stops marks ys one.1) (λ k d less. two.0 (suc k) d (omega (arith, less))) (name_stops marks ws two.1) same

pub words_one : {marks : List ℕ} {l c : ℕ} {text : List ℕ} {words others : List Token} →
    AreWords marks l c text words → AreWords marks l c text others → words ≡ others
words_one none other = sym (of_none other)
words_one (white {byte = b} {text = text} is differs left) other = words_one left (of_white b text other is differs)
words_one (line_feed {text = text} left) other = words_one left (of_line_feed 10 text other refl)
words_one {marks} {l} {c} {words = words} {others = others} (comment note {text} all end left) other =
    let (note', text', whole, all', end', left') = of_comment 35 (note ++ text) other refl in
    let (notes, texts) = one_cut in_line note text note' text' (in_line_all note all) (line_stops text end)
    (in_line_all note' all') (line_stops text' end') whole in
    words_one left (subst (λ t. AreWords marks l (c + length (35 ∷ note)) t others) (sym texts)
    (subst (λ n. AreWords marks l (c + length (35 ∷ n)) text' others) (sym notes) left'))
words_one {marks} {l} {c} (word first rest {text} {words} begins named left) other =
    let (rest', text', more, whole, named', is, left') = of_word first (rest ++ text) other begins.0 begins.1 in
    let (rests, texts) = name_cut marks first rest text rest' text' named named' whole in
    let same = words_one left (subst (λ t. AreWords marks l (c + length (first ∷ rest)) t more) (sym texts)
    (subst (λ r. AreWords marks l (c + length (first ∷ r)) text' more) (sym rests) left')) in
    ap (λ r. record { text = first ∷ r; line = l; column = c } ∷ words) rests
    ∙ ap (λ ws. record { text = first ∷ rest'; line = l; column = c } ∷ ws) same ∙ sym is
