-- What is printed for an answer.
use Rattle.std.specs.Prelude.{ℕ, true, false, List, [], ◌∷◌, ◌++◌, map, codes, Option, None, Some}
use Rattle.std.specs.List.{flat_map}
use Rattle.std.specs.Fmt.{decimal}
use Rattle.vob_run.specs.Answer.{Answer, done, bit, flag, number, made, bit_list, block_list, dealt, skipped, refused}
use Rattle.vob_lines.specs.Spelling.{digit, digits}

-- each with one space between, or a dash for none
abbrev pub listed : List (List ℕ) → List ℕ
listed [] = codes "-"
listed (text ∷ texts) = text ++ flat_map (λ other. codes " " ++ other) texts

-- what a pull gave
abbrev pub index_text : Option ℕ → List ℕ
index_text None = codes "none"
index_text (Some index) = decimal index

-- the text of each answer
abbrev pub text_of : Answer → List ℕ
text_of done = codes "done"
text_of (bit None) = codes "bit none"
text_of (bit (Some value)) = codes "bit " ++ digit value ∷ []
text_of (flag true) = codes "true"
text_of (flag false) = codes "false"
text_of (number n) = codes "number " ++ decimal n
text_of (made which) = codes "vob " ++ decimal which
text_of (bit_list values) = codes "bits " ++ digits values
text_of (block_list blocks) = codes "blocks " ++ listed (map decimal blocks)
text_of (dealt indices) = codes "dealt " ++ listed (map index_text indices)
text_of skipped = codes "skipped"
text_of (refused reason) = codes "refused " ++ decimal reason

-- a text and a line feed
abbrev pub line_of : List ℕ → List ℕ
line_of text = text ++ 10 ∷ []
