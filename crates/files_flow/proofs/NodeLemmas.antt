-- Nodes as they are read, a word after another.
use Rattle.std.specs.Prelude.{All, Contains, IfSome, codes, length}
use Rattle.std.proofs.Common.{◌≡◌, ◌≢◌, ℕ, zero, suc, ◌+◌, ◌<◌, inl, inr, Option, None, Some, List, [], ◌∷◌, ◌++◌, map, true, arith, refl, sym, ap, subst, ◌∙◌}
use Rattle.std.specs.Option.{is_some}
use Rattle.std.specs.Cmp.Lexicographic.{pointwise}
use Rattle.std.proofs.Common.{Bool, false, not, nat_eq}
use Rattle.std.proofs.lemmas.Bool.{true≢false}
use Rattle.std.proofs.lemmas.Slice.Eq.{bytes_eq-Decides}
use Rattle.std.specs.Str.Lossy.{utf8_lossy}
use Rattle.std.specs.Prelude.{slice_get}
use Rattle.std.proofs.lemmas.Option.{same_Some, none-some}
use Rattle.files_text.proofs.ListLemmas.{first, later}
use Rattle.std.proofs.lemmas.List.{append_assoc, append-nil, map-append, length-append}
use Rattle.std.proofs.lemmas.List.Elements.{All-nil, All-push}
use Rattle.files_text.specs.Faults.{IsLine}
use Rattle.files_text.specs.Names.{IsNumbered, with_name}
use Rattle.files_text.specs.Words.{AreLeft, Rest, Token, token_of}
use Rattle.files_text.specs.declared.fault.Fault.{Fault}
use Rattle.files_text.specs.declared.fault.Fault.TheVariants.{Line, Memory, Input, Output}
use Rattle.files_text.specs.declared.words.Word.{Word}
use Rattle.files_text.proofs.NamesLemmas.{grown}
use Rattle.files_text.proofs.WordsLemmas.{words_exist}
use Rattle.files_flow.specs.Nodes.{AreClosed, AreNodes, AreWordsOf, BeginsNode, IsName, IsPart, Mention, key_of, mention_of}
use Rattle.files_flow.specs.Nodes.AreClosed.{nothing, closed}
use Rattle.files_flow.specs.Nodes.AreNodes.{no_node, node}
use Rattle.files_flow.specs.Nodes.IsPart.{empty, keyed}
use Rattle.files_flow.specs.NodeFaults.{IsFaulty, IsFirstFault, IsSecond}
use Rattle.files_flow.specs.FlowFaults.{IsFaultOf, IsTextFault, IsUnread}
use Rattle.files_flow.specs.Reading.{HasRead, at_hand}
use Rattle.files_flow.specs.declared.fault.FlowFault.{FlowFault}
use Rattle.files_flow.specs.declared.nodes.Kind.{Kind}
use Rattle.files_flow.specs.declared.nodes.Reader.{Reader}

pub has : {X : Type 0} (xs : List X) (i : ℕ) (x : X) → slice_get xs i ≡ Some x → Contains xs x
has [] i x there = absurd (none-some x there)
has (y ∷ xs) zero x there = subst (Contains (y ∷ xs)) (same_Some y x there) (first y xs)
has (y ∷ xs) (suc i) x there = later y xs x (has xs i x there)

-- one word more in the line of the last node
module _ (word : Token) {last : Option ℕ} {before kind : Option Kind} {words shut-more part-more : List Token}
    (shut part : List Token) (name colon : Token) {called : List (List ℕ)} {mentions own others all : List Mention}
    (nodes : AreNodes last before words called mentions) (begins : BeginsNode last called name)
    (is : colon.text ≡ codes ":") (lines : All (λ w. w.line ≡ name.line) (colon ∷ (shut ++ part)))
    (line : word.line ≡ name.line) (shut_is : AreClosed (length called) shut-more own)
    (part_is : IsPart (length called) kind part-more others)
    (same : shut-more ++ part-more ≡ shut ++ part ++ word ∷ []) (said : mentions ++ own ++ others ≡ all) where
  line_more : AreNodes (Some name.line) kind (words ++ name ∷ colon ∷ (shut ++ part) ++ word ∷ [])
      (called ++ name.text ∷ []) all
  line_more =
      let longer : All (λ w. w.line ≡ name.line) (colon ∷ (shut ++ part ++ word ∷ [])) =
      All-push (λ (w : Token). w.line ≡ name.line) (colon ∷ (shut ++ part)) word lines line in
      let made = node name colon nodes begins is shut_is part_is
      (subst (λ l. All (λ (w : Token). w.line ≡ name.line) (colon ∷ l)) (sym same) longer) in
      subst (AreNodes (Some name.line) kind (words ++ name ∷ colon ∷ (shut ++ part) ++ word ∷ []) (called ++ name.text ∷ []))
      said
      (subst (λ l. AreNodes (Some name.line) kind l (called ++ name.text ∷ []) (mentions ++ own ++ others))
      (ap (λ l. words ++ name ∷ colon ∷ l) same ∙ sym (append_assoc words (name ∷ colon ∷ (shut ++ part)) (word ∷ []))) made)

module _ (word : Token) (n : ℕ) (line : word.line ≡ n) where
  pub semicolon_more : (part : Option Kind) (words : List Token) (called : List (List ℕ)) (mentions : List Mention) →
      AreNodes (Some n) part words called mentions → word.text ≡ codes ";" →
      AreNodes (Some n) None (words ++ word ∷ []) called mentions
  semicolon_more part words called mentions
      (node {shut = s} {part = p} name colon {mentions = early} {own = own} {others = others} nodes begins is shut_is part_is lines) text =
      line_more word s p name colon nodes begins is lines line (closed word shut_is part_is text) empty
      (append-nil _) (append-nil _ ∙ sym (append_assoc early own others))

  pub key_more : (kind : Kind) (words : List Token) (called : List (List ℕ)) (mentions : List Mention) →
      AreNodes (Some n) None words called mentions → word.text ≡ key_of kind →
      AreNodes (Some n) (Some kind) (words ++ word ∷ []) called mentions
  key_more kind words called mentions (node {shut = s} name colon nodes begins is shut_is empty lines) text =
      line_more word s [] name colon nodes begins is lines line shut_is (keyed text (All-nil IsName))
      (ap (λ l. l ++ word ∷ []) (sym (append-nil s))) refl

  pub member_more : (kind : Kind) (words : List Token) (called : List (List ℕ)) (mentions : List Mention) →
      AreNodes (Some n) (Some kind) words called mentions → IsName word → (k : ℕ) →
      (0 < length called → k + 1 ≡ length called) →
      AreNodes (Some n) (Some kind) (words ++ word ∷ []) called
      (mentions ++ record { node = k; kind = kind; name = word } ∷ [])
  member_more kind words called mentions
      (node {shut = s} m colon {names = old} {mentions = early} {own = own} nodes begins is shut_is (keyed {key = key} {names = ns} key_is all) lines)
      name k last =
      let long = length-append old (m.text ∷ []) in
      let k_is : length old ≡ k = omega (arith, long, last (omega (arith, long))) in
      let one : Token → Mention = λ (w : Token). record { node = length old; kind = kind; name = w } in
      subst (λ l. AreNodes (Some n) (Some kind) (words ++ word ∷ []) called (mentions ++ record { node = l; kind = kind; name = word } ∷ [])) k_is
      (line_more word s (key ∷ ns) m colon nodes begins is lines line shut_is (keyed key_is (All-push IsName ns word all name))
      (sym (append_assoc s (key ∷ ns) (word ∷ [])))
      (ap (λ (l : List Mention). early ++ own ++ l) (map-append one ns (word ∷ []))
      ∙ sym (append_assoc (early ++ own) (map one ns) (one word ∷ []))))

-- one node more
pub node_more : (last : Option ℕ) (part : Option Kind) (words : List Token) (called : List (List ℕ)) (mentions : List Mention)
    (name colon : Token) → AreNodes last part words called mentions → BeginsNode last called name →
    name.line ≡ colon.line → colon.text ≡ codes ":" → (k : ℕ) (after : List (List ℕ)) →
    IsNumbered called name.text k after →
    AreNodes (Some colon.line) None (words ++ name ∷ colon ∷ []) after mentions
node_more last part words called mentions name colon nodes begins line is k after numbered =
    let own = λ (w : Token). w.line ≡ name.line in
    let made = node name colon nodes begins is nothing empty (All-push own [] colon (All-nil own) (sym line)) in
    subst (λ l. AreNodes (Some colon.line) None (words ++ name ∷ colon ∷ []) l mentions) (sym (numbered.added ∙ with_one))
    (subst (AreNodes (Some colon.line) None (words ++ name ∷ colon ∷ []) (called ++ name.text ∷ [])) (append-nil _ ∙ append-nil mentions)
    (subst (λ l. AreNodes (Some l) None (words ++ name ∷ colon ∷ []) (called ++ name.text ∷ []) (mentions ++ [] ++ [])) line made))
  where
    with_one : with_name called name.text ≡ called ++ name.text ∷ []
    with_one = elim (grown called name.text) [
      | inl same ↦ absurd (begins.2 (has called k name.text (ap (λ l. slice_get l k) (sym (numbered.added ∙ same)) ∙ numbered.at)))
      | inr more ↦ more.0
    ]

line_fault : (words : List Token) (line column : ℕ) (expected : List ℕ) (fault : Fault) →
    IsFirstFault words line column expected → IsLine fault line column expected → IsTextFault words fault
line_fault words line column expected Memory first is = absurd is
line_fault words line column expected (Input error) first is = absurd is
line_fault words line column expected (Output error) first is = absurd is
line_fault words line column expected (Line l c e) first is = rw (is.0, is.1, is.2) first

-- a fault behind the words that were taken
pub stopped : (reader : Reader) (words tail : List Token) → HasRead reader words → (line column : ℕ)
    (expected : List ℕ) (fault : Fault) →
    IsFaulty reader.line reader.part reader.names (at_hand reader.name ++ tail) line column expected →
    IsLine fault line column expected → IsTextFault (words ++ tail) fault
stopped reader words tail read line column expected fault faulty is =
    line_fault (words ++ tail) line column expected fault (record {
      before = read.before;
      rest = at_hand reader.name ++ tail;
      cut = ap (λ l. l ++ tail) read.words_are ∙ append_assoc read.before (at_hand reader.name) tail;
      last = reader.line;
      part = reader.part;
      names = reader.names;
      mentions = map mention_of reader.uses.items;
      are_nodes = read.are_nodes;
      faulty = faulty;
    }) is

-- one word more behind the lines
pub more_read : (old new : Reader) (word : Token) (words : List Token) (read : HasRead old words) → old.name ≡ None →
    new.name ≡ None →
    AreNodes new.line new.part (read.before ++ word ∷ []) new.names (map mention_of new.uses.items) →
    HasRead new (words ++ word ∷ [])
more_read old new word words read was is nodes = record {
  before = read.before ++ word ∷ [];
  words_are = ap (λ l. l ++ word ∷ []) (read.words_are ∙ ap (λ h. read.before ++ at_hand h) was ∙ append-nil read.before)
      ∙ sym (ap (λ h. read.before ++ word ∷ [] ++ at_hand h) is ∙ append-nil _);
  are_nodes = nodes;
  fresh = rw is tt;
}

-- the colon of a node
pub colon_read : (old new : Reader) (name word : Word) (k : ℕ) → IsNumbered old.names name.text.now k new.names →
    new.uses ≡ old.uses → new.name ≡ None → new.line ≡ Some word.line → new.part ≡ None → old.name ≡ Some name →
    name.line ≡ word.line → word.text.now ≡ codes ":" → (words : List Token) → HasRead old words →
    HasRead new (words ++ token_of word ∷ [])
colon_read old new name word k numbered uses none line part was same is words read =
    let fresh = rw was at read.fresh in
    record {
      before = read.before ++ token_of name ∷ token_of word ∷ [];
      words_are = ap (λ l. l ++ token_of word ∷ []) (read.words_are ∙ ap (λ h. read.before ++ at_hand h) was)
          ∙ append_assoc read.before (token_of name ∷ []) (token_of word ∷ [])
          ∙ sym (ap (λ h. read.before ++ token_of name ∷ token_of word ∷ [] ++ at_hand h) none ∙ append-nil _);
      are_nodes = rw (line, part, uses) (node_more old.line old.part read.before old.names (map mention_of old.uses.items)
          (token_of name) (token_of word) read.are_nodes fresh same is k new.names numbered);
      fresh = rw none tt;
    }

-- a name of the part at hand
pub member_read : (old new : Reader) (kind : Kind) (word : Word) (k : ℕ) → new.names ≡ old.names → new.name ≡ old.name →
    new.line ≡ old.line → new.part ≡ old.part →
    new.uses.items ≡ old.uses.items ++ record { node = k; kind = kind; name = word } ∷ [] → old.name ≡ None →
    old.line ≡ Some word.line → old.part ≡ Some kind → IsName (token_of word) →
    (0 < length old.names → k + 1 ≡ length old.names) → (words : List Token) → HasRead old words →
    HasRead new (words ++ token_of word ∷ [])
member_read old new kind word k names_same name_same line_same part_same pushed none line part name last words read =
    more_read old new (token_of word) words read none (name_same ∙ none)
    (rw (line_same, part_same, names_same, pushed, line, part)
    (subst (AreNodes (Some word.line) (Some kind) (read.before ++ token_of word ∷ []) old.names)
    (sym (map-append mention_of old.uses.items (record { node = k; kind = kind; name = word } ∷ [])))
    (member_more (token_of word) word.line refl kind read.before old.names (map mention_of old.uses.items)
    (rw (line, part) at read.are_nodes) name k last)))

pub text_is : (text found wanted : List ℕ) → found ≡ wanted → true ≡ pointwise nat_eq text found → text ≡ wanted
text_is text found wanted same is = (bytes_eq-Decides text found).0 (sym is) ∙ same

pub text_isnt : (text found wanted : List ℕ) → found ≡ wanted → false ≡ pointwise nat_eq text found → text ≢ wanted
text_isnt text found wanted same is e = true≢false (sym ((bytes_eq-Decides text found).1 (e ∙ sym same)) ∙ sym is)

pub flipped : (b x : Bool) → x ≡ not b → not x ≡ b
flipped true x e = ap not e
flipped false x e = ap not e

pub was_found : (called : List (List ℕ)) (name : List ℕ) (result : Option ℕ) →
    IfSome result (λ n. slice_get called n ≡ Some name) → true ≡ is_some result → Contains called name
was_found called name None there is = absurd (true≢false is)
was_found called name (Some n) there is = has called n name there

-- a name that a node has already
pub second_read : (reader : Reader) (words rest : List Token) (word : Token) → HasRead reader words → reader.name ≡ None →
    IsName word → reader.line ≢ Some word.line → Contains reader.names word.text → (name : List ℕ) →
    name ≡ utf8_lossy word.text → IsSecond (words ++ word ∷ rest) word.line word.column name
second_read reader words rest word read none name fresh there called is = record {
  before = read.before;
  word = word;
  rest = rest;
  cut = ap (λ l. l ++ word ∷ rest) (read.words_are ∙ ap (λ h. read.before ++ at_hand h) none ∙ append-nil read.before);
  last = reader.line;
  part = reader.part;
  names = reader.names;
  mentions = map mention_of reader.uses.items;
  are_nodes = read.are_nodes;
  is_name = name;
  fresh = fresh;
  there = there;
  called = record { line_is = refl; column_is = refl; name_is = is };
}

-- the words of a text, with those that a fault leaves unread
pub unread : (text : List ℕ) (before : List Token) (rest : Rest) (word : Token) →
    ((after : List Token) → AreLeft rest after → AreWordsOf text (before ++ word ∷ after)) → (fault : FlowFault) →
    ((after : List Token) → IsFaultOf (before ++ word ∷ after) fault) → IsUnread text fault
unread text before rest word left fault is =
    let found = words_exist rest in (before ++ word ∷ found.0, left found.0 found.1, is found.0)

pub nothing_read : (reader : Reader) → reader.names ≡ [] → reader.uses.items ≡ [] → reader.name ≡ None →
    reader.line ≡ None → reader.part ≡ None → HasRead reader []
nothing_read reader named uses name line part = record {
  before = [];
  words_are = sym (ap at_hand name);
  are_nodes = rw (line, part, named, uses) no_node;
  fresh = rw name tt;
}
