-- Edges as they are read, a word after another.
use Rattle.std.specs.Prelude.{slice_get, Contains, Result, Ok, Err, IfErr}
use Rattle.std.proofs.Common.{◌≡◌, ◌≢◌, ℕ, zero, suc, ◌⊎◌, inl, inr, Option, None, Some, List, [], ◌∷◌, ◌++◌, map, true, eqb, arith, refl, sym, ap, ◌∙◌}
use Rattle.std.specs.Option.{option_eq}
use Rattle.std.proofs.lemmas.Bool.{true≢false}
use Rattle.std.proofs.lemmas.Grind.{common_steps}
use Rattle.std.proofs.lemmas.Option.{none-some}
use Rattle.std.proofs.lemmas.List.{append_assoc, append-nil, map-append}
use Rattle.std.proofs.lemmas.List.Sums.{fold-append}
use Rattle.files_dot.specs.Graphs.{AreNumbers}
use Rattle.files_text.specs.Faults.{IsLine}
use Rattle.files_text.specs.Names.{IsNumbered, names_in, with_name}
use Rattle.files_text.specs.Words.{AreLeft, Rest, Token, token_of}
use Rattle.files_text.specs.declared.fault.Fault.{Fault}
use Rattle.files_text.specs.declared.words.Word.{Word}
use Rattle.files_text.proofs.NamesLemmas.{grown}
use Rattle.files_text.proofs.WordsLemmas.{words_exist}
use Rattle.files_graph.specs.Edges.{AreEdges, AreWordsOf, IsFaulty, IsFaultOf, IsName, IsUnread, last_line}
use Rattle.files_graph.specs.Reading.{HasRead, at_hand}
use Rattle.files_graph.specs.declared.edges.Reader.{Reader}

-- a line behind others
module _ (from to : Token) where
  pub edges_more : (words : List Token) (edges : List (List ℕ × List ℕ)) → AreEdges words edges →
      IsName from → IsName to → from.line ≡ to.line → last_line words ≢ Some from.line →
      AreEdges (words ++ from ∷ to ∷ []) (edges ++ (from.text, to.text) ∷ [])
  edges_more [] [] are one other same fresh = (one, other, same, tt, refl, tt)
  edges_more [] (edge ∷ edges) are one other same fresh = absurd are
  edges_more (x ∷ []) [] are one other same fresh = absurd are
  edges_more (x ∷ []) (edge ∷ edges) are one other same fresh = absurd are
  edges_more (x ∷ y ∷ words) [] are one other same fresh = absurd are
  edges_more (x ∷ y ∷ []) (edge ∷ []) are one other same fresh =
      (are.0, are.1, are.2, (λ line. fresh (ap Some (sym line))), are.4, (one, other, same, tt, refl, tt))
  edges_more (x ∷ y ∷ []) (edge ∷ next ∷ edges) are one other same fresh = absurd are.5
  edges_more (x ∷ y ∷ z ∷ words) (edge ∷ edges) are one other same fresh =
      (are.0, are.1, are.2, are.3, are.4, edges_more (z ∷ words) edges are.5 one other same fresh)

  pub last_line_more : (words : List Token) → last_line (words ++ from ∷ to ∷ []) ≡ Some to.line
  last_line_more [] = refl
  last_line_more (x ∷ []) = refl
  last_line_more (x ∷ y ∷ words) = last_line_more (y ∷ words)

-- a fault behind the words that were taken
pub stopped : (reader : Reader) (words tail : List Token) → HasRead reader words → (line column : ℕ)
    (expected : List ℕ) (fault : Fault) →
    IsFaulty reader.line (at_hand reader.from ++ tail) line column expected →
    IsLine fault line column expected → IsFaultOf (words ++ tail) fault
stopped reader words tail read line column expected fault faulty is =
    inr (
      line,
      column,
      expected,
      record {
        before = read.before;
        rest = at_hand reader.from ++ tail;
        cut = ap (λ l. l ++ tail) read.words_are ∙ append_assoc read.before (at_hand reader.from) tail;
        edges = read.edges;
        are_edges = read.are_edges;
        faulty = rw (← read.last) faulty;
      },
      is,
    )

get_kept : (names : List (List ℕ)) (name : List ℕ) (k : ℕ) (x : List ℕ) → slice_get names k ≡ Some x →
    slice_get (names ++ name ∷ []) k ≡ Some x
get_kept [] name k x there = absurd (none-some x there)
get_kept (y ∷ names) name zero x there = there
get_kept (y ∷ names) name (suc k) x there = get_kept names name k x there

pub name_kept : (names : List (List ℕ)) (name : List ℕ) (k : ℕ) (x : List ℕ) → slice_get names k ≡ Some x →
    slice_get (with_name names name) k ≡ Some x
name_kept names name k x there = by (with_name names name) (grown names name)
  where
    by : (after : List (List ℕ)) → (after ≡ names) ⊎ ((after ≡ names ++ name ∷ []) × ¬ Contains names name) →
        slice_get after k ≡ Some x
    by after (inl same) = ap (λ l. slice_get l k) same ∙ there
    by after (inr more) = ap (λ l. slice_get l k) more.0 ∙ get_kept names name k x there

numbers_kept : (names : List (List ℕ)) (name : List ℕ) (edges : List (List ℕ × List ℕ)) (pairs : List (ℕ × ℕ)) →
    AreNumbers names edges pairs → AreNumbers (with_name names name) edges pairs
numbers_kept names name [] [] are = tt
numbers_kept names name [] (pair ∷ pairs) are = absurd are
numbers_kept names name (edge ∷ edges) [] are = absurd are
numbers_kept names name (edge ∷ edges) (pair ∷ pairs) are =
    (name_kept names name pair.0 edge.0 are.0, name_kept names name pair.1 edge.1 are.1, numbers_kept names name edges pairs are.2)

numbers_more : (names : List (List ℕ)) (edge : List ℕ × List ℕ) (pair : ℕ × ℕ) →
    slice_get names pair.0 ≡ Some edge.0 → slice_get names pair.1 ≡ Some edge.1 →
    (edges : List (List ℕ × List ℕ)) (pairs : List (ℕ × ℕ)) → AreNumbers names edges pairs →
    AreNumbers names (edges ++ edge ∷ []) (pairs ++ pair ∷ [])
numbers_more names edge pair from to [] [] are = (from, to, tt)
numbers_more names edge pair from to [] (p ∷ pairs) are = absurd are
numbers_more names edge pair from to (e ∷ edges) [] are = absurd are
numbers_more names edge pair from to (e ∷ edges) (p ∷ pairs) are =
    (are.0, are.1, numbers_more names edge pair from to edges pairs are.2)

names_more : (before : List Token) (from to : Token) →
    names_in (map (λ word. word.text) (before ++ from ∷ to ∷ []))
    ≡ with_name (with_name (names_in (map (λ word. word.text) before)) from.text) to.text
names_more before from to =
    ap names_in (map-append (λ (word : Token). word.text) before (from ∷ to ∷ []))
    ∙ fold-append with_name [] (map (λ (word : Token). word.text) before) (from.text ∷ to.text ∷ [])

-- the second name of a line
module _ (old new : Reader) (from word : Word) (n m : ℕ) (between : List (List ℕ))
    (first : IsNumbered old.names from.text.now n between)
    (second : IsNumbered between word.text.now m new.names)
    (pushed : new.edges.items ≡ old.edges.items ++ (n, m) ∷ []) where
  pub second_read : old.from ≡ Some from → new.from ≡ None → new.line ≡ Some word.line → from.line ≡ word.line →
      IsName (token_of word) → (words : List Token) → HasRead old words → HasRead new (words ++ token_of word ∷ [])
  second_read at_from none line same name words read =
      let whole : words ≡ read.before ++ token_of from ∷ [] =
      read.words_are ∙ ap (λ f. read.before ++ at_hand f) at_from in
      let fresh = rw at_from at read.fresh in
      let kept = numbers_kept between word.text.now read.edges old.edges.items
      (rw first.added (numbers_kept old.names from.text.now read.edges old.edges.items read.numbers)) in
      record {
        before = read.before ++ token_of from ∷ token_of word ∷ [];
        edges = read.edges ++ (from.text.now, word.text.now) ∷ [];
        are_edges = edges_more (token_of from) (token_of word) read.before read.edges read.are_edges fresh.0 name
            same (λ last. fresh.1 (read.last ∙ last));
        last = line ∙ sym (last_line_more (token_of from) (token_of word) read.before);
        words_are = ap (λ l. l ++ token_of word ∷ []) whole
            ∙ append_assoc read.before (token_of from ∷ []) (token_of word ∷ [])
            ∙ sym (ap (λ f. (read.before ++ token_of from ∷ token_of word ∷ []) ++ at_hand f) none ∙ append-nil _);
        fresh = rw none tt;
        named = second.added
            ∙ ap (λ l. with_name l word.text.now) (first.added ∙ ap (λ l. with_name l from.text.now) read.named)
            ∙ sym (names_more read.before (token_of from) (token_of word));
        numbers = rw (pushed, second.added) (numbers_more _ (from.text.now, word.text.now) (n, m)
            (name_kept between word.text.now n from.text.now first.at) (rw second.added at second.at)
            read.edges old.edges.items kept);
      }

pub line_is : (line : Option ℕ) (n : ℕ) → true ≡ option_eq eqb line (Some n) → line ≡ Some n
line_is None n is = absurd (true≢false is)
line_is (Some k) n is = ap Some (grind (arith, common_steps))

-- the words of a text, with those that a fault leaves unread
pub unread : (text : List ℕ) (taken : List Token) (rest : Rest) (word : Token) →
    ((after : List Token) → AreLeft rest after → AreWordsOf text (taken ++ word ∷ after)) → (fault : Fault) →
    ((after : List Token) → IsFaultOf (taken ++ word ∷ after) fault) → IsUnread text fault
unread text taken rest word left fault is =
    let found = words_exist rest in (taken ++ word ∷ found.0, left found.0 found.1, is found.0)

-- what stops a reader at the end of a text
pub end_unread : {X : Type 0} (text : List ℕ) (words : List Token) (reader : Reader) → AreWordsOf text words →
    HasRead reader words → (result : Result X Fault) →
    IfErr result (λ fault. (all : List Token) → HasRead reader all → IsFaultOf all fault) →
    IfErr result (λ fault. IsUnread text fault)
end_unread text words reader are read (Ok x) is = tt
end_unread text words reader are read (Err fault) is = (words, are, is words read)

pub nothing_read : (reader : Reader) → reader.names ≡ [] → reader.edges.items ≡ [] → reader.from ≡ None →
    reader.line ≡ None → HasRead reader []
nothing_read reader names edges from line = record {
  before = [];
  edges = [];
  are_edges = tt;
  last = line;
  words_are = sym (ap at_hand from);
  fresh = rw from tt;
  named = names;
  numbers = rw edges tt;
}
