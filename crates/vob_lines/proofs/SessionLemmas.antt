-- Lines that are read as calls, one after another.
use Rattle.std.proofs.Common.{◌≡◌, ◌≢◌, ℕ, ◌+◌, Bool, true, List, ◌∷◌, ◌++◌, length, map, refl, ap, sym, ◌∙◌, arith, length-append, []}
use Rattle.std.proofs.Common.{inl, inr, ◌<◌}
use Rattle.std.specs.Prelude.{nat_lt, Option, None, Some, Result, Ok, Err, OnOk, OnErr, IsOk, IsOkUnless, IfErr}
use Rattle.std.specs.Io.KnownBytes.{Consumes, Keeps}
use Rattle.std.proofs.lemmas.List.{append_assoc, append-nil, map-append}
use Rattle.std.proofs.lemmas.Bool.{lt-ltb, false≢true}
use Rattle.std.proofs.lemmas.List.Elements.{filter-append}
use Rattle.vob_run.specs.Call.{Call}
use Rattle.vob_lines.specs.Cuts.{lines_of, words_of}
use Rattle.vob_lines.specs.Grammar.{Reads}
use Rattle.vob_lines.specs.Conversation.{Says, IsInput, Tells}
use Rattle.vob_lines.specs.Reading.{sentences, AllRead, IsRefused}
use Rattle.vob_lines.specs.Ends.{Ends, Stops}
use Rattle.vob_lines.specs.declared.session.Ending.{Ending}
use Rattle.vob_lines.specs.declared.session.Ending.TheVariants.{Failed, BadLine, Memory}
use Rattle.vob_lines.specs.Written.{Puts}
use Rattle.vob_lines.proofs.WrittenLemmas.{but_none}

-- the first lines, of which there are so many, read as these calls
pub record ReadsSoFar (lines rest : List (List ℕ)) (n : ℕ) (calls : List Call) : Type 0 where
  pub before : List (List ℕ)
  pub cut : lines ≡ before ++ rest
  pub count : n ≡ length before
  pub read : AllRead (sentences before) calls

abbrev is_sentence : List (List ℕ) → Bool
is_sentence words = nat_lt 0 (length words)

sentences_push : (before : List (List ℕ)) (line : List ℕ) →
    sentences (before ++ line ∷ []) ≡ sentences before ++ sentences (line ∷ [])
sentences_push before line =
    rw map-append (filter-append is_sentence (map words_of before) (words_of line ∷ []))

sentences-blank : (before : List (List ℕ)) (line : List ℕ) → words_of line ≡ [] →
    sentences (before ++ line ∷ []) ≡ sentences before
sentences-blank before line none =
    sentences_push before line ∙ rw none (append-nil (sentences before))

AllRead_push : (read : List (List (List ℕ))) (calls : List Call) (words : List (List ℕ))
    (call : Call) → AllRead read calls → Reads words call →
    AllRead (read ++ words ∷ []) (calls ++ call ∷ [])
AllRead_push [] [] words call all reads = (reads, tt)
AllRead_push (x ∷ xs) (c ∷ cs) words call all reads =
    (all.0, AllRead_push xs cs words call all.1 reads)
AllRead_push [] (c ∷ cs) words call all reads = absurd all
AllRead_push (x ∷ xs) [] words call all reads = absurd all

some_words : (words : List (List ℕ)) (call : Call) → Reads words call →
    is_sentence words ≡ true
some_words [] call reads = absurd reads
some_words (word ∷ words) call reads = lt-ltb 0 (length (word ∷ words)) (omega arith)

sentences-some : (before : List (List ℕ)) (line : List ℕ) → is_sentence (words_of line) ≡ true →
    sentences (before ++ line ∷ []) ≡ sentences before ++ words_of line ∷ []
sentences-some before line some = sentences_push before line ∙ rw some refl

some_calls : (calls : List Call) (call : Call) → calls ++ call ∷ [] ≢ []
some_calls [] call = λ e. cc
some_calls (x ∷ xs) call = λ e. cc

-- some lines read so far, and the line behind them
module _ (lines rest after : List (List ℕ)) (line : List ℕ) (n : ℕ) (calls : List Call)
    (so_far : ReadsSoFar lines rest n calls) (next : rest ≡ line ∷ after) where
  cut_here : lines ≡ so_far.before ++ line ∷ after
  cut_here = so_far.cut ∙ ap (λ xs. so_far.before ++ xs) next

  -- it is counted
  passed : (more : List Call) → AllRead (sentences (so_far.before ++ line ∷ [])) more →
      ReadsSoFar lines after (n + 1) more
  passed more read = record {
    before = so_far.before ++ line ∷ [];
    cut = cut_here ∙ sym (append_assoc so_far.before (line ∷ []) after);
    count = omega (arith, so_far.count, length-append so_far.before (line ∷ []));
    read = read;
  }

  -- a blank one is passed over
  pub reads_blank : words_of line ≡ [] → ReadsSoFar lines after (n + 1) calls
  reads_blank none = passed calls (rw (sentences-blank so_far.before line none) so_far.read)

  -- one that has words gives a call
  pub reads_more : (call : Call) → Reads (words_of line) call →
      ReadsSoFar lines after (n + 1) (calls ++ call ∷ [])
  reads_more call reads =
      let some = some_words (words_of line) call reads in
      passed _ (rw (sentences-some so_far.before line some)
      (AllRead_push _ _ _ _ so_far.read reads))

  -- memory may be refused for the call that it reads as
  pub refused_call : (call : Call) → Reads (words_of line) call → IsRefused lines
  refused_call call reads =
      let more = reads_more call reads in
      record {
        before = more.before;
        others = after;
        cut = more.cut;
        calls = calls ++ call ∷ [];
        read = more.read;
        wanted = inl (some_calls calls call);
      }

-- at the end all lines are read
pub reads_all : (lines : List (List ℕ)) (n : ℕ) (calls : List Call) →
    ReadsSoFar lines [] n calls → AllRead (sentences lines) calls
reads_all lines n calls so_far = rw (so_far.cut ∙ append-nil so_far.before) so_far.read

map_nil : {X Y : Type 0} (f : X → Y) (xs : List X) → map f xs ≡ [] → xs ≡ []
map_nil f [] none = refl
map_nil f (x ∷ xs) none = cc

-- all lines read as calls, and memory is refused for the replies if there are some
pub ends_at_replies : {T X : Type 0} (result : Result T Ending) (lines : List (List ℕ))
    (f : X → Call) (commands : List X) → AllRead (sentences lines) (map f commands) →
    IsOkUnless result Memory → (commands ≡ [] → IsOk result) → IfErr result (Ends lines)
ends_at_replies (Ok value) lines f commands read is nothing = tt
ends_at_replies (Err error) lines f commands read is nothing =
    rw is (record {
      before = lines;
      others = [];
      cut = sym (append-nil lines);
      calls = map f commands;
      read = read;
      wanted = inl (λ none. absurd (false≢true (nothing (map_nil f commands none))));
    })

-- how the conversation over an input's lines ends is how that over the input does
pub stops : (input : List ℕ) (ending : Ending) → Ends (lines_of input) ending → Stops input ending
stops input Failed ends = tt
stops input (BadLine n) ends = ends
stops input Memory ends = inr ends

-- ---- a reader's input, if it is known

-- reading it failed
pub stops_failed : (remaining : Option (List ℕ)) →
    (input : List ℕ) × IsInput remaining input × Stops input Failed
stops_failed None = ([], tt, tt)
stops_failed (Some all) = (all, refl, tt)

-- some of it was read, and memory is refused for the last bytes that were
pub some_refused : (old now new : Option (List ℕ)) (text last : List ℕ) → Consumes old now text →
    Consumes now new last → 0 < length last →
    (input : List ℕ) × IsInput old input × Stops input Memory
some_refused None now new text last first then some = (0 ∷ [], tt, inl (λ e. cc))
some_refused (Some all) None new text last first then some = absurd first
some_refused (Some all) (Some xs) None text last first then some = absurd then
some_refused (Some all) (Some xs) (Some ys) text last first then some = (
  all,
  refl,
  inl (λ none.
      let whole : 0 ≡ length text + (length last + length ys) =
      sym (ap length none) ∙ ap length first ∙ length-append text xs
      ∙ ap (λ l. length text + length l) then
      ∙ ap (λ n. length text + n) (length-append last ys) in
      absurd (omega (arith, whole, some))),
)

-- known bytes stay
pub keeps_all : (known : Option (List ℕ)) → Keeps known known
keeps_all None = tt
keeps_all (Some all) = refl

-- what is told was written, or some of it if that failed
pub tells : {T E : Type 0} (written : Result T E) (remaining old new : Option (List ℕ))
    (input text : List ℕ) (told status : ℕ) → IsInput remaining input → Says told input text →
    Puts written old new text [] → OnOk written (status ≡ told) → OnErr written (status ≡ 1) →
    Tells status remaining old new
tells (Ok value) remaining old new input text told status read says puts ok err = record {
  input = input;
  read = read;
  told = told;
  text = text;
  says = says;
  whole = λ _. (ok, but_none old new text puts);
  part = λ _. ([], puts);
}
tells (Err error) remaining old new input text told status read says puts ok err = record {
  input = input;
  read = read;
  told = told;
  text = text;
  says = says;
  whole = λ other. absurd (other err);
  part = λ _. puts;
}
