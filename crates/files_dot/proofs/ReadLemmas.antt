-- Tokens are read one after another: they are a graph, or have a first fault.
use Rattle.std.proofs.Common.{◌≡◌, ◌<◌, ◌≤◌, ℕ, ◌+◌, true, false, Option, None, Some, List, [], ◌∷◌, ◌++◌, drop, get_or, length, map, take, refl, sym, ap, ◌∙◌, subst, inl, inr, append-nil}
use Rattle.std.specs.Option.{option_and_then}
use Rattle.std.proofs.lemmas.Bool.{false≢true, true≢false}
use Rattle.std.proofs.lemmas.Option.{same_Some}
use Rattle.std.proofs.lemmas.List.{drop_more, map-append, take-append-drop, take_all, take_more}
use Rattle.files_text.specs.Faults.{IsLine}
use Rattle.files_text.specs.declared.fault.Fault.{Fault}
use Rattle.files_dot.specs.Graphs.{AreNumbers, IsDotGraph, IsGraphFault, nodes_of, words_of}
use Rattle.files_dot.specs.Reading.{IsRefused, Next, State, at, after_arrow, after_colon, after_end, after_subgraph, is_done, run, start, step}
use Rattle.files_dot.specs.Tokens.{Token, token_of}
use Rattle.files_dot.specs.declared.place.Place.{Place}
use Rattle.files_dot.specs.declared.stage.Stage.TheVariants.{Done}
use Rattle.files_dot.specs.declared.token.Token.{Token as HeldToken}
use Rattle.files_dot.proofs.CompleteLemmas.{graph_is_run, no_graph_begins, run_append, run_can_begin}
use Rattle.files_dot.proofs.RestLemmas.{state}
use Rattle.files_dot.proofs.SoundLemmas.{run_is_graph}

done_is : (next : Next) → is_done next ≡ true → next ≡ at Done
done_is (at Done) is = refl
done_is (at stage) is = absurd (false≢true is)
done_is (after_end end) is = absurd (false≢true is)
done_is (after_colon end) is = absurd (false≢true is)
done_is (after_arrow tails) is = absurd (false≢true is)
done_is (after_subgraph tails is_named) is = absurd (false≢true is)

module _ (before : List Token) (s : State) (ran : run start (words_of before) ≡ Some s) where
  words_push : (token : Token) → run start (words_of (before ++ token ∷ [])) ≡ step s token.word
  words_push token =
      ap (run start) (map-append (λ (t : Token). t.word) before (token ∷ []))
      ∙ run_append start (words_of before) (token.word ∷ [])
      ∙ ap (option_and_then (λ t. run t (token.word ∷ []))) ran ∙ last (step s token.word)
    where
      last : (next : Option State) → option_and_then (λ t. run t []) next ≡ next
      last None = refl
      last (Some t) = refl

  pub read_more : (token : Token) (t : State) → step s token.word ≡ Some t →
      run start (words_of (before ++ token ∷ [])) ≡ Some t
  read_more token t is = words_push token ∙ is

  pub read_fault : (token : Token) (rest : List Token) (end : Place) (fault : Fault) → IsRefused s token fault →
      IsGraphFault (before ++ token ∷ rest) end fault
  read_fault token rest end fault (inl memory) = inl memory
  read_fault token rest end fault (inr refused) = inr (
    token.place,
    refused.1.0,
    record {
      before = before;
      rest = token ∷ rest;
      cut = refl;
      begin = run_can_begin (words_of before) s ran;
      stops = (refl, no_graph_begins (words_of (before ++ token ∷ [])) (words_push token ∙ refused.0));
    },
    refused.1.1,
  )

  pub end_fault : (end : Place) (expected : List ℕ) (fault : Fault) → is_done s.next ≡ false →
      IsLine fault end.line end.column expected → IsGraphFault before end fault
  end_fault end expected fault undone line = inr (
    end,
    expected,
    record {
      before = before;
      rest = [];
      cut = sym (append-nil before);
      begin = run_can_begin (words_of before) s ran;
      stops = (
        refl,
        λ graph.
            let same = same_Some s (state (at Done) graph.0.mentions graph.0.edges [])
            (sym ran ∙ graph_is_run (words_of before) graph.0 graph.1) in
            true≢false (sym (ap (λ (t : State). is_done t.next) same) ∙ undone),
      );
    },
    line,
  )

  pub read_graph : (names : List (List ℕ)) (pairs : List (ℕ × ℕ)) → is_done s.next ≡ true →
      names ≡ nodes_of (record { mentions = s.mentions; edges = s.edges }) → AreNumbers names s.edges pairs →
      IsDotGraph before names pairs
  read_graph names pairs done named numbers = record {
    part = record { mentions = s.mentions; edges = s.edges };
    is_graph = run_is_graph (words_of before) s ran (done_is s.next done);
    named = named;
    numbers = numbers;
  }

-- tokens as they are held
module _ (items : List HeldToken) (s : State) where
  module _ (i : ℕ) (token : HeldToken) (less : i < length items) (is : token ≡ get_or items i token)
      (ran : run start (words_of (map token_of (take i items))) ≡ Some s) where
    pub token_read : (t : State) → step s (token_of token).word ≡ Some t →
        run start (words_of (map token_of (take (i + 1) items))) ≡ Some t
    token_read t taken =
        ap (λ l. run start (words_of (map token_of l)))
        (take_more items i token less ∙ ap (λ x. take i items ++ x ∷ []) (sym is))
        ∙ ap (λ l. run start (words_of l)) (map-append token_of (take i items) (token ∷ []))
        ∙ read_more (map token_of (take i items)) s ran (token_of token) t taken

    pub token_fault : (end : Place) (fault : Fault) → IsRefused s (token_of token) fault →
        IsGraphFault (map token_of items) end fault
    token_fault end fault refused =
        let cut : map token_of items ≡ map token_of (take i items) ++ token_of token ∷ map token_of (drop (i + 1) items) =
        ap (map token_of) (sym (take-append-drop i items)
        ∙ ap (λ l. take i items ++ l) (drop_more items i token less ∙ ap (λ x. x ∷ drop (i + 1) items) (sym is)))
        ∙ map-append token_of (take i items) (token ∷ drop (i + 1) items) in
        subst (λ l. IsGraphFault l end fault) (sym cut)
        (read_fault (map token_of (take i items)) s ran (token_of token) (map token_of (drop (i + 1) items)) end fault refused)

  pub ran_all : (i : ℕ) → length items ≤ i → run start (words_of (map token_of (take i items))) ≡ Some s →
      run start (words_of (map token_of items)) ≡ Some s
  ran_all i past ran = ap (λ l. run start (words_of (map token_of l))) (sym (take_all i items past)) ∙ ran
