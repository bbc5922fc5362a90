-- Words that a reader takes are a graph: what is left after each word goes on with a production.
use Rattle.std.specs.Prelude.{drop, length, nat_lt, take, if◌then◌else◌}
use Rattle.std.specs.Option.{option_and_then}
use Rattle.std.proofs.Common.{◌≡◌, ◌≤◌, ℕ, zero, suc, ◌-◌, Bool, true, false, Option, None, Some, List, [], ◌∷◌, ◌++◌, refl, sym, ap, ◌∙◌, arith, subst, inl, inr, append-nil, append_assoc, length-append}
use Rattle.std.proofs.lemmas.Grind.{common_steps}
use Rattle.std.proofs.lemmas.Bool.{false≢true}
use Rattle.std.proofs.lemmas.Option.{none-some, same_Some}
use Rattle.std.proofs.Math.Seq.{drop-append_seam, take-append_seam}
use Rattle.files_text.specs.Names.{names_in}
use Rattle.files_dot.specs.Graphs.{Derives, IsGraph, IsGraphHead, Part, between, both, nodes_of, nothing, statements}
use Rattle.files_dot.specs.Graphs.AreAttributes.{no_attribute}
use Rattle.files_dot.specs.Graphs.Derives.{no_statement, of_edges, of_graph, of_nodes}
use Rattle.files_dot.specs.Graphs.IsGraphHead.{digraph, digraph_name, strict_digraph, strict_digraph_name}
use Rattle.files_dot.specs.Graphs.IsSubgraphHead.{braces_alone}
use Rattle.files_dot.specs.Reading.{End, Level, Next, State, after_arrow, after_colon, after_end, after_subgraph, at, edges_to, run, start, starts}
use Rattle.files_dot.specs.Tokens.{Word, id, sign}
use Rattle.files_dot.specs.declared.stage.Stage.{Stage}
use Rattle.files_dot.specs.declared.stage.Stage.TheVariants.{AfterDigraph, AfterEqual, AfterKey, AfterKeyEqual, AfterKeyword, AfterList, AfterName, AfterStrict, AfterValue, Begin, Done, Ended, InList, Statement}
use Rattle.files_dot.specs.declared.token.Mark.TheVariants.{Arrow, CloseBrace, CloseBracket, Colon, Comma, Digraph, Edge, Equal, Graph, Node, OpenBrace, OpenBracket, Semicolon, Strict, Subgraph}
use Rattle.files_dot.proofs.RestLemmas.{ArrowRest, BraceRest, Claim, ColonRest, Edges, EndRest, EqualRest, InRest, KeyEqualRest, KeyRest, KeywordRest, ListsRest, Names, NodeRest, Rest, Sound, SubRest, ValueRest, a_key, arrow_part, closed, closing_same, first_braces, first_node, first_sub, more_lists, more_ports, name_it, next_braces, next_end, next_node, next_sub, no_ends, no_lists, no_ports, node, of_equal, of_keyword, same_words, state, under, zero_ports}
use Rattle.files_dot.proofs.RestLemmas.Rest.{goes_on, semicolon}
use Rattle.files_dot.proofs.RestLemmas.InRest.{in_rest}
use Rattle.files_dot.proofs.RestLemmas.ValueRest.{plain, parted, parted_comma}
use Rattle.files_dot.proofs.RestLemmas.KeyEqualRest.{a_value}
use Rattle.files_dot.proofs.RestLemmas.KeyRest.{an_equal}
use Rattle.files_dot.proofs.RestLemmas.KeywordRest.{a_bracket}
use Rattle.files_dot.proofs.RestLemmas.EqualRest.{the_value}
use Rattle.files_dot.proofs.RestLemmas.ColonRest.{the_port}
use Rattle.files_dot.proofs.RestLemmas.BraceRest.{brace_rest}
use Rattle.files_dot.proofs.RestLemmas.SubRest.{sub_rest}

module _ (final : State) (n : ℕ) (later : (next : Next) (m : Names) (e : Edges) (l : List Level) (words : List Word) →
    length words ≤ n → run (state next m e l) words ≡ Some final → Claim next m e l words final) where
  sub_join : (tails : Option Names) (m : Names) (e : Edges) (l : List Level) (words : List Word)
      (one : Sound (Derives statements) m e (record { start = length m; tails = tails } ∷ l) words final) →
      Claim (after_end (record { start = length m; may_be_name = false; colons = 0 })) (m ++ one.part.mentions)
      ((e ++ one.part.edges) ++ edges_to tails (names_in (drop (length m) (m ++ one.part.mentions)))) l one.vs final →
      Sound (BraceRest tails) m e l words final
  sub_join tails m e l words one (inr named) = absurd (false≢true named.may_be)
  sub_join tails m e l words one (inl two) =
      let p : Part = one.part in
      let seam : drop (length m) (m ++ p.mentions) ≡ p.mentions = drop-append_seam m p.mentions in
      let more : Edges = edges_to tails (nodes_of p) in record {
        us = one.us ++ sign CloseBrace ∷ two.us;
        vs = two.vs;
        part = arrow_part more p two.part;
        cut = one.cut ∙ ap (λ v. one.us ++ sign CloseBrace ∷ v) two.cut
            ∙ sym (append_assoc one.us (sign CloseBrace ∷ two.us) (sign CloseBrace ∷ two.vs));
        derived = brace_rest one.derived
            (subst (λ t. EndRest (names_in t) two.us two.part) seam (zero_ports two.derived));
        closes = subst (λ c. run (closed c (e ++ (p.edges ++ (more ++ two.part.edges))) l) two.vs ≡ Some final)
            (append_assoc m p.mentions two.part.mentions)
            (subst (λ c. run (closed ((m ++ p.mentions) ++ two.part.mentions) c l) two.vs ≡ Some final)
            (ap (λ t. ((e ++ p.edges) ++ edges_to tails (names_in t)) ++ two.part.edges) seam
            ∙ append_assoc (e ++ p.edges) more two.part.edges
            ∙ append_assoc e p.edges (more ++ two.part.edges)) two.closes);
      }

  sub_case : (tails : Option Names) (m : Names) (e : Edges) (l : List Level) (words : List Word) → length words ≤ n →
      run (state (at Statement) m e (record { start = length m; tails = tails } ∷ l)) words ≡ Some final →
      Sound (BraceRest tails) m e l words final
  sub_case tails m e l words less ran =
      let one : Sound (Derives statements) m e (record { start = length m; tails = tails } ∷ l) words final =
      later (at Statement) m e (record { start = length m; tails = tails } ∷ l) words less ran in
      sub_join tails m e l words one
      (later (after_end (record { start = length m; may_be_name = false; colons = 0 })) (m ++ one.part.mentions)
      ((e ++ one.part.edges) ++ edges_to tails (names_in (drop (length m) (m ++ one.part.mentions)))) l one.vs
      (omega (arith, less, ap length one.cut, length-append one.us (sign CloseBrace ∷ one.vs))) one.closes)

  -- the first word of a statement, or `}`
  id_case : (name : List ℕ) (m : Names) (e : Edges) (l : List Level) (words : List Word) →
      Claim (after_end (record { start = length m; may_be_name = true; colons = 2 })) (m ++ name ∷ []) e l words final →
      Sound (Derives statements) m e l (id name ∷ words) final
  id_case name m e l words (inl left) = record {
    us = id name ∷ left.us;
    vs = left.vs;
    part = both (node name) left.part;
    cut = ap (λ w. id name ∷ w) left.cut;
    derived = first_node name
        (subst (λ t. NodeRest 2 (names_in t) left.us left.part) (drop-append_seam m (name ∷ [])) left.derived);
    closes = subst (λ c. run (closed c (e ++ left.part.edges) l) left.vs ≡ Some final)
        (append_assoc m (name ∷ []) left.part.mentions) left.closes;
  }
  id_case name m e l words (inr named) =
      let left = named.sound in record {
        us = id name ∷ sign Equal ∷ left.us;
        vs = left.vs;
        part = left.part;
        cut = ap (λ w. id name ∷ w) (named.words_are ∙ ap (λ w. sign Equal ∷ w) left.cut);
        derived = of_equal name left.derived;
        closes = subst (λ c. run (closed (c ++ left.part.mentions) (e ++ left.part.edges) l) left.vs ≡ Some final)
            (take-append_seam m (name ∷ [])) left.closes;
      }

  starts_case : (next : Next) (m : Names) (e : Edges) (l : List Level) (word : Word) (words : List Word) →
      length words ≤ n → option_and_then (λ t. run t words) (starts (state next m e l) word) ≡ Some final →
      Sound (Derives statements) m e l (word ∷ words) final
  starts_case next m e l (id name) words less ran =
      id_case name m e l words (later (after_end (record { start = length m; may_be_name = true; colons = 2 }))
      (m ++ name ∷ []) e l words less ran)
  starts_case next m e l (sign Graph) words less ran =
      under KeywordRest (Derives statements) (sign Graph) (λ us p r. of_keyword Graph (λ attrs ls a b. of_graph a b) r)
      (later (at AfterKeyword) m e l words less ran)
  starts_case next m e l (sign Node) words less ran =
      under KeywordRest (Derives statements) (sign Node) (λ us p r. of_keyword Node (λ attrs ls a b. of_nodes a b) r)
      (later (at AfterKeyword) m e l words less ran)
  starts_case next m e l (sign Edge) words less ran =
      under KeywordRest (Derives statements) (sign Edge) (λ us p r. of_keyword Edge (λ attrs ls a b. of_edges a b) r)
      (later (at AfterKeyword) m e l words less ran)
  starts_case next m e l (sign Subgraph) words less ran =
      under (SubRest None false) (Derives statements) (sign Subgraph) (λ us p r. first_sub r)
      (later (after_subgraph None false) m e l words less ran)
  starts_case next m e l (sign OpenBrace) words less ran =
      under (BraceRest None) (Derives statements) (sign OpenBrace) (λ us p r. first_braces braces_alone r)
      (sub_case None m e l words less ran)
  starts_case next m e l (sign CloseBrace) words less ran = record {
    us = [];
    vs = words;
    part = nothing;
    cut = refl;
    derived = no_statement;
    closes = subst (λ c. run (closed c (e ++ []) l) words ≡ Some final) (sym (append-nil m))
        (subst (λ c. run (closed m c l) words ≡ Some final) (sym (append-nil e))
        (subst (λ s. run s words ≡ Some final) (closing_same next (at Statement) m e l l) ran));
  }
  starts_case next m e l (sign mark) words less ran = absurd (none-some final ran)

  -- a word at a stage
  at_case : (stage : Stage) (m : Names) (e : Edges) (l : List Level) (word : Word) (words : List Word) →
      length words ≤ n → run (state (at stage) m e l) (word ∷ words) ≡ Some final →
      Claim (at stage) m e l (word ∷ words) final
  at_case Statement m e l (id name) words less ran = starts_case (at Statement) m e l (id name) words less ran
  at_case Statement m e l (sign Strict) words less ran = absurd (none-some final ran)
  at_case Statement m e l (sign mark) words less ran = starts_case (at Statement) m e l (sign mark) words less ran
  at_case Ended m e l (sign Semicolon) words less ran =
      under (Derives statements) Rest (sign Semicolon) (λ us p r. semicolon r) (later (at Statement) m e l words less ran)
  at_case Ended m e l (id name) words less ran =
      same_words (Derives statements) Rest (λ us p r. goes_on r) (starts_case (at Ended) m e l (id name) words less ran)
  at_case Ended m e l (sign mark) words less ran =
      same_words (Derives statements) Rest (λ us p r. goes_on r) (starts_case (at Ended) m e l (sign mark) words less ran)
  at_case AfterList m e l (sign OpenBracket) words less ran =
      under InRest ListsRest (sign OpenBracket) (λ us p r. more_lists r) (later (at InList) m e l words less ran)
  at_case AfterList m e l (sign Semicolon) words less ran =
      under (Derives statements) ListsRest (sign Semicolon) (λ us p r. no_lists (semicolon r))
      (later (at Statement) m e l words less ran)
  at_case AfterList m e l (id name) words less ran =
      same_words (Derives statements) ListsRest (λ us p r. no_lists (goes_on r))
      (starts_case (at AfterList) m e l (id name) words less ran)
  at_case AfterList m e l (sign mark) words less ran =
      same_words (Derives statements) ListsRest (λ us p r. no_lists (goes_on r))
      (starts_case (at AfterList) m e l (sign mark) words less ran)
  at_case InList m e l (id key) words less ran =
      under KeyRest InRest (id key) (λ us p r. a_key key r) (later (at AfterKey) m e l words less ran)
  at_case InList m e l (sign CloseBracket) words less ran =
      under ListsRest InRest (sign CloseBracket) (λ us p r. in_rest no_attribute r)
      (later (at AfterList) m e l words less ran)
  at_case InList m e l (sign mark) words less ran = absurd (none-some final ran)
  at_case AfterValue m e l (id key) words less ran =
      under KeyRest ValueRest (id key) (λ us p r. plain (a_key key r)) (later (at AfterKey) m e l words less ran)
  at_case AfterValue m e l (sign CloseBracket) words less ran =
      under ListsRest ValueRest (sign CloseBracket) (λ us p r. plain (in_rest no_attribute r))
      (later (at AfterList) m e l words less ran)
  at_case AfterValue m e l (sign Comma) words less ran =
      under InRest ValueRest (sign Comma) (λ us p r. parted_comma r) (later (at InList) m e l words less ran)
  at_case AfterValue m e l (sign Semicolon) words less ran =
      under InRest ValueRest (sign Semicolon) (λ us p r. parted r) (later (at InList) m e l words less ran)
  at_case AfterValue m e l (sign mark) words less ran = absurd (none-some final ran)
  at_case AfterKey m e l (sign Equal) words less ran =
      under KeyEqualRest KeyRest (sign Equal) (λ us p r. an_equal r) (later (at AfterKeyEqual) m e l words less ran)
  at_case AfterKey m e l (id name) words less ran = absurd (none-some final ran)
  at_case AfterKey m e l (sign mark) words less ran = absurd (none-some final ran)
  at_case AfterKeyEqual m e l (id value) words less ran =
      under ValueRest KeyEqualRest (id value) (λ us p r. a_value value r) (later (at AfterValue) m e l words less ran)
  at_case AfterKeyEqual m e l (sign Strict) words less ran = absurd (none-some final ran)
  at_case AfterKeyEqual m e l (sign mark) words less ran = absurd (none-some final ran)
  at_case AfterEqual m e l (id value) words less ran =
      under Rest EqualRest (id value) (λ us p r. the_value value r) (later (at Ended) m e l words less ran)
  at_case AfterEqual m e l (sign Strict) words less ran = absurd (none-some final ran)
  at_case AfterEqual m e l (sign mark) words less ran = absurd (none-some final ran)
  at_case AfterKeyword m e l (sign OpenBracket) words less ran =
      under InRest KeywordRest (sign OpenBracket) (λ us p r. a_bracket r) (later (at InList) m e l words less ran)
  at_case AfterKeyword m e l (id name) words less ran = absurd (none-some final ran)
  at_case AfterKeyword m e l (sign mark) words less ran = absurd (none-some final ran)
  at_case stage m e l word words less ran = tt

  -- a word behind an end
  module _ (end : End) (m : Names) (e : Edges) (l : List Level) (words : List Word) (less : length words ≤ n) where
    abbrev the_tails : Names
    the_tails = names_in (drop end.start m)

    equal_case : (b : Bool) → end.may_be_name ≡ b →
        option_and_then (λ t. run t words) (if b then Some (state (at AfterEqual) (take end.start m) e l) else None)
        ≡ Some final → Claim (after_end end) m e l (sign Equal ∷ words) final
    equal_case true is ran = inr (record {
      may_be = is;
      rest = words;
      words_are = refl;
      sound = later (at AfterEqual) (take end.start m) e l words less ran;
    })
    equal_case false is ran = absurd (none-some final ran)

    colon_case : (b : Bool) → nat_lt 0 end.colons ≡ b →
        option_and_then (λ t. run t words) (if b then Some (state (after_colon (record {
          start = end.start;
          may_be_name = false;
          colons = end.colons - 1;
        })) m e l) else None) ≡ Some final → Claim (after_end end) m e l (sign Colon ∷ words) final
    colon_case true is ran =
        inl (under (ColonRest (end.colons - 1) the_tails) (NodeRest end.colons the_tails) (sign Colon)
        (λ us p r. more_ports (grind (arith, common_steps)) r) (later (after_colon (record {
          start = end.start;
          may_be_name = false;
          colons = end.colons - 1;
        })) m e l words less ran))
    colon_case false is ran = absurd (none-some final ran)

    plain_case : (word : Word) → Sound ListsRest m e l (word ∷ words) final →
        Claim (after_end end) m e l (word ∷ words) final
    plain_case word left =
        inl (same_words ListsRest (NodeRest end.colons the_tails) (λ us p r. no_ports (no_ends r)) left)

    end_case : (word : Word) → run (state (after_end end) m e l) (word ∷ words) ≡ Some final →
        Claim (after_end end) m e l (word ∷ words) final
    end_case (sign Arrow) ran =
        inl (under (ArrowRest the_tails) (NodeRest end.colons the_tails) (sign Arrow) (λ us p r. no_ports (next_end r))
        (later (after_arrow the_tails) m e l words less ran))
    end_case (sign Equal) ran = equal_case end.may_be_name refl ran
    end_case (sign Colon) ran = colon_case (nat_lt 0 end.colons) refl ran
    end_case (sign OpenBracket) ran =
        plain_case (sign OpenBracket) (under InRest ListsRest (sign OpenBracket) (λ us p r. more_lists r)
        (later (at InList) m e l words less ran))
    end_case (sign Semicolon) ran =
        plain_case (sign Semicolon) (under (Derives statements) ListsRest (sign Semicolon) (λ us p r. no_lists (semicolon r))
        (later (at Statement) m e l words less ran))
    end_case (id name) ran =
        plain_case (id name) (same_words (Derives statements) ListsRest (λ us p r. no_lists (goes_on r))
        (starts_case (after_end end) m e l (id name) words less ran))
    end_case (sign mark) ran =
        plain_case (sign mark) (same_words (Derives statements) ListsRest (λ us p r. no_lists (goes_on r))
        (starts_case (after_end end) m e l (sign mark) words less ran))

    colon_id : (name : List ℕ) → Claim (after_end (record { start = end.start; may_be_name = false; colons = end.colons }))
        m e l words final → Claim (after_colon end) m e l (id name ∷ words) final
    colon_id name (inl left) =
        under (NodeRest end.colons the_tails) (ColonRest end.colons the_tails) (id name) (λ us p r. the_port name r) left
    colon_id name (inr named) = absurd (false≢true named.may_be)

    after_colon_case : (word : Word) → run (state (after_colon end) m e l) (word ∷ words) ≡ Some final →
        Claim (after_colon end) m e l (word ∷ words) final
    after_colon_case (id name) ran =
        colon_id name (later (after_end (record { start = end.start; may_be_name = false; colons = end.colons }))
        m e l words less ran)
    after_colon_case (sign mark) ran = absurd (none-some final ran)

  -- a word behind `->`
  module _ (m : Names) (e : Edges) (l : List Level) (words : List Word) (less : length words ≤ n) where
    arrow_id : (tails : Names) (name : List ℕ) →
        Claim (after_end (record { start = length m; may_be_name = false; colons = 2 })) (m ++ name ∷ [])
        (e ++ between tails (name ∷ [])) l words final → Claim (after_arrow tails) m e l (id name ∷ words) final
    arrow_id tails name (inr named) = absurd (false≢true named.may_be)
    arrow_id tails name (inl left) = record {
      us = id name ∷ left.us;
      vs = left.vs;
      part = arrow_part (between tails (name ∷ [])) (node name) left.part;
      cut = ap (λ w. id name ∷ w) left.cut;
      derived = next_node name
          (subst (λ t. NodeRest 2 (names_in t) left.us left.part) (drop-append_seam m (name ∷ [])) left.derived);
      closes = subst (λ c. run (closed c (e ++ (between tails (name ∷ []) ++ left.part.edges)) l) left.vs ≡ Some final)
          (append_assoc m (name ∷ []) left.part.mentions)
          (subst (λ c. run (closed ((m ++ name ∷ []) ++ left.part.mentions) c l) left.vs ≡ Some final)
          (append_assoc e (between tails (name ∷ [])) left.part.edges) left.closes);
    }

    arrow_case : (tails : Names) (word : Word) → run (state (after_arrow tails) m e l) (word ∷ words) ≡ Some final →
        Claim (after_arrow tails) m e l (word ∷ words) final
    arrow_case tails (id name) ran =
        arrow_id tails name (later (after_end (record { start = length m; may_be_name = false; colons = 2 }))
        (m ++ name ∷ []) (e ++ between tails (name ∷ [])) l words less ran)
    arrow_case tails (sign Subgraph) ran =
        under (SubRest (Some tails) false) (ArrowRest tails) (sign Subgraph) (λ us p r. next_sub r)
        (later (after_subgraph (Some tails) false) m e l words less ran)
    arrow_case tails (sign OpenBrace) ran =
        under (BraceRest (Some tails)) (ArrowRest tails) (sign OpenBrace) (λ us p r. next_braces braces_alone r)
        (sub_case (Some tails) m e l words less ran)
    arrow_case tails (sign mark) ran = absurd (none-some final ran)

    sub_head_case : (tails : Option Names) (is_named : Bool) (word : Word) →
        run (state (after_subgraph tails is_named) m e l) (word ∷ words) ≡ Some final →
        Claim (after_subgraph tails is_named) m e l (word ∷ words) final
    sub_head_case tails false (id name) ran =
        under (SubRest tails true) (SubRest tails false) (id name) (λ us p r. name_it name r)
        (later (after_subgraph tails true) m e l words less ran)
    sub_head_case tails true (id name) ran = absurd (none-some final ran)
    sub_head_case tails false (sign OpenBrace) ran =
        under (BraceRest tails) (SubRest tails false) (sign OpenBrace) (λ us p r. sub_rest false r)
        (sub_case tails m e l words less ran)
    sub_head_case tails true (sign OpenBrace) ran =
        under (BraceRest tails) (SubRest tails true) (sign OpenBrace) (λ us p r. sub_rest true r)
        (sub_case tails m e l words less ran)
    sub_head_case tails false (sign mark) ran = absurd (none-some final ran)
    sub_head_case tails true (sign mark) ran = absurd (none-some final ran)

-- no word is left only when a graph was read
module _ (final : State) (done : final.next ≡ at Done) where
  no_word : (next : Next) (m : Names) (e : Edges) (l : List Level) → next ≡ at Done → Claim next m e l [] final
  no_word (at Statement) m e l is = absurd (cc)
  no_word (at Ended) m e l is = absurd (cc)
  no_word (at AfterList) m e l is = absurd (cc)
  no_word (at AfterEqual) m e l is = absurd (cc)
  no_word (at AfterKeyword) m e l is = absurd (cc)
  no_word (at InList) m e l is = absurd (cc)
  no_word (at AfterKey) m e l is = absurd (cc)
  no_word (at AfterKeyEqual) m e l is = absurd (cc)
  no_word (at AfterValue) m e l is = absurd (cc)
  no_word (at stage) m e l is = tt
  no_word (after_end end) m e l is = absurd (cc)
  no_word (after_colon end) m e l is = absurd (cc)
  no_word (after_arrow tails) m e l is = absurd (cc)
  no_word (after_subgraph tails is_named) m e l is = absurd (cc)

  sound : (n : ℕ) (next : Next) (m : Names) (e : Edges) (l : List Level) (words : List Word) → length words ≤ n →
      run (state next m e l) words ≡ Some final → Claim next m e l words final
  sound n next m e l [] less ran =
      no_word next m e l (ap (λ (s : State). s.next) (same_Some (state next m e l) final ran) ∙ done)
  sound zero next m e l (word ∷ words) less ran = absurd (omega (arith, less))
  sound (suc n) (at stage) m e l (word ∷ words) less ran =
      at_case final n (sound n) stage m e l word words (omega (arith, less)) ran
  sound (suc n) (after_end end) m e l (word ∷ words) less ran =
      end_case final n (sound n) end m e l words (omega (arith, less)) word ran
  sound (suc n) (after_colon end) m e l (word ∷ words) less ran =
      after_colon_case final n (sound n) end m e l words (omega (arith, less)) word ran
  sound (suc n) (after_arrow tails) m e l (word ∷ words) less ran =
      arrow_case final n (sound n) m e l words (omega (arith, less)) tails word ran
  sound (suc n) (after_subgraph tails is_named) m e l (word ∷ words) less ran =
      sub_head_case final n (sound n) m e l words (omega (arith, less)) tails is_named word ran

  -- nothing follows a graph
  after_done : (m : Names) (e : Edges) (vs : List Word) → run (state (at Done) m e []) vs ≡ Some final →
      (vs ≡ []) × (state (at Done) m e [] ≡ final)
  after_done m e [] ran = (refl, same_Some (state (at Done) m e []) final ran)
  after_done m e (id name ∷ vs) ran = absurd (none-some final ran)
  after_done m e (sign Strict ∷ vs) ran = absurd (none-some final ran)
  after_done m e (sign mark ∷ vs) ran = absurd (none-some final ran)

  abbrev whole : Part
  whole = record { mentions = final.mentions; edges = final.edges }

  record Inside (head words : List Word) : Type 0 where
    inside : List Word
    words_are : words ≡ head ++ sign OpenBrace ∷ (inside ++ sign CloseBrace ∷ [])
    are_statements : Derives statements inside whole

  body : (words : List Word) → run (state (at Statement) [] [] []) words ≡ Some final →
      Inside [] (sign OpenBrace ∷ words)
  body words ran =
      let found : Sound (Derives statements) [] [] [] words final =
      sound (length words) (at Statement) [] [] [] words (omega arith) ran in
      let last = after_done found.part.mentions found.part.edges found.vs found.closes in record {
        inside = found.us;
        words_are = ap (λ w. sign OpenBrace ∷ w) (found.cut ∙ ap (λ v. found.us ++ sign CloseBrace ∷ v) last.0);
        are_statements = subst (λ s. Derives statements found.us (record { mentions = s.mentions; edges = s.edges }))
            last.1 found.derived;
      }

  before : (word : Word) {head words : List Word} → Inside head words → Inside (word ∷ head) (word ∷ words)
  before word found = record {
    inside = found.inside;
    words_are = ap (λ w. word ∷ w) found.words_are;
    are_statements = found.are_statements;
  }

  -- what follows `digraph`
  data Named (words : List Word) : Type 0 where
    without_name : Inside [] words → Named words
    with_name_of : (name : List ℕ) → Inside (id name ∷ []) words → Named words

  named_body : (name : List ℕ) (words : List Word) → run (state (at AfterName) [] [] []) words ≡ Some final →
      Inside [] words
  named_body name [] ran = absurd (clash (ap (λ (s : State). s.next) (same_Some _ final ran) ∙ done))
    where
      clash : at AfterName ≡ at Done → ⊥
      clash is = cc
  named_body name (sign OpenBrace ∷ words) ran = body words ran
  named_body name (sign mark ∷ words) ran = absurd (none-some final ran)
  named_body name (id other ∷ words) ran = absurd (none-some final ran)

  after_digraph : (words : List Word) → run (state (at AfterDigraph) [] [] []) words ≡ Some final → Named words
  after_digraph [] ran = absurd (clash (ap (λ (s : State). s.next) (same_Some _ final ran) ∙ done))
    where
      clash : at AfterDigraph ≡ at Done → ⊥
      clash is = cc
  after_digraph (id name ∷ words) ran = with_name_of name (before (id name) (named_body name words ran))
  after_digraph (sign OpenBrace ∷ words) ran = without_name (body words ran)
  after_digraph (sign mark ∷ words) ran = absurd (none-some final ran)

  graph_of : {head words : List Word} → IsGraphHead head → Inside head words → IsGraph words whole
  graph_of {head = head} is found = record {
    head = head;
    inside = found.inside;
    words_are = found.words_are;
    is_head = is;
    are_statements = found.are_statements;
  }

  from_digraph : (words : List Word) → Named words → IsGraph (sign Digraph ∷ words) whole
  from_digraph words (without_name found) = graph_of digraph (before (sign Digraph) found)
  from_digraph words (with_name_of name found) = graph_of (digraph_name name) (before (sign Digraph) found)

  from_strict : (words : List Word) → Named words → IsGraph (sign Strict ∷ sign Digraph ∷ words) whole
  from_strict words (without_name found) = graph_of strict_digraph (before (sign Strict) (before (sign Digraph) found))
  from_strict words (with_name_of name found) =
      graph_of (strict_digraph_name name) (before (sign Strict) (before (sign Digraph) found))

  after_strict_one : (words : List Word) → run (state (at AfterStrict) [] [] []) words ≡ Some final →
      IsGraph (sign Strict ∷ words) whole
  after_strict_one [] ran = absurd (clash (ap (λ (s : State). s.next) (same_Some _ final ran) ∙ done))
    where
      clash : at AfterStrict ≡ at Done → ⊥
      clash is = cc
  after_strict_one (sign Digraph ∷ words) ran = from_strict words (after_digraph words ran)
  after_strict_one (sign mark ∷ words) ran = absurd (none-some final ran)
  after_strict_one (id name ∷ words) ran = absurd (none-some final ran)

  from_start : (words : List Word) → run start words ≡ Some final → IsGraph words whole
  from_start [] ran = absurd (clash (ap (λ (s : State). s.next) (same_Some _ final ran) ∙ done))
    where
      clash : at Begin ≡ at Done → ⊥
      clash is = cc
  from_start (sign Strict ∷ words) ran = after_strict_one words ran
  from_start (sign Digraph ∷ words) ran = from_digraph words (after_digraph words ran)
  from_start (sign mark ∷ words) ran = absurd (none-some final ran)
  from_start (id name ∷ words) ran = absurd (none-some final ran)

-- words that a reader takes are a graph
pub run_is_graph : (words : List Word) (s : State) → run start words ≡ Some s → s.next ≡ at Done →
    IsGraph words (record { mentions = s.mentions; edges = s.edges })
run_is_graph words s ran done = from_start s done words ran
