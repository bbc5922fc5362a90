-- A reader takes the words of each graph, and what it took can always go on to one.
use Rattle.std.specs.Prelude.{drop, length}
use Rattle.std.specs.Option.{option_and_then}
use Rattle.std.proofs.Common.{◌≡◌, ℕ, Bool, true, false, Option, None, Some, List, [], ◌∷◌, ◌++◌, refl, sym, ap, ◌∙◌, subst, append-nil, append_assoc}
use Rattle.std.proofs.lemmas.Option.{none-some}
use Rattle.std.proofs.Math.Seq.{drop-append_seam, take-append_seam}
use Rattle.files_text.specs.Names.{names_in}
use Rattle.files_dot.specs.Graphs.{AreAttributes, AreLists, CanBegin, Derives, IsGraph, IsGraphHead, IsPort, IsSubgraphHead, Part, Symbol, an_end, between, ends_from, nodes_of, statement, statements}
use Rattle.files_dot.specs.Graphs.AreAttributes.{attribute, attribute_comma, attribute_semicolon, no_attribute}
use Rattle.files_dot.specs.Graphs.AreLists.{a_list, no_list}
use Rattle.files_dot.specs.Graphs.Derives.{a_node, a_statement, a_statement_semicolon, a_subgraph, assigns, connects, leads_to, no_end, no_statement, of_edges, of_graph, of_nodes}
use Rattle.files_dot.specs.Graphs.IsGraphHead.{digraph, digraph_name, strict_digraph, strict_digraph_name}
use Rattle.files_dot.specs.Graphs.IsPort.{no_port, port, port_point}
use Rattle.files_dot.specs.Graphs.IsSubgraphHead.{braces_alone, subgraph, subgraph_name}
use Rattle.files_dot.specs.Reading.{End, Level, Next, State, after_arrow, after_colon, after_end, after_subgraph, at, closing, edges_to, run, start, step}
use Rattle.files_dot.specs.Tokens.{Word, id, sign}
use Rattle.files_dot.specs.declared.stage.Stage.TheVariants.{AfterDigraph, AfterEqual, AfterKey, AfterKeyEqual, AfterKeyword, AfterList, AfterName, AfterStrict, AfterValue, Begin, Done, Ended, InList, Statement}
use Rattle.files_dot.specs.declared.token.Mark.TheVariants.{Arrow, CloseBrace, CloseBracket, Colon, Digraph, Equal, OpenBrace, OpenBracket, Semicolon}
use Rattle.files_dot.proofs.RestLemmas.{Edges, Names, closed, closing_same, state}
use Rattle.files_dot.proofs.SoundLemmas.{run_is_graph}

abbrev ended : ℕ → End
ended start = record { start = start; may_be_name = false; colons = 0 }

-- words behind a statement, and words behind an end of an edge
abbrev Calm : List Word → Type 0
Calm [] = ⊥
Calm (sign Arrow ∷ words) = ⊥
Calm (sign Equal ∷ words) = ⊥
Calm (sign Colon ∷ words) = ⊥
Calm (sign OpenBracket ∷ words) = ⊥
Calm (word ∷ words) = Unit {0}

abbrev Still : List Word → Type 0
Still [] = ⊥
Still (sign Arrow ∷ words) = ⊥
Still (sign Equal ∷ words) = ⊥
Still (sign Colon ∷ words) = ⊥
Still (word ∷ words) = Unit {0}

abbrev Tame : List Word → Type 0
Tame [] = ⊥
Tame (sign Equal ∷ words) = ⊥
Tame (sign Colon ∷ words) = ⊥
Tame (word ∷ words) = Unit {0}

still_calm : (words : List Word) → Calm words → Still words
still_calm [] calm = absurd calm
still_calm (sign Arrow ∷ words) calm = absurd calm
still_calm (sign Equal ∷ words) calm = absurd calm
still_calm (sign Colon ∷ words) calm = absurd calm
still_calm (sign OpenBracket ∷ words) calm = absurd calm
still_calm (word ∷ words) calm = tt

tame_still : (words : List Word) → Still words → Tame words
tame_still [] calm = absurd calm
tame_still (sign Arrow ∷ words) calm = absurd calm
tame_still (sign Equal ∷ words) calm = absurd calm
tame_still (sign Colon ∷ words) calm = absurd calm
tame_still (word ∷ words) calm = tt

module _ (m : Names) (e : Edges) (l : List Level) where
  same_close : (a b : Next) (words : List Word) →
      run (closing (state a m e l) l) words ≡ run (closing (state b m e l) l) words
  same_close a b words = ap (λ s. run s words) (closing_same a b m e l l)

  -- which end it is matters only to `=` and `:`
  tame_end : (end : End) (words : List Word) → Tame words →
      run (state (after_end end) m e l) words ≡ run (state (after_end (ended end.start)) m e l) words
  tame_end end [] tame = absurd tame
  tame_end end (sign Equal ∷ words) tame = absurd tame
  tame_end end (sign Colon ∷ words) tame = absurd tame
  tame_end end (sign CloseBrace ∷ words) tame = same_close (after_end end) (after_end (ended end.start)) words
  tame_end end (word ∷ words) tame = refl

  calm_end : (from : ℕ) (words : List Word) → Calm words →
      run (state (after_end (ended from)) m e l) words ≡ run (state (at Ended) m e l) words
  calm_end from [] calm = absurd calm
  calm_end from (sign Arrow ∷ words) calm = absurd calm
  calm_end from (sign Equal ∷ words) calm = absurd calm
  calm_end from (sign Colon ∷ words) calm = absurd calm
  calm_end from (sign OpenBracket ∷ words) calm = absurd calm
  calm_end from (sign CloseBrace ∷ words) calm = same_close (after_end (ended from)) (at Ended) words
  calm_end from (word ∷ words) calm = refl

  calm_list : (words : List Word) → Calm words →
      run (state (at AfterList) m e l) words ≡ run (state (at Ended) m e l) words
  calm_list [] calm = absurd calm
  calm_list (sign Arrow ∷ words) calm = absurd calm
  calm_list (sign Equal ∷ words) calm = absurd calm
  calm_list (sign Colon ∷ words) calm = absurd calm
  calm_list (sign OpenBracket ∷ words) calm = absurd calm
  calm_list (sign CloseBrace ∷ words) calm = same_close (at AfterList) (at Ended) words
  calm_list (word ∷ words) calm = refl

  -- attributes
  attributes_run : {attrs : List Word} → AreAttributes attrs → (words : List Word) →
      (run (state (at AfterValue) m e l) (attrs ++ sign CloseBracket ∷ words) ≡ run (state (at AfterList) m e l) words)
      × (run (state (at InList) m e l) (attrs ++ sign CloseBracket ∷ words) ≡ run (state (at AfterList) m e l) words)
  attributes_run no_attribute words = (refl, refl)
  attributes_run (attribute key value others) words =
      let rest = attributes_run others words in (rest.0, rest.0)
  attributes_run (attribute_semicolon key value others) words =
      let rest = attributes_run others words in (rest.1, rest.1)
  attributes_run (attribute_comma key value others) words =
      let rest = attributes_run others words in (rest.1, rest.1)

  -- attributes in brackets
  lists_run : {lists : List Word} → AreLists lists → (words : List Word) → Calm words →
      run (state (at AfterList) m e l) (lists ++ words) ≡ run (state (at Ended) m e l) words
  lists_run no_list words calm = calm_list words calm
  lists_run (a_list {attributes = attrs} {others = others} attributes lists) words calm =
      ap (run (state (at InList) m e l)) (append_assoc attrs (sign CloseBracket ∷ others) words)
      ∙ (attributes_run attributes (others ++ words)).1 ∙ lists_run lists words calm

  end_lists_run : (from : ℕ) {lists : List Word} → AreLists lists → (words : List Word) → Calm words →
      run (state (after_end (ended from)) m e l) (lists ++ words) ≡ run (state (at Ended) m e l) words
  end_lists_run from no_list words calm = calm_end from words calm
  end_lists_run from (a_list {attributes = attrs} {others = others} attributes lists) words calm =
      ap (run (state (at InList) m e l)) (append_assoc attrs (sign CloseBracket ∷ others) words)
      ∙ (attributes_run attributes (others ++ words)).1 ∙ lists_run lists words calm

  keyword_run : {attrs lists : List Word} → AreAttributes attrs → AreLists lists → (words : List Word) → Calm words →
      run (state (at InList) m e l) ((attrs ++ sign CloseBracket ∷ lists) ++ words) ≡ run (state (at Ended) m e l) words
  keyword_run {attrs = attrs} {lists = lists} attributes are words calm =
      ap (run (state (at InList) m e l)) (append_assoc attrs (sign CloseBracket ∷ lists) words)
      ∙ (attributes_run attributes (lists ++ words)).1 ∙ lists_run are words calm

  -- a port
  port_run : (start : ℕ) (may_be_name : Bool) {ports : List Word} → IsPort ports → (words : List Word) → Tame words →
      run (state (after_end (record { start = start; may_be_name = may_be_name; colons = 2 })) m e l) (ports ++ words)
      ≡ run (state (after_end (ended start)) m e l) words
  port_run start may_be_name no_port words tame =
      tame_end (record { start = start; may_be_name = may_be_name; colons = 2 }) words tame
  port_run start may_be_name (port name) words tame =
      tame_end (record { start = start; may_be_name = false; colons = 1 }) words tame
  port_run start may_be_name (port_point name point) words tame =
      tame_end (record { start = start; may_be_name = false; colons = 0 }) words tame

-- what a reader makes of the words of a symbol
abbrev Goal : Symbol → List Word → Part → Type 0
Goal statements us p = (m : Names) (e : Edges) (l : List Level) (vs : List Word) →
    run (state (at Statement) m e l) (us ++ sign CloseBrace ∷ vs)
    ≡ run (closed (m ++ p.mentions) (e ++ p.edges) l) vs
Goal statement us p = (m : Names) (e : Edges) (l : List Level) (vs : List Word) → Calm vs →
    run (state (at Statement) m e l) (us ++ vs) ≡ run (state (at Ended) (m ++ p.mentions) (e ++ p.edges) l) vs
Goal an_end us p = (m : Names) (e : Edges) (l : List Level) (vs : List Word) → Tame vs →
    (run (state (at Statement) m e l) (us ++ vs)
    ≡ run (state (after_end (ended (length m))) (m ++ p.mentions) (e ++ p.edges) l) vs)
    × ((tails : Names) → run (state (after_arrow tails) m e l) (us ++ vs)
    ≡ run (state (after_end (ended (length m))) (m ++ p.mentions) (e ++ (p.edges ++ between tails (nodes_of p))) l) vs)
Goal (ends_from tails) us p = (m : Names) (e : Edges) (l : List Level) (start : ℕ) → names_in (drop start m) ≡ tails →
    (vs : List Word) → Still vs → (last : ℕ) × (run (state (after_end (ended start)) m e l) (us ++ vs)
    ≡ run (state (after_end (ended last)) (m ++ p.mentions) (e ++ p.edges) l) vs)

-- words that begin a statement, or `}`
abbrev Eager : List Word → Type 0
Eager [] = ⊥
Eager (sign Arrow ∷ words) = ⊥
Eager (sign Equal ∷ words) = ⊥
Eager (sign Colon ∷ words) = ⊥
Eager (sign OpenBracket ∷ words) = ⊥
Eager (sign Semicolon ∷ words) = ⊥
Eager (word ∷ words) = Unit {0}

eager_calm : (words : List Word) → Eager words → Calm words
eager_calm [] eager = absurd eager
eager_calm (sign Arrow ∷ words) eager = absurd eager
eager_calm (sign Equal ∷ words) eager = absurd eager
eager_calm (sign Colon ∷ words) eager = absurd eager
eager_calm (sign OpenBracket ∷ words) eager = absurd eager
eager_calm (word ∷ words) eager = tt

eager_run : (m : Names) (e : Edges) (l : List Level) (words : List Word) → Eager words →
    run (state (at Ended) m e l) words ≡ run (state (at Statement) m e l) words
eager_run m e l [] eager = absurd eager
eager_run m e l (sign Arrow ∷ words) eager = absurd eager
eager_run m e l (sign Equal ∷ words) eager = absurd eager
eager_run m e l (sign Colon ∷ words) eager = absurd eager
eager_run m e l (sign OpenBracket ∷ words) eager = absurd eager
eager_run m e l (sign Semicolon ∷ words) eager = absurd eager
eager_run m e l (sign CloseBrace ∷ words) eager = same_close m e l (at Ended) (at Statement) words
eager_run m e l (word ∷ words) eager = refl

abbrev First : Symbol → List Word → Type 0
First statements us = (vs : List Word) → Eager vs → Eager (us ++ vs)
First statement us = (vs : List Word) → Eager (us ++ vs)
First an_end us = (vs : List Word) → Eager (us ++ vs)
First (ends_from tails) us = (vs : List Word) → Still vs → Tame (us ++ vs)

first : {s : Symbol} {us : List Word} {p : Part} → Derives s us p → First s us
first no_statement = λ vs eager. eager
first (a_statement {words = ws} {others = os} is others) =
    λ vs eager. subst Eager (sym (append_assoc ws os vs)) (first is (os ++ vs))
first (a_statement_semicolon {words = ws} {others = os} is others) =
    λ vs eager. subst Eager (sym (append_assoc ws (sign Semicolon ∷ os) vs)) (first is (sign Semicolon ∷ (os ++ vs)))
first (of_graph attributes lists) = λ vs. tt
first (of_nodes attributes lists) = λ vs. tt
first (of_edges attributes lists) = λ vs. tt
first (assigns key value) = λ vs. tt
first (connects {words = ws} {others = os} {lists = ls} end ends lists) =
    λ vs. subst Eager (sym (append_assoc ws (os ++ ls) vs)) (first end ((os ++ ls) ++ vs))
first (a_node name after) = λ vs. tt
first (a_subgraph braces_alone inside) = λ vs. tt
first (a_subgraph subgraph inside) = λ vs. tt
first (a_subgraph (subgraph_name name) inside) = λ vs. tt
first no_end = λ vs still. tame_still vs still
first (leads_to end ends) = λ vs still. tt

still_lists : {lists : List Word} → AreLists lists → (vs : List Word) → Calm vs → Still (lists ++ vs)
still_lists no_list vs calm = still_calm vs calm
still_lists (a_list attributes others) vs calm = tt

nils : (next : Next) (m : Names) (e : Edges) (l : List Level) (vs : List Word) →
    run (state next m e l) vs ≡ run (state next (m ++ []) (e ++ []) l) vs
nils next m e l vs =
    ap (λ c. run (state next c e l) vs) (sym (append-nil m)) ∙ ap (λ c. run (state next (m ++ []) c l) vs) (sym (append-nil e))

joins : (next : Next) (m p q : Names) (e c d : Edges) (l : List Level) (vs : List Word) →
    run (state next ((m ++ p) ++ q) ((e ++ c) ++ d) l) vs ≡ run (state next (m ++ (p ++ q)) (e ++ (c ++ d)) l) vs
joins next m p q e c d l vs =
    ap (λ x. run (state next x ((e ++ c) ++ d) l) vs) (append_assoc m p q)
    ∙ ap (λ x. run (state next (m ++ (p ++ q)) x l) vs) (append_assoc e c d)

joins_closed : (m p q : Names) (e c d : Edges) (l : List Level) (vs : List Word) →
    run (closed ((m ++ p) ++ q) ((e ++ c) ++ d) l) vs ≡ run (closed (m ++ (p ++ q)) (e ++ (c ++ d)) l) vs
joins_closed m p q e c d l vs =
    ap (λ x. run (closed x ((e ++ c) ++ d) l) vs) (append_assoc m p q)
    ∙ ap (λ x. run (closed (m ++ (p ++ q)) x l) vs) (append_assoc e c d)

-- braces behind what comes before them
module _ (ws vs : List Word) (p : Part) (inside : Goal statements ws p) (m : Names) (e : Edges) (l : List Level) where
  seam : names_in (drop (length m) (m ++ p.mentions)) ≡ nodes_of p
  seam = ap names_in (drop-append_seam m p.mentions)

  braces_run : (tails : Option Names) →
      run (state (at Statement) m e (record { start = length m; tails = tails } ∷ l)) ((ws ++ sign CloseBrace ∷ []) ++ vs)
      ≡ run (state (after_end (ended (length m))) (m ++ p.mentions) (e ++ (p.edges ++ edges_to tails (nodes_of p))) l) vs
  braces_run tails =
      ap (run (state (at Statement) m e (record { start = length m; tails = tails } ∷ l)))
      (append_assoc ws (sign CloseBrace ∷ []) vs)
      ∙ inside m e (record { start = length m; tails = tails } ∷ l) vs
      ∙ ap (λ x. run (state (after_end (ended (length m))) (m ++ p.mentions) x l) vs)
      (ap (λ x. (e ++ p.edges) ++ edges_to tails x) seam ∙ append_assoc e p.edges (edges_to tails (nodes_of p)))

  no_tails : run (state (after_end (ended (length m))) (m ++ p.mentions) (e ++ (p.edges ++ [])) l) vs
      ≡ run (state (after_end (ended (length m))) (m ++ p.mentions) (e ++ p.edges) l) vs
  no_tails = ap (λ x. run (state (after_end (ended (length m))) (m ++ p.mentions) (e ++ x) l) vs) (append-nil p.edges)

  subgraph_run : {head : List Word} → IsSubgraphHead head →
      (run (state (at Statement) m e l) ((head ++ sign OpenBrace ∷ (ws ++ sign CloseBrace ∷ [])) ++ vs)
      ≡ run (state (after_end (ended (length m))) (m ++ p.mentions) (e ++ p.edges) l) vs)
      × ((tails : Names) → run (state (after_arrow tails) m e l) ((head ++ sign OpenBrace ∷ (ws ++ sign CloseBrace ∷ [])) ++ vs)
      ≡ run (state (after_end (ended (length m))) (m ++ p.mentions) (e ++ (p.edges ++ between tails (nodes_of p))) l) vs)
  subgraph_run braces_alone = (braces_run None ∙ no_tails, λ tails. braces_run (Some tails))
  subgraph_run subgraph = (braces_run None ∙ no_tails, λ tails. braces_run (Some tails))
  subgraph_run (subgraph_name name) = (braces_run None ∙ no_tails, λ tails. braces_run (Some tails))

complete : {s : Symbol} {us : List Word} {p : Part} → Derives s us p → Goal s us p
complete no_statement = λ m e l vs.
    ap (λ c. run (closed c e l) vs) (sym (append-nil m)) ∙ ap (λ c. run (closed (m ++ []) c l) vs) (sym (append-nil e))
complete (a_statement {words = ws} {others = os} {part = p} {more = q} is others) = λ m e l vs.
    let eager : Eager (os ++ sign CloseBrace ∷ vs) = first others (sign CloseBrace ∷ vs) tt in
    ap (run (state (at Statement) m e l)) (append_assoc ws os (sign CloseBrace ∷ vs))
    ∙ complete is m e l (os ++ sign CloseBrace ∷ vs) (eager_calm (os ++ sign CloseBrace ∷ vs) eager)
    ∙ eager_run (m ++ p.mentions) (e ++ p.edges) l (os ++ sign CloseBrace ∷ vs) eager
    ∙ complete others (m ++ p.mentions) (e ++ p.edges) l vs
    ∙ joins_closed m p.mentions q.mentions e p.edges q.edges l vs
complete (a_statement_semicolon {words = ws} {others = os} {part = p} {more = q} is others) = λ m e l vs.
    ap (run (state (at Statement) m e l)) (append_assoc ws (sign Semicolon ∷ os) (sign CloseBrace ∷ vs))
    ∙ complete is m e l (sign Semicolon ∷ (os ++ sign CloseBrace ∷ vs)) tt
    ∙ complete others (m ++ p.mentions) (e ++ p.edges) l vs
    ∙ joins_closed m p.mentions q.mentions e p.edges q.edges l vs
complete (of_graph attributes lists) = λ m e l vs calm.
    keyword_run m e l attributes lists vs calm ∙ nils (at Ended) m e l vs
complete (of_nodes attributes lists) = λ m e l vs calm.
    keyword_run m e l attributes lists vs calm ∙ nils (at Ended) m e l vs
complete (of_edges attributes lists) = λ m e l vs calm.
    keyword_run m e l attributes lists vs calm ∙ nils (at Ended) m e l vs
complete (assigns key value) = λ m e l vs calm.
    ap (λ c. run (state (at Ended) c e l) vs) (take-append_seam m (key ∷ [])) ∙ nils (at Ended) m e l vs
complete (connects {words = ws} {others = os} {lists = ls} {part = p} {more = q} end ends lists) = λ m e l vs calm.
    let still : Still (ls ++ vs) = still_lists lists vs calm in
    let behind = complete ends (m ++ p.mentions) (e ++ p.edges) l (length m)
    (ap names_in (drop-append_seam m p.mentions)) (ls ++ vs) still in
    ap (run (state (at Statement) m e l)) (append_assoc ws (os ++ ls) vs ∙ ap (λ x. ws ++ x) (append_assoc os ls vs))
    ∙ (complete end m e l (os ++ (ls ++ vs)) (first ends (ls ++ vs) still)).0
    ∙ behind.1
    ∙ end_lists_run ((m ++ p.mentions) ++ q.mentions) ((e ++ p.edges) ++ q.edges) l behind.0 lists vs calm
    ∙ joins (at Ended) m p.mentions q.mentions e p.edges q.edges l vs
complete (a_node name after) = λ m e l vs tame. (
  port_run (m ++ name ∷ []) e l (length m) true after vs tame
      ∙ ap (λ c. run (state (after_end (ended (length m))) (m ++ name ∷ []) c l) vs) (sym (append-nil e)),
  λ tails. port_run (m ++ name ∷ []) (e ++ between tails (name ∷ [])) l (length m) false after vs tame,
)
complete (a_subgraph {head = head} {words = ws} {part = p} is inside) = λ m e l vs tame.
    subgraph_run ws vs p (complete inside) m e l is
complete no_end = λ m e l start is vs still. (start, nils (after_end (ended start)) m e l vs)
complete (leads_to {tails = tails} {words = ws} {others = os} {part = p} {more = q} end ends) = λ m e l start is vs still.
    let more = between tails (nodes_of p) in
    let behind = complete ends (m ++ p.mentions) (e ++ (p.edges ++ more)) l (length m)
    (ap names_in (drop-append_seam m p.mentions)) vs still in (
      behind.0,
      ap (λ t. run (state (after_arrow t) m e l) ((ws ++ os) ++ vs)) is
          ∙ ap (run (state (after_arrow tails) m e l)) (append_assoc ws os vs)
          ∙ (complete end m e l (os ++ vs) (first ends vs still)).1 tails
          ∙ behind.1
          ∙ joins (after_end (ended behind.0)) m p.mentions q.mentions e (p.edges ++ more) q.edges l vs
          ∙ ap (λ c. run (state (after_end (ended behind.0)) (m ++ (p.mentions ++ q.mentions)) (e ++ c) l) vs)
          (append_assoc p.edges more q.edges),
    )

-- a reader takes the words of each graph
pub graph_is_run : (words : List Word) (p : Part) → IsGraph words p →
    run start words ≡ Some (state (at Done) p.mentions p.edges [])
graph_is_run words p graph =
    ap (run start) graph.words_are ∙ by graph.is_head
  where
    by : {head : List Word} → IsGraphHead head →
        run start (head ++ sign OpenBrace ∷ (graph.inside ++ sign CloseBrace ∷ []))
        ≡ Some (state (at Done) p.mentions p.edges [])
    by digraph = complete graph.are_statements [] [] [] []
    by (digraph_name name) = complete graph.are_statements [] [] [] []
    by strict_digraph = complete graph.are_statements [] [] [] []
    by (strict_digraph_name name) = complete graph.are_statements [] [] [] []

pub run_append : (s : State) (words others : List Word) →
    run s (words ++ others) ≡ option_and_then (λ t. run t others) (run s words)
run_append s [] others = refl
run_append s (word ∷ words) others = by (step s word) (λ t. run_append t words others)
  where
    by : (next : Option State) →
        ((t : State) → run t (words ++ others) ≡ option_and_then (λ u. run u others) (run t words)) →
        option_and_then (λ t. run t (words ++ others)) next
        ≡ option_and_then (λ t. run t others) (option_and_then (λ t. run t words) next)
    by None more = refl
    by (Some t) more = more t

-- words that no reader takes begin no graph
pub no_graph_begins : (words : List Word) → run start words ≡ None → ¬ CanBegin words
no_graph_begins words none begins =
    none-some (state (at Done) begins.part.mentions begins.part.edges []) (sym (sym (graph_is_run (words ++ begins.rest) begins.part begins.is_graph)
    ∙ run_append start words begins.rest ∙ ap (option_and_then (λ t. run t begins.rest)) none))

-- ---- each state can go on to a graph

abbrev GoesOn : State → Type 0
GoesOn s = (words : List Word) × (last : State) × (run s words ≡ Some last) × (last.next ≡ at Done)

go_on : (s t : State) (word : Word) → step s word ≡ Some t → GoesOn t → GoesOn s
go_on s t word is (words, last, ran, done) =
    (word ∷ words, last, ap (option_and_then (λ t. run t words)) is ∙ ran, done)

close_all : (l : List Level) (next : Next) (m : Names) (e : Edges) → GoesOn (closing (state next m e l) l)
close_all [] next m e = ([], state (at Done) m e [], refl, refl)
close_all (level ∷ outer) next m e =
    let there = close_all outer (after_end (ended level.start)) m (e ++ edges_to level.tails (names_in (drop level.start m))) in
    (sign CloseBrace ∷ there.0, there.1, there.2, there.3)

module _ (m : Names) (e : Edges) (l : List Level) where
  close : (next : Next) → step (state next m e l) (sign CloseBrace) ≡ Some (closing (state next m e l) l) →
      GoesOn (state next m e l)
  close next is = go_on (state next m e l) (closing (state next m e l) l) (sign CloseBrace) is (close_all l next m e)

  list_goes : GoesOn (state (at AfterList) m e l)
  list_goes = close (at AfterList) refl

  in_list_goes : GoesOn (state (at InList) m e l)
  in_list_goes = go_on (state (at InList) m e l) (state (at AfterList) m e l) (sign CloseBracket) refl list_goes

  value_goes : GoesOn (state (at AfterValue) m e l)
  value_goes = go_on (state (at AfterValue) m e l) (state (at AfterList) m e l) (sign CloseBracket) refl list_goes

  key_equal_goes : GoesOn (state (at AfterKeyEqual) m e l)
  key_equal_goes = go_on (state (at AfterKeyEqual) m e l) (state (at AfterValue) m e l) (id []) refl value_goes

open_goes : (tails : Option Names) (is_named : Bool) (m : Names) (e : Edges) (l : List Level) →
    step (state (after_subgraph tails is_named) m e l) (sign OpenBrace)
    ≡ Some (state (at Statement) m e (record { start = length m; tails = tails } ∷ l)) →
    GoesOn (state (after_subgraph tails is_named) m e l)
open_goes tails is_named m e l is =
    let inner : List Level = record { start = length m; tails = tails } ∷ l in
    go_on (state (after_subgraph tails is_named) m e l) (state (at Statement) m e inner) (sign OpenBrace) is
    (close m e inner (at Statement) refl)

goes_on : (next : Next) (m : Names) (e : Edges) (l : List Level) → GoesOn (state next m e l)
goes_on (at Statement) m e l = close m e l (at Statement) refl
goes_on (at Ended) m e l = close m e l (at Ended) refl
goes_on (at AfterList) m e l = list_goes m e l
goes_on (at AfterEqual) m e l =
    go_on (state (at AfterEqual) m e l) (state (at Ended) m e l) (id []) refl (close m e l (at Ended) refl)
goes_on (at AfterKeyword) m e l =
    go_on (state (at AfterKeyword) m e l) (state (at InList) m e l) (sign OpenBracket) refl (in_list_goes m e l)
goes_on (at InList) m e l = in_list_goes m e l
goes_on (at AfterKey) m e l =
    go_on (state (at AfterKey) m e l) (state (at AfterKeyEqual) m e l) (sign Equal) refl (key_equal_goes m e l)
goes_on (at AfterKeyEqual) m e l = key_equal_goes m e l
goes_on (at AfterValue) m e l = value_goes m e l
goes_on (at Done) m e l = ([], state (at Done) m e l, refl, refl)
goes_on (at AfterName) m e l =
    go_on (state (at AfterName) m e l) (state (at Statement) m e l) (sign OpenBrace) refl (close m e l (at Statement) refl)
goes_on (at AfterDigraph) m e l =
    go_on (state (at AfterDigraph) m e l) (state (at Statement) m e l) (sign OpenBrace) refl (close m e l (at Statement) refl)
goes_on (at AfterStrict) m e l =
    go_on (state (at AfterStrict) m e l) (state (at AfterDigraph) m e l) (sign Digraph) refl
    (goes_on_digraph m e l)
  where
    goes_on_digraph : (m : Names) (e : Edges) (l : List Level) → GoesOn (state (at AfterDigraph) m e l)
    goes_on_digraph m e l =
        go_on (state (at AfterDigraph) m e l) (state (at Statement) m e l) (sign OpenBrace) refl (close m e l (at Statement) refl)
goes_on (at Begin) m e l =
    go_on (state (at Begin) m e l) (state (at AfterDigraph) m e l) (sign Digraph) refl
    (go_on (state (at AfterDigraph) m e l) (state (at Statement) m e l) (sign OpenBrace) refl (close m e l (at Statement) refl))
goes_on (after_end end) m e l = close m e l (after_end end) refl
goes_on (after_colon end) m e l =
    let after : End = record { start = end.start; may_be_name = false; colons = end.colons } in
    go_on (state (after_colon end) m e l) (state (after_end after) m e l) (id []) refl (close m e l (after_end after) refl)
goes_on (after_arrow tails) m e l =
    let after : Next = after_end (record { start = length m; may_be_name = false; colons = 2 }) in
    go_on (state (after_arrow tails) m e l) (state after (m ++ [] ∷ []) (e ++ between tails ([] ∷ [])) l) (id []) refl
    (close (m ++ [] ∷ []) (e ++ between tails ([] ∷ [])) l after refl)
goes_on (after_subgraph tails true) m e l = open_goes tails true m e l refl
goes_on (after_subgraph tails false) m e l = open_goes tails false m e l refl

-- words that a reader takes can begin a graph
pub run_can_begin : (words : List Word) (s : State) → run start words ≡ Some s → CanBegin words
run_can_begin words s ran =
    let more = goes_on s.next s.mentions s.edges s.levels in record {
      rest = more.0;
      part = record { mentions = more.1.mentions; edges = more.1.edges };
      is_graph = run_is_graph (words ++ more.0) more.1
          (run_append start words more.0 ∙ ap (option_and_then (λ t. run t more.0)) ran ∙ more.2) more.3;
    }
