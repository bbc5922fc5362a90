-- What is left of words from a place in a production on, and what a state says of it.
use Rattle.std.specs.Prelude.{drop, length, take}
use Rattle.std.proofs.Common.{◌≡◌, ◌<◌, ◌≤◌, ℕ, ◌-◌, Bool, true, false, Option, None, Some, List, [], ◌∷◌, ◌++◌, refl, sym, ap, ◌∙◌, arith, subst, ◌⊎◌, append_assoc}
use Rattle.std.proofs.lemmas.Bool.{false≢true}
use Rattle.files_text.specs.Names.{names_in}
use Rattle.files_dot.specs.Graphs.{AreAttributes, AreLists, Derives, IsPort, IsSubgraphHead, Part, an_end, between, both, ends_from, nodes_of, nothing, statement, statements}
use Rattle.files_dot.specs.Graphs.AreAttributes.{attribute, attribute_comma, attribute_semicolon}
use Rattle.files_dot.specs.Graphs.AreLists.{a_list, no_list}
use Rattle.files_dot.specs.Graphs.Derives.{a_node, a_subgraph, assigns, connects, leads_to, no_end, a_statement, a_statement_semicolon}
use Rattle.files_dot.specs.Graphs.IsPort.{no_port, port, port_point}
use Rattle.files_dot.specs.Graphs.IsSubgraphHead.{subgraph, subgraph_name}
use Rattle.files_dot.specs.Reading.{End, Level, Next, State, after_arrow, after_colon, after_end, after_subgraph, at, closing, edges_to, run}
use Rattle.files_dot.specs.Tokens.{Word, id, sign}
use Rattle.files_dot.specs.declared.stage.Stage.TheVariants.{AfterEqual, AfterKey, AfterKeyEqual, AfterKeyword, AfterList, AfterValue, Ended, InList, Statement}
use Rattle.files_dot.specs.declared.token.Mark.{Mark}
use Rattle.files_dot.specs.declared.token.Mark.TheVariants.{Arrow, CloseBrace, CloseBracket, Colon, Comma, Equal, OpenBrace, OpenBracket, Semicolon, Subgraph}

abbrev pub Names : Type 0
Names = List (List ℕ)

abbrev pub Edges : Type 0
Edges = List (List ℕ × List ℕ)

abbrev pub Language : Type 1
Language = List Word → Part → Type 0

abbrev pub state : Next → Names → Edges → List Level → State
state next m e l = record { next = next; mentions = m; edges = e; levels = l }

abbrev pub closed : Names → Edges → List Level → State
closed m e l = closing (state (at Statement) m e l) l

-- ---- what is left of the innermost braces, from a place in a production on

pub data Rest : List Word → Part → Type 0 where
  goes_on : {us : List Word} {p : Part} → Derives statements us p → Rest us p
  semicolon : {us : List Word} {p : Part} → Derives statements us p → Rest (sign Semicolon ∷ us) p

pub data ListsRest : List Word → Part → Type 0 where
  lists_rest : {ls us : List Word} {p : Part} → AreLists ls → Rest us p → ListsRest (ls ++ us) p

pub data EndRest (tails : Names) : List Word → Part → Type 0 where
  end_rest : {es us : List Word} {p q : Part} → Derives (ends_from tails) es p → ListsRest us q →
      EndRest tails (es ++ us) (both p q)

pub data InRest : List Word → Part → Type 0 where
  in_rest : {attrs us : List Word} {p : Part} → AreAttributes attrs → ListsRest us p →
      InRest (attrs ++ sign CloseBracket ∷ us) p

pub data ValueRest : List Word → Part → Type 0 where
  plain : {us : List Word} {p : Part} → InRest us p → ValueRest us p
  parted : {us : List Word} {p : Part} → InRest us p → ValueRest (sign Semicolon ∷ us) p
  parted_comma : {us : List Word} {p : Part} → InRest us p → ValueRest (sign Comma ∷ us) p

pub data KeyEqualRest : List Word → Part → Type 0 where
  a_value : {us : List Word} {p : Part} (value : List ℕ) → ValueRest us p → KeyEqualRest (id value ∷ us) p

pub data KeyRest : List Word → Part → Type 0 where
  an_equal : {us : List Word} {p : Part} → KeyEqualRest us p → KeyRest (sign Equal ∷ us) p

pub data KeywordRest : List Word → Part → Type 0 where
  a_bracket : {us : List Word} {p : Part} → InRest us p → KeywordRest (sign OpenBracket ∷ us) p

pub data EqualRest : List Word → Part → Type 0 where
  the_value : {us : List Word} {p : Part} (value : List ℕ) → Rest us p → EqualRest (id value ∷ us) p

abbrev pub port_words : Names → List Word
port_words [] = []
port_words (name ∷ names) = sign Colon ∷ id name ∷ port_words names

pub record NodeRest (n : ℕ) (tails : Names) (us : List Word) (p : Part) : Type 0 where
  pub names : Names
  pub others : List Word
  pub few : length names ≤ n
  pub us_is : us ≡ port_words names ++ others
  pub rest : EndRest tails others p

pub data ColonRest (n : ℕ) (tails : Names) : List Word → Part → Type 0 where
  the_port : {us : List Word} {p : Part} (name : List ℕ) → NodeRest n tails us p → ColonRest n tails (id name ∷ us) p

abbrev pub arrow_part : Edges → Part → Part → Part
arrow_part more p q = record { mentions = p.mentions ++ q.mentions; edges = p.edges ++ (more ++ q.edges) }

pub data ArrowRest (tails : Names) : List Word → Part → Type 0 where
  arrow_rest : {ws us : List Word} {p q : Part} → Derives an_end ws p → EndRest (nodes_of p) us q →
      ArrowRest tails (ws ++ us) (arrow_part (between tails (nodes_of p)) p q)

pub data BraceRest (tails : Option Names) : List Word → Part → Type 0 where
  brace_rest : {ws us : List Word} {p q : Part} → Derives statements ws p → EndRest (nodes_of p) us q →
      BraceRest tails (ws ++ sign CloseBrace ∷ us) (arrow_part (edges_to tails (nodes_of p)) p q)

pub data SubRest (tails : Option Names) : Bool → List Word → Part → Type 0 where
  sub_rest : {us : List Word} {p : Part} (is_named : Bool) → BraceRest tails us p →
      SubRest tails is_named (sign OpenBrace ∷ us) p
  named_rest : {us : List Word} {p : Part} (name : List ℕ) → BraceRest tails us p →
      SubRest tails false (id name ∷ sign OpenBrace ∷ us) p

pub cast : (R : Language) {us vs : List Word} (p q : Part) → us ≡ vs → p.mentions ≡ q.mentions → p.edges ≡ q.edges →
    R us p → R vs q
cast R {us = us} p q words mentions edges r =
    subst (λ w. R w q) words
    (subst (λ e. R us (record { mentions = q.mentions; edges = e })) edges
    (subst (λ m. R us (record { mentions = m; edges = p.edges })) mentions r))

-- ---- productions of what is left

pub no_lists : {us : List Word} {p : Part} → Rest us p → ListsRest us p
no_lists rest = lists_rest no_list rest

pub no_ends : {tails : Names} {us : List Word} {p : Part} → ListsRest us p → EndRest tails us p
no_ends rest = end_rest no_end rest

pub no_ports : {n : ℕ} {tails : Names} {us : List Word} {p : Part} → EndRest tails us p → NodeRest n tails us p
no_ports {us = us} rest = record { names = []; others = us; few = omega arith; us_is = refl; rest = rest }

pub more_lists : {us : List Word} {p : Part} → InRest us p → ListsRest (sign OpenBracket ∷ us) p
more_lists {p = p} (in_rest {attrs = attrs} attributes (lists_rest {ls = ls} {us = us} lists rest)) =
    subst (λ w. ListsRest w p) (ap (λ w. sign OpenBracket ∷ w) (append_assoc attrs (sign CloseBracket ∷ ls) us))
    (lists_rest (a_list attributes lists) rest)

pub a_key : {us : List Word} {p : Part} (key : List ℕ) → KeyRest us p → InRest (id key ∷ us) p
a_key key (an_equal (a_value value (plain (in_rest attributes rest)))) = in_rest (attribute key value attributes) rest
a_key key (an_equal (a_value value (parted (in_rest attributes rest)))) =
    in_rest (attribute_semicolon key value attributes) rest
a_key key (an_equal (a_value value (parted_comma (in_rest attributes rest)))) =
    in_rest (attribute_comma key value attributes) rest

pub first_end : {ws us : List Word} {p q : Part} → Derives an_end ws p → EndRest (nodes_of p) us q →
    Derives statements (ws ++ us) (both p q)
first_end {ws = ws} {p = p} end (end_rest {es = es} {p = p1} {q = q} ends (lists_rest {ls = ls} {us = us} lists (goes_on others))) =
    cast (Derives statements) (both (both p p1) q) (both p (both p1 q))
    (append_assoc ws (es ++ ls) us ∙ ap (λ w. ws ++ w) (append_assoc es ls us))
    (append_assoc p.mentions p1.mentions q.mentions) (append_assoc p.edges p1.edges q.edges)
    (a_statement (connects end ends lists) others)
first_end {ws = ws} {p = p} end (end_rest {es = es} {p = p1} {q = q} ends (lists_rest {ls = ls} lists (semicolon {us = us} others))) =
    cast (Derives statements) (both (both p p1) q) (both p (both p1 q))
    (append_assoc ws (es ++ ls) (sign Semicolon ∷ us) ∙ ap (λ w. ws ++ w) (append_assoc es ls (sign Semicolon ∷ us)))
    (append_assoc p.mentions p1.mentions q.mentions) (append_assoc p.edges p1.edges q.edges)
    (a_statement_semicolon (connects end ends lists) others)

pub next_end : {tails : Names} {us : List Word} {p : Part} → ArrowRest tails us p → EndRest tails (sign Arrow ∷ us) p
next_end {tails = tails} (arrow_rest {ws = ws} {p = p} end (end_rest {es = es} {us = us} {p = p1} {q = q} ends rest)) =
    let more = between tails (nodes_of p) in
    cast (EndRest tails) (both (arrow_part more p p1) q) (arrow_part more p (both p1 q))
    (ap (λ w. sign Arrow ∷ w) (append_assoc ws es us))
    (append_assoc p.mentions p1.mentions q.mentions)
    (append_assoc p.edges (more ++ p1.edges) q.edges ∙ ap (λ w. p.edges ++ w) (append_assoc more p1.edges q.edges))
    (end_rest (leads_to end ends) rest)

pub of_keyword : (mark : Mark) → ((attrs ls : List Word) → AreAttributes attrs → AreLists ls →
    Derives statement (sign mark ∷ sign OpenBracket ∷ (attrs ++ sign CloseBracket ∷ ls)) nothing) →
    {us : List Word} {p : Part} → KeywordRest us p → Derives statements (sign mark ∷ us) p
of_keyword mark make {p = p} (a_bracket (in_rest {attrs = attrs} attributes (lists_rest {ls = ls} {us = us} lists (goes_on others)))) =
    subst (λ w. Derives statements (sign mark ∷ sign OpenBracket ∷ w) p) (append_assoc attrs (sign CloseBracket ∷ ls) us)
    (a_statement (make attrs ls attributes lists) others)
of_keyword mark make {p = p} (a_bracket (in_rest {attrs = attrs} attributes (lists_rest {ls = ls} lists (semicolon {us = us} others)))) =
    subst (λ w. Derives statements (sign mark ∷ sign OpenBracket ∷ w) p)
    (append_assoc attrs (sign CloseBracket ∷ ls) (sign Semicolon ∷ us))
    (a_statement_semicolon (make attrs ls attributes lists) others)

pub of_equal : {us : List Word} {p : Part} (key : List ℕ) → EqualRest us p → Derives statements (id key ∷ sign Equal ∷ us) p
of_equal key (the_value value (goes_on others)) = a_statement (assigns key value) others
of_equal key (the_value value (semicolon others)) = a_statement_semicolon (assigns key value) others

pub is_port : (names : Names) → length names ≤ 2 → IsPort (port_words names)
is_port [] few = no_port
is_port (a ∷ []) few = port a
is_port (a ∷ b ∷ []) few = port_point a b
is_port (a ∷ b ∷ c ∷ names) few = absurd (omega (arith, few))

abbrev pub node : List ℕ → Part
node name = record { mentions = name ∷ []; edges = [] }

pub first_node : {us : List Word} {q : Part} (name : List ℕ) → NodeRest 2 (name ∷ []) us q →
    Derives statements (id name ∷ us) (both (node name) q)
first_node {q = q} name left =
    subst (λ w. Derives statements (id name ∷ w) (both (node name) q)) (sym left.us_is)
    (first_end (a_node name (is_port left.names left.few)) left.rest)

pub next_node : {tails : Names} {us : List Word} {q : Part} (name : List ℕ) → NodeRest 2 (name ∷ []) us q →
    ArrowRest tails (id name ∷ us) (arrow_part (between tails (name ∷ [])) (node name) q)
next_node {tails = tails} {q = q} name left =
    subst (λ w. ArrowRest tails (id name ∷ w) (arrow_part (between tails (name ∷ [])) (node name) q)) (sym left.us_is)
    (arrow_rest (a_node name (is_port left.names left.few)) left.rest)

pub zero_ports : {tails : Names} {us : List Word} {q : Part} → NodeRest 0 tails us q → EndRest tails us q
zero_ports {tails = tails} {us = us} {q = q} left = by left.names left.few left.us_is
  where
    by : (names : Names) → length names ≤ 0 → us ≡ port_words names ++ left.others → EndRest tails us q
    by [] few is = subst (λ w. EndRest tails w q) (sym is) left.rest
    by (a ∷ names) few is = absurd (omega (arith, few))

pub more_ports : {n : ℕ} {tails : Names} {us : List Word} {q : Part} → 0 < n → ColonRest (n - 1) tails us q →
    NodeRest n tails (sign Colon ∷ us) q
more_ports some (the_port name left) = record {
  names = name ∷ left.names;
  others = left.others;
  few = omega (arith, left.few, some);
  us_is = ap (λ w. sign Colon ∷ id name ∷ w) left.us_is;
  rest = left.rest;
}

pub brace_words : (ws us : List Word) → (ws ++ sign CloseBrace ∷ []) ++ us ≡ ws ++ sign CloseBrace ∷ us
brace_words ws us = append_assoc ws (sign CloseBrace ∷ []) us

-- braces behind what may come before them
module _ {head : List Word} (is : IsSubgraphHead head) where
  pub first_braces : {us : List Word} {p : Part} → BraceRest None us p → Derives statements (head ++ sign OpenBrace ∷ us) p
  first_braces (brace_rest {ws = ws} {us = us} {p = p} {q = q} inside rest) =
      subst (λ w. Derives statements w (both p q)) (append_assoc head (sign OpenBrace ∷ (ws ++ sign CloseBrace ∷ [])) us
      ∙ ap (λ w. head ++ sign OpenBrace ∷ w) (brace_words ws us)) (first_end (a_subgraph is inside) rest)

  pub next_braces : {tails : Names} {us : List Word} {p : Part} → BraceRest (Some tails) us p →
      ArrowRest tails (head ++ sign OpenBrace ∷ us) p
  next_braces {tails = tails} (brace_rest {ws = ws} {us = us} {p = p} {q = q} inside rest) =
      subst (λ w. ArrowRest tails w (arrow_part (between tails (nodes_of p)) p q))
      (append_assoc head (sign OpenBrace ∷ (ws ++ sign CloseBrace ∷ [])) us
      ∙ ap (λ w. head ++ sign OpenBrace ∷ w) (brace_words ws us)) (arrow_rest (a_subgraph is inside) rest)

pub first_sub : {us : List Word} {p : Part} → SubRest None false us p → Derives statements (sign Subgraph ∷ us) p
first_sub (sub_rest is_named rest) = first_braces subgraph rest
first_sub (named_rest name rest) = first_braces (subgraph_name name) rest

pub next_sub : {tails : Names} {us : List Word} {p : Part} → SubRest (Some tails) false us p →
    ArrowRest tails (sign Subgraph ∷ us) p
next_sub (sub_rest is_named rest) = next_braces subgraph rest
next_sub (named_rest name rest) = next_braces (subgraph_name name) rest

pub name_it : {tails : Option Names} {us : List Word} {p : Part} (name : List ℕ) → SubRest tails true us p →
    SubRest tails false (id name ∷ us) p
name_it name left = by true refl left
  where
    by : {tails : Option Names} {us : List Word} {p : Part} (b : Bool) → b ≡ true → SubRest tails b us p →
        SubRest tails false (id name ∷ us) p
    by b is (sub_rest is_named rest) = named_rest name rest
    by b is (named_rest other rest) = absurd (false≢true is)

-- ---- what a state says of the words behind it

pub record Sound (R : Language) (m : Names) (e : Edges) (l : List Level) (words : List Word) (final : State) : Type 0 where
  pub us : List Word
  pub vs : List Word
  pub part : Part
  pub cut : words ≡ us ++ sign CloseBrace ∷ vs
  pub derived : R us part
  pub closes : run (closed (m ++ part.mentions) (e ++ part.edges) l) vs ≡ Some final

pub record Assigns (end : End) (m : Names) (e : Edges) (l : List Level) (words : List Word) (final : State) : Type 0 where
  pub may_be : end.may_be_name ≡ true
  pub rest : List Word
  pub words_are : words ≡ sign Equal ∷ rest
  pub sound : Sound EqualRest (take end.start m) e l rest final

abbrev pub Claim : Next → Names → Edges → List Level → List Word → State → Type 0
Claim (at Statement) m e l words final = Sound (Derives statements) m e l words final
Claim (at Ended) m e l words final = Sound Rest m e l words final
Claim (at AfterList) m e l words final = Sound ListsRest m e l words final
Claim (at AfterEqual) m e l words final = Sound EqualRest m e l words final
Claim (at AfterKeyword) m e l words final = Sound KeywordRest m e l words final
Claim (at InList) m e l words final = Sound InRest m e l words final
Claim (at AfterKey) m e l words final = Sound KeyRest m e l words final
Claim (at AfterKeyEqual) m e l words final = Sound KeyEqualRest m e l words final
Claim (at AfterValue) m e l words final = Sound ValueRest m e l words final
Claim (at stage) m e l words final = Unit {0}
Claim (after_end end) m e l words final =
    Sound (NodeRest end.colons (names_in (drop end.start m))) m e l words final ⊎ Assigns end m e l words final
Claim (after_colon end) m e l words final =
    Sound (ColonRest end.colons (names_in (drop end.start m))) m e l words final
Claim (after_arrow tails) m e l words final = Sound (ArrowRest tails) m e l words final
Claim (after_subgraph tails is_named) m e l words final = Sound (SubRest tails is_named) m e l words final

pub under : (R T : Language) (word : Word) → ((us : List Word) (p : Part) → R us p → T (word ∷ us) p) →
    {m : Names} {e : Edges} {l : List Level} {words : List Word} {final : State} → Sound R m e l words final →
    Sound T m e l (word ∷ words) final
under R T word make left = record {
  us = word ∷ left.us;
  vs = left.vs;
  part = left.part;
  cut = ap (λ w. word ∷ w) left.cut;
  derived = make left.us left.part left.derived;
  closes = left.closes;
}

pub same_words : (R T : Language) → ((us : List Word) (p : Part) → R us p → T us p) →
    {m : Names} {e : Edges} {l : List Level} {words : List Word} {final : State} → Sound R m e l words final →
    Sound T m e l words final
same_words R T make left = record {
  us = left.us;
  vs = left.vs;
  part = left.part;
  cut = left.cut;
  derived = make left.us left.part left.derived;
  closes = left.closes;
}

pub closing_same : (a b : Next) (m : Names) (e : Edges) (l k : List Level) →
    closing (state a m e k) l ≡ closing (state b m e k) l
closing_same a b m e [] k = refl
closing_same a b m e (level ∷ outer) k = refl
