-- The flow graph of a text of two lines, and what is written of its live variables, worked out by hand.
use Rattle.std.specs.Prelude.{codes, slice_get, All, Contains}
use Rattle.std.proofs.Common.{◌≡◌, ◌<◌, inl, inr, true, false, ℕ, zero, suc, Option, None, Some, List, [], ◌∷◌, refl, sym, ap, get_or, arith}
use Rattle.std.proofs.lemmas.List.Elements.{All-from_recursion}
use Rattle.std.proofs.lemmas.Option.{none-some, same_Some}
use Rattle.vob_flow.specs.declared.live.Flow.{Flow}
use Rattle.files_text.specs.Names.{names_in}
use Rattle.files_text.specs.Words.{Token, is_letter}
use Rattle.files_text.specs.Words.AreWords.{none, white, line_feed, word}
use Rattle.files_text.proofs.ListLemmas.{first_or_later, nothing}
use Rattle.files_flow.specs.declared.nodes.Kind.{Kind}
use Rattle.files_flow.specs.declared.nodes.Kind.TheVariants.{Reads, Writes, Next}
use Rattle.files_flow.specs.FlowText.{sides_text}
use Rattle.files_flow.specs.Flows.{AreFlows, AreNumbers, list_of, names_for, said_of, variables_in}
use Rattle.files_flow.specs.Nodes.{AreWordsOf, HasNodes, IsName, Mention}
use Rattle.files_flow.specs.Nodes.AreClosed.{nothing as no_part}
use Rattle.files_flow.specs.Nodes.AreNodes.{no_node, node}
use Rattle.files_flow.specs.Nodes.IsPart.{keyed}

-- the bytes of `a: next b`, of a line feed, and of `b: reads v`
abbrev text : List ℕ
text = 97 ∷ 58 ∷ 32 ∷ 110 ∷ 101 ∷ 120 ∷ 116 ∷ 32 ∷ 98 ∷ 10
    ∷ 98 ∷ 58 ∷ 32 ∷ 114 ∷ 101 ∷ 97 ∷ 100 ∷ 115 ∷ 32 ∷ 118 ∷ []

abbrev said : List ℕ → (line column : ℕ) → Token
said text line column = record { text = text; line = line; column = column }

abbrev names : List (List ℕ)
names = codes "a" ∷ codes "b" ∷ []

abbrev words : List Token
words = said (codes "a") 1 1 ∷ said (codes ":") 1 2 ∷ said (codes "next") 1 4 ∷ said (codes "b") 1 9
    ∷ said (codes "b") 2 1 ∷ said (codes ":") 2 2 ∷ said (codes "reads") 2 4 ∷ said (codes "v") 2 10 ∷ []

-- node 0 leads to b, and node 1 reads v
abbrev mentions : List Mention
mentions = record { node = 0; kind = Next; name = said (codes "b") 1 9 }
    ∷ record { node = 1; kind = Reads; name = said (codes "v") 2 10 } ∷ []

abbrev IsLetter : ℕ → Type 0
IsLetter byte = is_letter (codes ":;,") byte ≡ true

-- a letter by itself
alone : (x : ℕ) → is_letter (codes ":;,") x ≡ true → All IsLetter (x ∷ [])
alone x is = All-from_recursion IsLetter (x ∷ []) (is, tt)

are_words : AreWordsOf text words
are_words =
    word 97 [] (λ same. omega (arith, same), refl) (inr (alone 97 refl, refl))
    (word 58 [] (λ same. omega (arith, same), refl) (inl (refl, refl)) (white refl (λ same. omega (arith, same))
    (word 110 (101 ∷ 120 ∷ 116 ∷ []) (λ same. omega (arith, same), refl)
    (inr (All-from_recursion IsLetter (110 ∷ 101 ∷ 120 ∷ 116 ∷ []) (refl, (refl, (refl, (refl, tt)))), refl))
    (white refl (λ same. omega (arith, same))
    (word 98 [] (λ same. omega (arith, same), refl) (inr (alone 98 refl, refl)) (line_feed
    (word 98 [] (λ same. omega (arith, same), refl) (inr (alone 98 refl, refl))
    (word 58 [] (λ same. omega (arith, same), refl) (inl (refl, refl)) (white refl (λ same. omega (arith, same))
    (word 114 (101 ∷ 97 ∷ 100 ∷ 115 ∷ []) (λ same. omega (arith, same), refl)
    (inr (All-from_recursion IsLetter (114 ∷ 101 ∷ 97 ∷ 100 ∷ 115 ∷ []) (refl, (refl, (refl, (refl, (refl, tt))))), refl))
    (white refl (λ same. omega (arith, same))
    (word 118 [] (λ same. omega (arith, same), refl) (inr (alone 118 refl, tt)) none))))))))))))

is_name : (byte line column : ℕ) → 60 < byte → IsName (said (byte ∷ []) line column)
is_name byte line column less = (
  (λ same. omega (arith, less, ap (λ l. get_or l 0 0) same)),
  (λ same. omega (arith, less, ap (λ l. get_or l 0 0) same)),
  (λ same. omega (arith, less, ap (λ l. get_or l 0 0) same)),
)

abbrev line_or : Option ℕ → ℕ
line_or None = 0
line_or (Some line) = line

-- the words are the lines of two nodes
has_nodes : HasNodes text names mentions
has_nodes = record {
  words = words;
  are_words = are_words;
  last = Some 2;
  part = Some Reads;
  are_nodes = node (said (codes "b") 2 1) (said (codes ":") 2 2)
      (node (said (codes "a") 1 1) (said (codes ":") 1 2) no_node
      (is_name 97 1 1 (omega arith), (λ same. omega (arith, ap line_or same)), nothing (codes "a")) refl no_part
      (keyed {kind = Next} {key = said (codes "next") 1 4} {names = said (codes "b") 1 9 ∷ []} refl
      (All-from_recursion IsName (said (codes "b") 1 9 ∷ []) (is_name 98 1 9 (omega arith), tt)))
      (All-from_recursion (λ (word : Token). word.line ≡ 1) (said (codes ":") 1 2 ∷ said (codes "next") 1 4 ∷ said (codes "b") 1 9 ∷ [])
      (refl, (refl, (refl, tt)))))
      (is_name 98 2 1 (omega arith), (λ same. omega (arith, ap line_or same)), second) refl no_part
      (keyed {kind = Reads} {key = said (codes "reads") 2 4} {names = said (codes "v") 2 10 ∷ []} refl
      (All-from_recursion IsName (said (codes "v") 2 10 ∷ []) (is_name 118 2 10 (omega arith), tt)))
      (All-from_recursion (λ (word : Token). word.line ≡ 2) (said (codes ":") 2 2 ∷ said (codes "reads") 2 4 ∷ said (codes "v") 2 10 ∷ [])
      (refl, (refl, (refl, tt))));
}
  where
    second : ¬ Contains (codes "a" ∷ []) (codes "b")
    second there = elim (first_or_later (codes "a") [] (codes "b") there) [
      | inl same ↦ omega (arith, ap (λ l. get_or l 0 0) same)
      | inr later ↦ nothing (codes "b") later
    ]

-- v is the variable
variables : variables_in mentions ≡ codes "v" ∷ []
variables = refl

-- nodes have the numbers of what is said of each
module _ (a b : Flow) (a_next : a.next.items ≡ 1 ∷ []) (a_reads : a.reads.items ≡ []) (a_writes : a.writes.items ≡ [])
    (b_next : b.next.items ≡ []) (b_reads : b.reads.items ≡ 0 ∷ []) (b_writes : b.writes.items ≡ []) where
  are_flows : AreFlows names (codes "v" ∷ []) (a ∷ b ∷ []) mentions
  are_flows = record { count = refl; each = each }
    where
      each : (n : ℕ) (flow : Flow) → slice_get (a ∷ b ∷ []) n ≡ Some flow → (kind : Kind) →
          AreNumbers (names_for names (codes "v" ∷ []) kind) (list_of kind flow) (names_in (said_of n kind mentions))
      each zero flow is Reads = rw (sym (same_Some a flow is), a_reads) tt
      each zero flow is Writes = rw (sym (same_Some a flow is), a_writes) tt
      each zero flow is Next = rw (sym (same_Some a flow is), a_next) (refl, tt)
      each (suc zero) flow is Reads = rw (sym (same_Some b flow is), b_reads) (refl, tt)
      each (suc zero) flow is Writes = rw (sym (same_Some b flow is), b_writes) tt
      each (suc zero) flow is Next = rw (sym (same_Some b flow is), b_next) tt
      each (suc (suc n)) flow is kind = absurd (none-some flow is)

-- v is live before both nodes, and after the first
lines : sides_text false names (codes "v" ∷ []) ((0 ∷ []) ∷ (0 ∷ []) ∷ []) ((0 ∷ []) ∷ [] ∷ [])
    ≡ codes "a: before v; after v\nb: before v; after\n"
lines = refl
