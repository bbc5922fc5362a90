-- The components of a graph by numbers. No public clause cites this page.
use Rattle.std.specs.Prelude.{◌≡◌, ◌≢◌, ◌↔◌, ◌⊎◌, ℕ, ◌<◌, ◌≤◌, List, [], length, slice_index_or, Contains}
use Rattle.vob_flow.specs.Closure.{IsEdge}
use Rattle.vob_flow.specs.Components.{AreConnected, component_of}
use Rattle.files_graph.specs.Direct.{IsDirect}

-- the number at index n
abbrev pub at : List ℕ → ℕ → ℕ
at numbers n = slice_index_or numbers n 0

-- the first place of each node among some
pub record ArePlaces (count : ℕ) (nodes places : List ℕ) : Type 0 where
  pub long : length places ≡ count
  pub inside : (n : ℕ) → n < count → at places n < length nodes
  pub there : (n : ℕ) → n < count → at nodes (at places n) ≡ n
  pub first : (n j : ℕ) → n < count → j < length nodes → at nodes j ≡ n → at places n ≤ j

-- the highest place of a node with each root, of the first k nodes
pub record AreTops (roots places : List ℕ) (k : ℕ) (tops : List ℕ) : Type 0 where
  pub long : length tops ≡ length roots
  pub most : (n : ℕ) → n < k → at places n ≤ at tops (component_of roots n)
  pub some : (root : ℕ) → (at tops root ≡ 0)
      ⊎ ((n : ℕ) × (n < k) × (component_of roots n ≡ root) × (at tops root ≡ at places n))

-- nodes have one number exactly if they are connected, and edges to others lead to lower ones
pub record AreNumbered (next : List (List ℕ)) (numbers : List ℕ) : Type 0 where
  pub long : length numbers ≡ length next
  pub inside : (n : ℕ) → n < length next → at numbers n < length next
  pub same : (n m : ℕ) → n < length next → m < length next →
      (at numbers n ≡ at numbers m) ↔ AreConnected next n m
  pub down : (n m : ℕ) → n < length next → m < length next → IsEdge next n m →
      at numbers n ≢ at numbers m → at numbers m < at numbers n

-- the first node with each number, of those from k on
pub record AreFirsts (numbers : List ℕ) (k : ℕ) (firsts : List ℕ) : Type 0 where
  pub long : length firsts ≡ length numbers
  pub low : (n : ℕ) → k ≤ n → n < length numbers → at firsts (at numbers n) ≤ n
  pub high : (n : ℕ) → k ≤ n → n < length numbers → k ≤ at firsts (at numbers n)
  pub same : (n : ℕ) → k ≤ n → n < length numbers → at numbers (at firsts (at numbers n)) ≡ at numbers n

-- an edge from the number of node n to another one, that of one of some nodes
abbrev pub IsLinkTo : List ℕ → List ℕ → ℕ → ℕ → ℕ → Type 0
IsLinkTo numbers ends n p q =
    (m : ℕ) × Contains ends m × (at numbers n ≡ p) × (at numbers m ≡ q) × (p ≢ q)

-- to that of a node to which an edge leads
abbrev pub IsLinkOf : List (List ℕ) → List ℕ → ℕ → ℕ → ℕ → Type 0
IsLinkOf next numbers n p q = IsLinkTo numbers (slice_index_or next n []) n p q

-- edges between numbers stand for edges between nodes
abbrev pub AreLinks : List (List ℕ) → List ℕ → List (List ℕ) → Type 0
AreLinks next numbers links = (p q : ℕ) → IsEdge links p q ↔ ((n : ℕ) × IsLinkOf next numbers n p q)

-- the first nodes of two numbers that an edge joins
abbrev pub JoinsFirsts : List (ℕ × ℕ) → List ℕ → ℕ → ℕ → Type 0
JoinsFirsts links firsts a b =
    (p : ℕ) × (q : ℕ) × Contains links (p, q) × (at firsts p ≡ a) × (at firsts q ≡ b)

-- the last node with each number, of the first k
pub record AreLasts (numbers : List ℕ) (k : ℕ) (lasts : List ℕ) : Type 0 where
  pub long : length lasts ≡ length numbers
  pub high : (n : ℕ) → n < k → n ≤ at lasts (at numbers n)
  pub below : (n : ℕ) → n < k → at lasts (at numbers n) < k
  pub same : (n : ℕ) → n < k → at numbers (at lasts (at numbers n)) ≡ at numbers n

-- node b is the next after node a with the same number, of the first k nodes
pub record IsNextOf (numbers : List ℕ) (k a b : ℕ) : Type 0 where
  pub inside : b < k
  pub later : a < b
  pub same : at numbers a ≡ at numbers b
  pub none : (x : ℕ) → a < x → x < b → at numbers x ≢ at numbers b

-- node a, of the first k nodes, is the last with its number, and b the first, and they are on a cycle
pub record IsLastOf (next : List (List ℕ)) (numbers firsts lasts : List ℕ) (k a b : ℕ) : Type 0 where
  pub inside : a < k
  pub last : at lasts (at numbers a) ≡ a
  pub first : at firsts (at numbers a) ≡ b
  pub cycle : (b ≢ a) ⊎ IsEdge next a a

-- the direct edges between numbers
pub record AreDirect (next : List (List ℕ)) (numbers : List ℕ) (direct : List (ℕ × ℕ)) : Type 0 where
  pub links : List (List ℕ)
  pub are_links : AreLinks next numbers links
  pub each : (p q : ℕ) → Contains direct (p, q) ↔ IsDirect links p q
