-- Words are lines of nodes in one way.
use Rattle.std.specs.Prelude.{All, codes}
use Rattle.std.proofs.Common.{◌≡◌, ◌≢◌, ◌⊎◌, inl, inr, ℕ, suc, Option, None, Some, List, [], ◌∷◌, ◌++◌, length, drop, get_or, map, arith, refl, sym, ap, subst, ◌∙◌}
use Rattle.std.proofs.lemmas.List.{append-nil, length-append, same_from_push}
use Rattle.std.proofs.lemmas.List.Elements.{All-cons, All-nil}
use Rattle.std.proofs.lemmas.Option.{none-some, same_Some}
use Rattle.files_text.specs.Words.{Token}
use Rattle.files_flow.specs.declared.nodes.Kind.{Kind}
use Rattle.files_flow.specs.declared.nodes.Kind.TheVariants.{Reads, Writes, Next}
use Rattle.files_flow.specs.Nodes.{AreClosed, AreNodes, IsPart, Mention, key_of}
use Rattle.files_flow.specs.Nodes.AreClosed.{nothing, closed}
use Rattle.files_flow.specs.Nodes.AreNodes.{no_node, node}
use Rattle.files_flow.specs.Nodes.IsPart.{empty, keyed}

-- ---- lists are cut in one way

-- of two first parts of one list, one begins with the other
overlap : {X : Type 0} (xs ys zs ws : List X) → xs ++ ys ≡ zs ++ ws →
    ((m : List X) × (zs ≡ xs ++ m) × (ys ≡ m ++ ws)) ⊎ ((m : List X) × (xs ≡ zs ++ m) × (ws ≡ m ++ ys))
overlap [] ys zs ws same = inl (zs, refl, same)
overlap (x ∷ xs) ys [] ws same = inr (x ∷ xs, refl, sym same)
overlap (x ∷ xs) ys (z ∷ zs) ws same =
    let first : x ≡ z = ap (λ l. get_or l 0 x) same in
    elim (overlap xs ys zs ws (ap (drop 1) same)) [
      | inl more ↦ inl (more.0, ap (λ h. h ∷ zs) (sym first) ∙ ap (λ l. x ∷ l) more.1, more.2)
      | inr more ↦ inr (more.0, ap (λ h. h ∷ xs) first ∙ ap (λ l. z ∷ l) more.1, more.2)
    ]

module _ {Y : Type 0} (f : Token → Y) where
  -- what f says of the last word
  abbrev last_of : List Token → Option Y
  last_of [] = None
  last_of (word ∷ []) = Some (f word)
  last_of (word ∷ other ∷ words) = last_of (other ∷ words)

  last_behind : (xs : List Token) (y : Token) (ys : List Token) → last_of (xs ++ y ∷ ys) ≡ last_of (y ∷ ys)
  last_behind [] y ys = refl
  last_behind (x ∷ []) y ys = refl
  last_behind (x ∷ z ∷ xs) y ys = last_behind (z ∷ xs) y ys

  last_some : (y : Token) (ys : List Token) → (v : Y) × (last_of (y ∷ ys) ≡ Some v)
  last_some y [] = (f y, refl)
  last_some y (z ∷ ys) = last_some z ys

  module _ (P : Y → Type 0) where
    last_is : (y : Token) (ys : List Token) → All (λ w. P (f w)) (y ∷ ys) → (v : Y) → last_of (y ∷ ys) ≡ Some v → P v
    last_is y [] all v is = subst P (same_Some (f y) v is) (all 0 y (omega arith))
    last_is y (z ∷ ys) all v is = last_is z ys (λ k d less. all (suc k) d (omega (arith, less))) v is

    -- P doesn't hold of the last word
    abbrev Ends : List Token → Type 0
    Ends words = (v : Y) → last_of words ≡ Some v → ¬ P v

    first_of : (y : Token) (ys ws : List Token) → All (λ w. P (f w)) (y ∷ ys ++ ws) → All (λ w. P (f w)) (y ∷ ys)
    first_of y ys ws all = by (y ∷ ys) all
      where
        by : (xs : List Token) → All (λ w. P (f w)) (xs ++ ws) → All (λ w. P (f w)) xs
        by [] given = All-nil (λ (w : Token). P (f w))
        by (x ∷ xs) given = All-cons (λ (w : Token). P (f w)) x xs (given 0 x (omega arith))
            (by xs (λ k d less. given (suc k) d (omega (arith, less))))

    no_more : (xs m ws ys zs : List Token) → zs ≡ xs ++ m → ys ≡ m ++ ws → All (λ w. P (f w)) ys → Ends zs → m ≡ []
    no_more xs [] ws ys zs longer rest all ends = refl
    no_more xs (x ∷ m) ws ys zs longer rest all ends =
        let (v, is) = last_some x m in
        absurd (ends v (ap last_of longer ∙ last_behind xs x m ∙ is)
        (last_is x m (first_of x m ws (subst (All (λ (w : Token). P (f w))) rest all)) v is))

    one_cut : (xs ys zs ws : List Token) → Ends xs → All (λ w. P (f w)) ys → Ends zs → All (λ w. P (f w)) ws →
        xs ++ ys ≡ zs ++ ws → (xs ≡ zs) × (ys ≡ ws)
    one_cut xs ys zs ws ends all ends' all' same = elim (overlap xs ys zs ws same) [
      | inl more ↦
          let none = no_more xs more.0 ws ys zs more.1 more.2 all ends' in (
            sym (more.1 ∙ ap (λ m. xs ++ m) none ∙ append-nil xs),
            more.2 ∙ ap (λ m. m ++ ws) none,
          )
      | inr more ↦
          let none = no_more zs more.0 ys ws xs more.1 more.2 all' ends in (
            more.1 ∙ ap (λ m. zs ++ m) none ∙ append-nil zs,
            sym (more.2 ∙ ap (λ m. m ++ ys) none),
          )
    ]

-- ---- the parts of a line

key_one : (kind other : Kind) → key_of kind ≡ key_of other → kind ≡ other
key_one Reads Reads same = refl
key_one Reads Writes same = absurd (omega (arith, ap length same))
key_one Reads Next same = absurd (omega (arith, ap length same))
key_one Writes Reads same = absurd (omega (arith, ap length same))
key_one Writes Writes same = refl
key_one Writes Next same = absurd (omega (arith, ap length same))
key_one Next Reads same = absurd (omega (arith, ap length same))
key_one Next Writes same = absurd (omega (arith, ap length same))
key_one Next Next same = refl

no_semicolon : (kind : Kind) → key_of kind ≢ codes ";"
no_semicolon Reads same = omega (arith, ap length same)
no_semicolon Writes same = omega (arith, ap length same)
no_semicolon Next same = omega (arith, ap length same)

-- a word is no semicolon
abbrev Plain : List ℕ → Type 0
Plain text = text ≢ codes ";"

module _ (n : ℕ) where
  abbrev said : Kind → Token → Mention
  said kind name = record { node = n; kind = kind; name = name }

  part_one : {kind other : Option Kind} {words words' : List Token} {mentions mentions' : List Mention} →
      IsPart n kind words mentions → IsPart n other words' mentions' → words ≡ words' → mentions ≡ mentions'
  part_one empty empty same = refl
  part_one empty (keyed is all) same = absurd (omega (arith, ap length same))
  part_one (keyed is all) empty same = absurd (omega (arith, ap length same))
  part_one (keyed {kind} {key} {names} is all) (keyed {kind = kind'} {key = key'} {names = names'} is' all') same =
      let keys : key ≡ key' = ap (λ l. get_or l 0 key) same in
      let rest : names ≡ names' = ap (drop 1) same in
      let kinds = key_one kind kind' (sym is ∙ ap (λ (word : Token). word.text) keys ∙ is') in
      ap (λ k. map (said k) names) kinds ∙ ap (map (said kind')) rest

  part_plain : {kind : Option Kind} {words : List Token} {mentions : List Mention} → IsPart n kind words mentions →
      All (λ word. Plain word.text) words
  part_plain empty = All-nil (λ (word : Token). Plain word.text)
  part_plain (keyed {kind} {key} {names} is all) = All-cons (λ (word : Token). Plain word.text) key names
      (λ same. no_semicolon kind (sym is ∙ same)) (λ k d less. (all k d less).2)

  closed_ends : {words : List Token} {mentions : List Mention} → AreClosed n words mentions →
      Ends (λ word. word.text) Plain words
  closed_ends nothing v last plain = none-some v last
  closed_ends (closed {words} {part} semicolon are part_is is) v last plain =
      plain (same_Some v semicolon.text (sym last ∙ last_behind (λ word. word.text) (words ++ part) semicolon []) ∙ is)

  closed_one : {words words' : List Token} {mentions mentions' : List Mention} →
      AreClosed n words mentions → AreClosed n words' mentions' → words ≡ words' → mentions ≡ mentions'
  closed_one nothing nothing same = refl
  closed_one nothing (closed {words} {part} semicolon are part_is is) same =
      absurd (omega (arith, ap length same, length-append (words ++ part) (semicolon ∷ [])))
  closed_one (closed {words} {part} semicolon are part_is is) nothing same =
      absurd (omega (arith, ap length same, length-append (words ++ part) (semicolon ∷ [])))
  closed_one (closed {words} {part} semicolon {mentions} {own} are part_is is)
      (closed {words = words'} {part = part'} semicolon' {mentions = mentions'} {own = own'} are' part_is' is') same =
      let (front, marks) = same_from_push (words ++ part) (words' ++ part') semicolon semicolon' same in
      let (before, last) = one_cut (λ word. word.text) Plain words part words' part' (closed_ends are)
      (part_plain part_is) (closed_ends are') (part_plain part_is') front in
      ap (λ l. l ++ own) (closed_one are are' before) ∙ ap (λ l. mentions' ++ l) (part_one part_is part_is' last)

-- ---- the lines

abbrev line : Token → ℕ
line word = word.line

block_last : (name : Token) (rest : List Token) → All (λ word. word.line ≡ name.line) rest →
    last_of line (name ∷ rest) ≡ Some name.line
block_last name rest lines =
    let (v, is) = last_some line name rest in
    is ∙ ap Some (last_is line (λ v. v ≡ name.line) name rest
    (All-cons (λ (word : Token). word.line ≡ name.line) name rest refl lines) v is)

nodes_last : {last : Option ℕ} {part : Option Kind} {words : List Token} {names : List (List ℕ)}
    {mentions : List Mention} →
    AreNodes last part words names mentions → last_of line words ≡ last
nodes_last no_node = refl
nodes_last (node {words = words} {shut = shut} {part = part} name colon nodes begins is shut_is part_is lines) =
    last_behind line words name (colon ∷ (shut ++ part)) ∙ block_last name (colon ∷ (shut ++ part)) lines

-- words are lines of nodes in one way
pub nodes_one : {last last' : Option ℕ} {part part' : Option Kind} {words words' : List Token}
    {names names' : List (List ℕ)}
    {mentions mentions' : List Mention} → AreNodes last part words names mentions →
    AreNodes last' part' words' names' mentions' → words ≡ words' → (names ≡ names') × (mentions ≡ mentions')
nodes_one no_node no_node same = (refl, refl)
nodes_one no_node (node {words = words} {shut = shut} {part = part} name colon nodes begins is shut_is part_is
    lines) same =
    absurd (omega (arith, ap length same, length-append words (name ∷ colon ∷ (shut ++ part))))
nodes_one (node {words = words} {shut = shut} {part = part} name colon nodes begins is shut_is part_is lines)
    no_node same =
    absurd (omega (arith, ap length same, length-append words (name ∷ colon ∷ (shut ++ part))))
nodes_one (node {last = last} {words = words} {shut = shut} {part = part} name colon {names = names}
    {mentions = mentions}
    {own = own} {others = others} nodes begins is shut_is part_is lines)
    (node {last = last'} {kind = kind'} {words = words'} {shut = shut'} {part = part'} name' colon' {names = names'}
    {mentions = mentions'}
    {own = own'} {others = others'} nodes' begins' is' shut_is' part_is' lines') same =
    let rest = colon ∷ (shut ++ part) in
    let rest' = colon' ∷ (shut' ++ part') in
    let at : name.line ≡ name'.line = same_Some name.line name'.line (sym (last_behind line words name rest
    ∙ block_last name rest lines) ∙ ap (last_of line) same ∙ last_behind line words' name' rest'
    ∙ block_last name' rest' lines') in
    let (before, block) = one_cut line (λ v. v ≡ name.line) words (name ∷ rest) words' (name' ∷ rest')
    (λ v last_is here. begins.1 (sym (nodes_last nodes) ∙ last_is ∙ ap Some here))
    (All-cons (λ (word : Token). word.line ≡ name.line) name rest refl lines)
    (λ v last_is here. begins'.1 (sym (nodes_last nodes') ∙ last_is ∙ ap Some (here ∙ at)))
    (All-cons (λ (word : Token). word.line ≡ name.line) name' rest' (sym at) (λ k d less. lines' k d less ∙ sym at))
    same in
    let (named, early) = nodes_one nodes nodes' before in
    let first : name ≡ name' = ap (λ l. get_or l 0 name) block in
    let count = ap length named in
    let (shuts, parts) = one_cut (λ word. word.text) Plain shut part shut' part' (closed_ends (length names) shut_is)
    (part_plain (length names) part_is) (closed_ends (length names') shut_is') (part_plain (length names') part_is')
    (ap (drop 2) block) in
    let owns = closed_one (length names) shut_is (subst (λ k. AreClosed k shut' own') (sym count) shut_is') shuts in
    let more = part_one (length names) part_is (subst (λ k. IsPart k kind' part' others') (sym count) part_is')
    parts in (
      ap (λ l. l ++ name.text ∷ []) named ∙ ap (λ (word : Token). names' ++ word.text ∷ []) first,
      ap (λ l. l ++ own ++ others) early ∙ ap (λ l. mentions' ++ l ++ others) owns ∙ ap
          (λ l. mentions' ++ own' ++ l) more,
    )
