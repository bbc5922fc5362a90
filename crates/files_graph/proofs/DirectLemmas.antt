-- A search among nodes, as it finds more of them.
use Rattle.std.proofs.Common.{◌≡◌, ◌≢◌, ◌↔◌, ◌⊎◌, ℕ, suc, ◌+◌, ◌<◌, ◌≤◌, Bool, true, false, List, [], ◌∷◌, ◌++◌, length, get_or, refl, sym, ap, ◌∙◌, subst, arith, inl, inr}
use Rattle.std.specs.List.{Contains}
use Rattle.std.proofs.lemmas.Bool.{cases_Bool, cases_eq, cases_lt, false≢true}
use Rattle.std.proofs.lemmas.List.{get_or_append_left, get_or_push, length_push}
use Rattle.std.proofs.lemmas.List.Elements.{Contains-append_left, Contains-push, Contains-push_cases}
use Rattle.vob_block.specs.Packing.{item}
use Rattle.vob_block.specs.Pointwise.{differ}
use Rattle.vob.specs.Bits.{count_of, one_of, IsWritten}
use Rattle.vob.proofs.BitsLemmas.{count_cons}
use Rattle.vob_flow.specs.Closure.{IsEdge}
use Rattle.vob_flow.specs.Reach.{HasWay}
use Rattle.vob_flow.specs.Reach.Reaches.{at_start, along}
use Rattle.files_graph.specs.Direct.{GainDirect, HasFound, HasFoundMore, IsDirect, IsFrom, IsSearch, LeadsDown}
use Rattle.files_graph.specs.declared.direct.Search.{Search}
use Rattle.files_graph.proofs.WayLemmas.{only, way_none}

pub count_zero : (bits : List Bool) → ((x : ℕ) → item bits x ≡ false) → count_of true bits ≡ 0
count_zero [] none = refl
count_zero (b ∷ bits) none =
    let first : one_of true b ≡ 0 = ap (one_of true) (none 0) in
    omega (arith, count_cons true b bits, first, count_zero bits (λ x. none (suc x)))

-- ways lead down
pub way_down : (links : List (List ℕ)) → LeadsDown links → (s : ℕ) → {m : ℕ} → HasWay links s m → m ≤ s
way_down links down s {m} (at_start start) = omega (arith, only s m start)
way_down links down s (along {n = k} {m = m} rest edge) =
    omega (arith, way_down links down s rest, down k m edge)

pub was_off : (b : Bool) → differ b true ≡ true → b ≡ false
was_off true e = absurd (false≢true e)
was_off false e = refl

-- ---- ends that are missing

pub missing_more : (bits after : List Bool) (some : List ℕ) (e : ℕ) → IsWritten bits e true after →
    ((t : ℕ) → (item bits t ≡ true) ↔ Contains some t) → (t : ℕ) →
    (item after t ≡ true) ↔ Contains (some ++ e ∷ []) t
missing_more bits after some e w are t = elim (cases_eq t e) [
  | inl here ↦ rw here (
    (λ on. Contains-push some e),
    (λ there. w.there),
  )
  | inr apart ↦ (
    (λ on. Contains-append_left some (e ∷ []) t ((are t).0 (sym (w.others t apart) ∙ on))),
    (λ there. elim (Contains-push_cases some e t there) [
      | inl old ↦ w.others t apart ∙ (are t).1 old
      | inr same ↦ absurd (apart (sym same))
    ]),
  )
]

pub count_more : (bits after : List Bool) (e : ℕ) → IsWritten bits e true after → item bits e ≡ false →
    count_of true after ≡ count_of true bits + 1
count_more bits after e w off =
    let none : one_of true (item bits e) ≡ 0 = ap (one_of true) off in
    let one : one_of true true ≡ 1 = refl in
    omega (arith, w.count true, none, one)

-- ---- a node more

module _ (old new : Search) (node : ℕ) (f : HasFound node old new) where
  still : (x : ℕ) → item old.seen.bits x ≡ true → item new.seen.bits x ≡ true
  still x on = elim (cases_eq x node) [
    | inl here ↦ subst (λ k. item new.seen.bits k ≡ true) (sym here) f.seen.there
    | inr apart ↦ f.seen.others x apart ∙ on
  ]

  was : (x : ℕ) → x ≢ node → item new.seen.bits x ≡ true → item old.seen.bits x ≡ true
  was x apart now = sym (f.seen.others x apart) ∙ now

  longer : length new.found.items ≡ length old.found.items + 1
  longer = ap length f.found ∙ length_push old.found.items node

  at_old : (j : ℕ) → j < length old.found.items → get_or new.found.items j 0 ≡ get_or old.found.items j 0
  at_old j less = ap (λ xs. get_or xs j 0) f.found ∙ get_or_append_left old.found.items (node ∷ []) 0 j less

  at_last : (j : ℕ) → j ≡ length old.found.items → get_or new.found.items j 0 ≡ node
  at_last j last = ap (λ xs. get_or xs j 0) f.found ∙ get_or_push old.found.items node 0 j (sym last)

  pub HasFoundMore-found : HasFoundMore old new
  HasFoundMore-found = record {
    kept = still;
    longer = omega (arith, longer);
    prefix = at_old;
    followed = f.followed;
    fewer =
        let none : one_of true false ≡ 0 = refl in
        omega (arith, f.missing.count true, none);
  }

  pub IsSearch-found : (count : ℕ) → IsSearch count old → item old.seen.bits node ≡ false → IsSearch count new
  IsSearch-found count h off = record {
    seen_long = f.seen.len ∙ h.seen_long;
    missing_long = f.missing.len ∙ h.missing_long;
    listed = λ j less. elim (cases_lt j (length old.found.items)) [
      | inl early ↦ subst (λ n. item new.seen.bits n ≡ true) (sym (at_old j early)) (still _ (h.listed j early))
      | inr past ↦ subst (λ n. item new.seen.bits n ≡ true)
          (sym (at_last j (omega (arith, less, past, longer)))) f.seen.there
    ];
    whole = λ x now. elim (cases_eq x node) [
      | inl here ↦ (length old.found.items, omega (arith, longer), at_last _ refl ∙ sym here)
      | inr apart ↦
          let p = h.whole x (was x apart now) in
          (p.0, omega (arith, p.1, longer), at_old p.0 p.1 ∙ p.2)
    ];
    steps =
        let one : one_of false (item old.seen.bits node) ≡ 1 = ap (one_of false) off in
        let none : one_of false true ≡ 0 = refl in
        omega (arith, h.steps, f.seen.count false, one, none, longer);
    left_is = f.left;
    within = omega (arith, h.within, f.followed, longer);
  }

  pub IsFrom-found : (links : List (List ℕ)) (ends starts more : List ℕ) (lowest : ℕ) →
      old.followed ≤ length old.found.items → ((s : ℕ) → Contains starts s → Contains more s) →
      ((s : ℕ) × Contains more s × HasWay links s node) →
      IsFrom links ends starts lowest old → IsFrom links ends more lowest new
  IsFrom-found links ends starts more lowest within wider here h = record {
    sound = λ x now. elim (cases_eq x node) [
      | inl is ↦ subst (λ y. (s : ℕ) × Contains more s × HasWay links s y) (sym is) here
      | inr apart ↦
          let p = h.sound x (was x apart now) in
          (p.0, wider p.0 p.1, p.2)
    ];
    wanted = λ t. elim (cases_eq t node) [
      | inl is ↦ rw is (
        (λ on. absurd (false≢true (sym f.missing.there ∙ on))),
        (λ both. absurd (false≢true (sym both.1 ∙ f.seen.there))),
      )
      | inr apart ↦ rw (f.missing.others t apart, f.seen.others t apart) (h.wanted t)
    ];
    closed = λ j y less edge above.
        let early : j < old.followed = omega (arith, less, f.followed) in
        still y (h.closed j y early (subst (λ n. IsEdge links n y) (at_old j (omega (arith, early, within))) edge)
        above);
  }

-- fewer ends are missing
pub found_fewer : (old new : Search) (node count : ℕ) → HasFound node old new → IsSearch count old →
    item old.missing.bits node ≡ true → new.left < old.left
found_fewer old new node count f h missing =
    let one : one_of true (item old.missing.bits node) ≡ 1 = ap (one_of true) missing in
    let none : one_of true false ≡ 0 = refl in
    omega (arith, f.missing.count true, f.left, h.left_is, one, none)

-- ---- nodes more, and more again

pub HasFoundMore-none : (s : Search) → HasFoundMore s s
HasFoundMore-none s = record {
  kept = λ x on. on;
  longer = omega arith;
  prefix = λ j less. refl;
  followed = refl;
  fewer = omega arith;
}

pub HasFoundMore-both : (a b c : Search) → HasFoundMore a b → HasFoundMore b c → HasFoundMore a c
HasFoundMore-both a b c f g = record {
  kept = λ x on. g.kept x (f.kept x on);
  longer = omega (arith, f.longer, g.longer);
  prefix = λ j less. g.prefix j (omega (arith, less, f.longer)) ∙ f.prefix j less;
  followed = g.followed ∙ f.followed;
  fewer = omega (arith, f.fewer, g.fewer);
}

-- ---- what a search has found if it followed all edges

module _ (links : List (List ℕ)) (down : LeadsDown links) (ends starts : List ℕ) (lowest : ℕ) (search : Search)
    (state : IsSearch (length links) search) (from : IsFrom links ends starts lowest search)
    (all : search.followed ≡ length search.found.items) where
  pub way_seen : (s : ℕ) → item search.seen.bits s ≡ true → {m : ℕ} → HasWay links s m → lowest ≤ m →
      item search.seen.bits m ≡ true
  way_seen s on {m} (at_start start) above = subst (λ k. item search.seen.bits k ≡ true) (only s m start) on
  way_seen s on (along {n = k} {m = m} rest edge) above =
      let before = way_seen s on rest (omega (arith, above, down k m edge)) in
      let p = state.whole k before in
      from.closed p.0 m (omega (arith, p.1, all)) (subst (λ n. IsEdge links n m) (sym p.2) edge) above

-- ---- the direct edges of a node, the one to the highest end first

-- edges to some starts were appended, each direct
pub record ArePicked (links : List (List ℕ)) (n lowest at : ℕ) (edges after : List (ℕ × ℕ)) (search : Search)
    : Type 0 where
  pub starts : List ℕ
  pub appended : (k m : ℕ) → Contains after (k, m) ↔ (Contains edges (k, m) ⊎ ((k ≡ n) × Contains starts m))
  pub state : IsSearch (length links) search
  pub from : IsFrom links (get_or links n []) starts lowest search
  pub done : (search.left ≡ 0) ⊎ (search.followed ≡ length search.found.items)
  pub direct : (s : ℕ) → Contains starts s → IsDirect links n s
  pub below : (t : ℕ) → item search.missing.bits t ≡ true → t ≤ at

module _ (links : List (List ℕ)) (n lowest : ℕ) (edges : List (ℕ × ℕ)) where
  pub picked_none : (at : ℕ) (search : Search) → LeadsDown links → IsSearch (length links) search →
      IsFrom links (get_or links n []) [] lowest search → n ≡ at →
      ArePicked links n lowest at edges edges search
  picked_none at search down state from is = record {
    starts = [];
    appended = λ k m. (
      (λ there. inl there),
      (λ either. elim either [ inl old ↦ old | inr new ↦ absurd (omega (arith, new.1.1)) ]),
    );
    state = state;
    from = from;
    done = elim (cases_lt 0 (length search.found.items)) [
      | inl some ↦
          let p = from.sound _ (state.listed 0 some) in
          absurd (omega (arith, p.1.1))
      | inr none ↦ inr (omega (arith, none, state.within))
    ];
    direct = λ s there. absurd (omega (arith, there.1));
    below = λ t on. omega (arith, down n t ((from.wanted t).0 on).0, is);
  }

  module _ (at : ℕ) (after : List (ℕ × ℕ)) (search : Search) (down : LeadsDown links)
      (above : (t : ℕ) → IsEdge links n t → lowest ≤ t) (h : ArePicked links n lowest at edges after search) where
    -- the highest end that is missing is direct
    pub picked_direct : (e : ℕ) → item search.missing.bits e ≡ true →
        ((t : ℕ) → item search.missing.bits t ≡ true → t ≤ e) → search.left ≢ 0 → IsDirect links n e
    picked_direct e missing highest some =
        let own = (h.from.wanted e).0 missing in
        record {
          edge = own.0;
          alone = λ s edge apart way. elim (cases_Bool (item search.seen.bits s)) [
            | inl seen ↦
                let all : search.followed ≡ length search.found.items = elim h.done [
                  | inl none ↦ absurd (some none)
                  | inr all ↦ all
                ] in
                absurd (false≢true (sym own.1 ∙ way_seen links down (get_or links n []) h.starts lowest search
                h.state h.from all s seen way (above e own.0)))
            | inr unseen ↦
                let low = highest s ((h.from.wanted s).1 (edge, unseen)) in
                let high = way_down links down s way in
                absurd (apart (omega (arith, low, high)))
          ];
        }

    -- all direct edges were appended if no end is missing
    pub picked_all : ((t : ℕ) → item search.missing.bits t ≡ false) → GainDirect links n edges after
    picked_all none k m = (
      (λ there. elim ((h.appended k m).0 there) [
        | inl old ↦ inl old
        | inr new ↦ inr (new.0, h.direct m new.1)
      ]),
      (λ either. elim either [
        | inl old ↦ (h.appended k m).1 (inl old)
        | inr new ↦ elim (cases_Bool (item search.seen.bits m)) [
          | inl seen ↦
              let p = h.from.sound m seen in
              elim (cases_eq p.0 m) [
                | inl same ↦ (h.appended k m).1 (inr (new.0, subst (Contains h.starts) same p.1))
                | inr apart ↦ absurd (new.1.alone p.0 (h.direct p.0 p.1).edge apart p.2)
              ]
          | inr unseen ↦
              absurd (false≢true (sym (none m) ∙ (h.from.wanted m).1 (new.1.edge, unseen)))
        ]
      ]),
    )

    -- one more
    pub picked_more : (e : ℕ) (mid last : Search) (now : List (ℕ × ℕ)) → item search.missing.bits e ≡ true →
        ((t : ℕ) → item search.missing.bits t ≡ true → t ≤ e) → search.left ≢ 0 →
        now ≡ after ++ (n, e) ∷ [] → HasFound e search mid → IsSearch (length links) last →
        ((ends starts : List ℕ) → IsFrom links ends starts lowest mid → IsFrom links ends starts lowest last) →
        ((x : ℕ) → item mid.seen.bits x ≡ true → item last.seen.bits x ≡ true) →
        ((last.left ≡ 0) ⊎ (last.followed ≡ length last.found.items)) → ArePicked links n lowest e edges now last
    picked_more e mid last now missing highest some push found state from kept done =
        let own = (h.from.wanted e).0 missing in
        let more = h.starts ++ e ∷ [] in
        let next = from (get_or links n []) more (IsFrom-found search mid e found links (get_or links n []) h.starts
        more lowest h.state.within (λ s there. Contains-append_left h.starts (e ∷ []) s there)
        (e, Contains-push h.starts e, way_none links e) h.from) in
        record {
          starts = more;
          appended = λ k m. rw push (
            (λ there. elim (Contains-push_cases after (n, e) (k, m) there) [
              | inl old ↦ elim ((h.appended k m).0 old) [
                | inl older ↦ inl older
                | inr new ↦ inr (new.0, Contains-append_left h.starts (e ∷ []) m new.1)
              ]
              | inr same ↦ inr (
                sym (ap (λ edge. edge.0) same),
                subst (Contains more) (ap (λ edge. edge.1) same) (Contains-push h.starts e),
              )
            ]),
            (λ either. elim either [
              | inl older ↦ Contains-append_left after ((n, e) ∷ []) (k, m) ((h.appended k m).1 (inl older))
              | inr new ↦ elim (Contains-push_cases h.starts e m new.1) [
                | inl old ↦ Contains-append_left after ((n, e) ∷ []) (k, m) ((h.appended k m).1 (inr (new.0, old)))
                | inr last_one ↦ rw (new.0, sym last_one) (Contains-push after (n, e))
              ]
            ]),
          );
          state = state;
          from = next;
          done = done;
          direct = λ s there. elim (Contains-push_cases h.starts e s there) [
            | inl old ↦ h.direct s old
            | inr same ↦ subst (IsDirect links n) same (picked_direct e missing highest some)
          ];
          below = λ t on.
              let wants = (next.wanted t).0 on in
              elim (cases_Bool (item search.seen.bits t)) [
                | inl seen ↦ absurd (false≢true (sym wants.1
                    ∙ kept t ((HasFoundMore-found search mid e found).kept t seen)))
                | inr unseen ↦ highest t ((h.from.wanted t).1 (wants.0, unseen))
              ];
        }
