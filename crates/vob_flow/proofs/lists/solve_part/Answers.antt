-- The part asks what the whole problem asks of its places.
use Rattle.std.proofs.Common.{◌≡◌, ◌↔◌, ◌+◌, ◌<◌, ◌∙◌, ℕ, Vec, Global, List, [], length, get_or, map, not, subst, sym, arith}
use Rattle.std.proofs.lemmas.List.{get_or-map, length-map}
use Rattle.std.specs.List.{Contains}
use Rattle.vob_block.specs.Packing.{item}
use Rattle.vob_flow.specs.Draws.{IsIn}
use Rattle.vob_flow.specs.Lists.{keeps, lists_of, sets_of}
use Rattle.vob_flow.specs.Parts.{chosen}
use Rattle.vob_flow.proofs.AnyLemmas.{edge_inside}
use Rattle.vob_flow.proofs.PartsLemmas.{mask_is, sets_are}
use Rattle.vob_flow.proofs.TouchedLemmas.{far_at, near_at}
use Rattle.vob_flow.proofs.lists.solve_part.Goals as goal
use Rattle.vob_flow.proofs.lists.solve_part.Goals.{In_ok-kills}

chosen_is : (lists : List (List ℕ)) (nodes : List ℕ) (i : ℕ) → i < length nodes → chosen lists nodes i ≡ get_or lists (get_or nodes i 0) []
chosen_is lists nodes i less = get_or-map (λ n. get_or lists n []) nodes i 0 [] less

gens_same : (c : In_ok-kills) (i j : ℕ) → j < c.args.count → IsIn c.in_ok-far.far.rows i j
    ↔ ((i < length c.args.nodes.now) × IsIn (sets_of c.args.lists.now.places (lists_of c.args.lists.now.generates.now))
    (get_or c.args.nodes.now i 0) (c.args.start + j))
gens_same c i j low =
    let lists = lists_of c.args.lists.now.generates.now in
    let nodes = c.args.nodes.now in
    let own = c.in_ok-far.ensures.each i j in
    let all = sets_are c.args.lists.now.places lists (get_or nodes i 0) (c.args.start + j) in (
      (λ e.
          let both = own.0 e in
          let less : i < length nodes = omega (
            arith,
            edge_inside (map (λ n. get_or lists n []) nodes) i _ both.1,
            length-map nodes (λ n. get_or lists n []),
          ) in
          (less, all.1 (omega (arith, low, c.requires.inside), subst (λ l. Contains l (c.args.start + j)) (chosen_is lists nodes i less) both.1))),
      (λ both. own.1 (low, subst (λ l. Contains l (c.args.start + j)) (sym (chosen_is lists nodes i both.0)) (all.0 both.1).1)),
    )

mask_same : (c : In_ok-kills) (i j : ℕ) → i < length c.args.nodes.now → j < c.args.count →
    not (item (get_or c.in_ok-kills.kills.rows i []) j)
    ≡ keeps (lists_of c.args.lists.now.by_variable.now) (lists_of c.args.lists.now.writes.now) (get_or c.args.nodes.now i 0) (c.args.start + j)
mask_same c i j less low =
    let by_variable = lists_of c.args.lists.now.by_variable.now in
    let writes = lists_of c.args.lists.now.writes.now in
    let is = c.in_ok-kills.ensures.each i j low in
    mask_is by_variable (get_or writes (get_or c.args.nodes.now i 0) []) c.in_ok-kills.kills.rows i j (c.args.start + j)
    (rw (chosen_is writes c.args.nodes.now i less) at is)

pub returns : goal.returns
returns c =
    let at = (goal.at.returns c).In_ok-kills in
    let lists = c.args.lists.now in
    let made = c.in_ok-near.ensures in
    let columns = c.in_ok-far.ensures.columns in
    let fit = length-map lists.generates.now (λ (v : Vec ℕ Global). v.items) ∙ c.requires.fit.generates in
    let lead = rw c.nodes-nodes.ensures.count at c.nodes-nodes.ensures.inside in
    let chosen = rw c.entry_of.ensures at c.in_ok-own.ensures in record {
      far = far_at c.args.graph.now _ lists.places (lists_of lists.generates.now) c.args.start c.args.count
          c.args.nodes.now fit lead _ _ _ (gens_same at) (mask_same at) c.args.paths c.requires.touched
          chosen _ (rw (columns, c.inner_paths.ensures) at made.far);
      near = near_at c.args.graph.now _ lists.places (lists_of lists.generates.now) c.args.start c.args.count
          c.args.nodes.now fit lead _ _ _ (gens_same at) (mask_same at) c.args.paths c.requires.touched
          chosen _ (rw (columns, c.inner_paths.ensures) at made.near);
      far_columns = made.columns ∙ columns;
      near_columns = made.near_columns ∙ columns;
      places = c.note_places.ensures.len;
    }
