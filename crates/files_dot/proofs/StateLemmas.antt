-- What a reader holds, as a state.
use Rattle.std.specs.Prelude.{drop}
use Rattle.std.proofs.Common.{◌≡◌, ℕ, false, true, Option, Some, List, [], ◌∷◌, ◌++◌, length, take, refl, sym, ap, ◌∙◌}
use Rattle.files_text.specs.Names.{names_in}
use Rattle.files_dot.specs.Reading.{End, Level, State, after_end, at, closing, edges_to, opened, step_end}
use Rattle.files_dot.specs.States.{level_of, levels_of}
use Rattle.files_dot.specs.Tokens.{sign}
use Rattle.files_dot.specs.declared.reader.Level.{Level as HeldLevel}
use Rattle.files_dot.specs.declared.stage.Stage.TheVariants.{AfterEqual, Statement}
use Rattle.files_dot.specs.declared.token.Mark.{Mark}
use Rattle.files_dot.specs.declared.token.Mark.TheVariants.{Equal}

abbrev with_levels : State → List Level → State
with_levels s levels = record s { next = at Statement; levels = levels }

abbrev level_at : Option (List (List ℕ)) → ℕ → Level
level_at tails start = record { start = start; tails = tails }

levels_of-push : (levels : List HeldLevel) (level : HeldLevel) →
    levels_of (levels ++ level ∷ []) ≡ level_of level ∷ levels_of levels
levels_of-push [] level = refl
levels_of-push (first ∷ levels) level = ap (λ l. l ++ level_of first ∷ []) (levels_of-push levels level)

pub opened_held : (s : State) (levels all : List HeldLevel) (level : HeldLevel) → s.levels ≡ levels_of levels →
    all ≡ levels ++ level ∷ [] → level.start ≡ length s.mentions →
    opened s (level_of level).tails ≡ record s { next = at Statement; levels = levels_of all }
opened_held s levels all level held pushed start_is =
    ap (with_levels s) (ap (λ n. level_at (level_of level).tails n ∷ s.levels) (sym start_is)
    ∙ ap (λ l. level_of level ∷ l) held ∙ sym (levels_of-push levels level) ∙ ap levels_of (sym pushed))

abbrev with_edges : State → List Level → ℕ → List (List ℕ × List ℕ) → State
with_edges s levels start edges = record s {
  next = after_end (record { start = start; may_be_name = false; colons = 0 });
  edges = edges;
  levels = levels;
}

pub closed_held : (s : State) (levels outer : List HeldLevel) (level : HeldLevel) (edges : List (List ℕ × List ℕ)) →
    levels ≡ outer ++ level ∷ [] →
    edges ≡ s.edges ++ edges_to (level_of level).tails (names_in (drop level.start s.mentions)) →
    closing s (levels_of levels) ≡ record s {
      next = after_end (record { start = level.start; may_be_name = false; colons = 0 });
      edges = edges;
      levels = levels_of outer;
    }
closed_held s levels outer level edges popped edges_are =
    ap (closing s) (ap levels_of popped ∙ levels_of-push outer level)
    ∙ ap (with_edges s (levels_of outer) level.start) (sym edges_are)

pub equal_held : (s : State) (end : End) (mark : Mark) (mentions : List (List ℕ)) → mark ≡ Equal →
    end.may_be_name ≡ true → mentions ≡ take end.start s.mentions →
    step_end s end (sign mark) ≡ Some (record s { next = at AfterEqual; mentions = mentions })
equal_held s end mark mentions is may_be mentions_are = rw (is, may_be, mentions_are) refl
