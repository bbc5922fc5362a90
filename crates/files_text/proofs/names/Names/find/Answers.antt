-- The place of the name that is equal to the one looked for.
use Rattle.std.proofs.Common.{◌≡◌, ℕ, Option, None, Some, map, sym}
use Rattle.std.specs.Prelude.{IfNone, Contains}
use Rattle.std.specs.Option.{is_some}
use Rattle.std.specs.List.{list_any}
use Rattle.files_text.proofs.NamesLemmas.{found_name, absent_name, same}
use Rattle.files_text.proofs.names.Names.find.Goals as goal

pub returns-clause-some : goal.returns-clause-some
returns-clause-some c =
    rw (← c.self.view_is)
    (found_name _ c.args.name c.get_index_of.result c.get_index_of.ensures.index)

pub returns-clause-none : goal.returns-clause-none
returns-clause-none c = rw (← c.self.view_is) (by c.get_index_of.result c.get_index_of.ensures.found)
  where
    by : (result : Option ℕ) → is_some result ≡ list_any (same c.args.name) c.self.inside.names.keys →
        IfNone result (¬ Contains (map (λ key. key.now) c.self.inside.names.keys) c.args.name.now)
    by (Some n) is = tt
    by None is = absent_name c.self.inside.names.keys c.args.name (sym is)
