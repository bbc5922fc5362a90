-- A group is of `few` rows, or of those that are left.
use Rattle.std.proofs.Common.{◌∙◌, refl, arith}
use Rattle.vob_matrix.proofs.ProductLemmas.{AreLinked-start, AreLinked-more, fewer_room}
use Rattle.vob_matrix.proofs.products.add_products.Goals as goal

pub groups-init : goal.groups-init
groups-init c = record {
  within = omega arith;
  table = refl;
  unions = refl;
  columns = refl;
  linked = AreLinked-start _ _ _;
}

pub fill_unions-requires-clause-room : goal.fill_unions-requires-clause-room
fill_unions-requires-clause-room c =
    fewer_room c.args.few _ _ (omega (arith, c.min.ensures)) (omega arith)

pub link_by-requires-clause-room : goal.link_by-requires-clause-room
link_by-requires-clause-room c =
    fewer_room c.args.few _ _ (omega (arith, c.min.ensures)) (omega arith)

pub groups-preserved : goal.groups-preserved
groups-preserved c = record {
  within = omega (arith, c.min.ensures);
  table = c.fill_unions.ensures.count ∙ c.groups.invariant.table;
  unions = c.fill_unions.ensures.columns ∙ c.groups.invariant.unions;
  columns = c.link_by.ensures.columns ∙ c.groups.invariant.columns;
  linked = AreLinked-more _ _ _ c.groups.first _ _ _ (omega arith) c.groups.invariant.linked
      (c.link_by.ensures.linked _ c.fill_unions.ensures.each);
}
