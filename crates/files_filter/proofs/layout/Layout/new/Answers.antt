-- The places and the keys are those of the format.
use Rattle.std.proofs.Common.{inl, inr, refl}
use Rattle.std.proofs.lemmas.Result.{err_from_is_err_and}
use Rattle.files_filter.proofs.layout.Layout.new.Goals as goal

pub returns-clause-ok : goal.returns-clause-ok
returns-clause-ok g c = record {
  delimiter = refl;
  places = c.in_ok-places.ensures.ok;
  keys = c.in_ok-keys.ensures.ok;
}

pub returns-in_err-keys-clause-err : goal.returns-in_err-keys-clause-err
returns-in_err-keys-clause-err g c =
    let p = err_from_is_err_and c.from_residual-in_err-keys.result c.from_residual-in_err-keys.ensures.1 in
    rw (p.1, p.2) (elim c.in_err-keys.ensures.err [
      | inl memory ↦ inl memory
      | inr bad ↦ inr (inr (record {
        json = bad.0;
        places = c.in_ok-places.places;
        places_are = c.in_ok-places.ensures.ok;
        nameless = bad.1;
      }))
    ])
