-- A text is read in one way.
use Rattle.files_csv.proofs.OnceLemmas.{csv-not_refused, refused-once}
use Rattle.files_csv.proofs.laws.refused_once.Goals as goal

pub returns-clause-once : goal.returns-clause-once
returns-clause-once c = refused-once

pub returns-clause-none : goal.returns-clause-none
returns-clause-none c = csv-not_refused
