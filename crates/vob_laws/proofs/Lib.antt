mod ChangeLemmas
mod MoveLawsLemmas
mod OrderLawsLemmas
mod PackingLawsLemmas
mod RunPullsLemmas
