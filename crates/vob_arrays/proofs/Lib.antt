pub mod AppendLemmas
pub mod BuiltLemmas
pub mod EndLemmas
pub mod EntryLemmas
pub mod MoveLemmas
pub mod RunLemmas
pub mod StepLemmas
