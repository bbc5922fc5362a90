pub mod ClosureTextLemmas
mod DirectLemmas
mod EdgeLemmas
mod GraphLemmas
mod KeepsLemmas
mod LeastLemmas
mod OneOutputLemmas
mod OrderLemmas
mod PartLemmas
pub mod PathLemmas
mod ReadingLemmas
mod ReductionLemmas
mod SameGraphLemmas
mod SortLemmas
mod WayLemmas
mod WorkedEdges
