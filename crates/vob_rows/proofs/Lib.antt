pub mod BlankLemmas
pub mod EdgesLemmas
pub mod EndsLemmas
pub mod PartLemmas
pub mod ReversedLemmas
pub mod SameLemmas
pub mod SparseLemmas
pub mod VobsLemmas
