pub mod ListLemmas
pub mod NamesLemmas
pub mod OneLemmas
pub mod PrintedLemmas
pub mod WordsLemmas
