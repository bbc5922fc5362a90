pub mod CutLemmas
pub mod SpellingLemmas
pub mod WordsLemmas
mod WorkedLines
pub mod SpellsLemmas
pub mod KeywordLemmas
pub mod ReadLemmas
pub mod SessionLemmas
pub mod WrittenLemmas
