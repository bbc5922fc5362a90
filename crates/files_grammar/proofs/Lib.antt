mod ConflictLemmas
mod CountLemmas
mod GrammarLemmas
mod ItemLemmas
mod LeftLemmas
mod NumberLemmas
pub mod OrderLemmas
mod RuleLemmas
mod SetTextLemmas
mod StateLemmas
mod TextLemmas
