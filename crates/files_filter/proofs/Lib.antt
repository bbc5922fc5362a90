pub mod FilterTextLemmas
mod ExchangedLemmas
mod ReadingLemmas
mod RefusalsLemmas
mod HeaderLemmas
mod AnswersLemmas
mod LayoutLemmas
mod BlocksLemmas
mod AskedLemmas
mod FilteredLemmas
