mod DigitLemmas
mod NumberLemmas
pub mod CompleteLemmas
pub mod ExactLemmas
pub mod OneLemmas
pub mod PlaceLemmas
pub mod SoundLemmas
pub mod StateLemmas
pub mod StepLemmas
pub mod TextLemmas
pub mod WordsLemmas
pub mod WorkedConditions
