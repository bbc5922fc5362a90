pub mod GrowLemmas
pub mod ItemsLemmas
pub mod MakeLemmas
pub mod PairLemmas
pub mod RawLemmas
pub mod RunLemmas
pub mod StepLemmas
pub mod WidthLemmas
