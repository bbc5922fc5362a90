mod WholeLemmas
mod PartLemmas
mod PlaceLemmas
mod ProgressLemmas
mod KeepLemmas
mod OnceLemmas
