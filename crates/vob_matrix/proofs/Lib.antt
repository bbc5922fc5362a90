mod JoinLemmas
pub mod MatrixLemmas
pub mod PathLemmas
pub mod ProductLemmas
pub mod ShapeLemmas
mod TileLemmas
mod TurnLemmas
pub mod UnionLemmas
