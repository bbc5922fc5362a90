pub mod Ends
pub mod Graph
pub mod Part
pub mod Rows
pub mod Sparse
