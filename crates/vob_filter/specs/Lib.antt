pub mod Columns
pub mod Comparisons
pub mod Filter
pub mod Rows
