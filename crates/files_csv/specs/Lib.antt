pub mod Rows
pub mod Refused
pub mod Parts
pub mod Whole
pub mod Progress
