pub mod Building
pub mod Combined
pub mod Copying
pub mod Gathering
pub mod Joining
pub mod Range
pub mod Reversing
