pub mod Arrays
pub mod Building
pub mod Drives
pub mod Ends
pub mod Views
