pub mod Calendar
pub mod Slots
pub mod Summaries
