pub mod Faults
pub mod Names
pub mod Printed
pub mod Words
