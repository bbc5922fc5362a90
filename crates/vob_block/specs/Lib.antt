pub mod Bytes
pub mod Digits
pub mod Kernel
pub mod Packing
pub mod Places
pub mod Pointwise
pub mod Reading
