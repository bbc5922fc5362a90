pub mod Matrix
pub mod MatrixPaths
pub mod MatrixRows
pub mod Products
pub mod TileRows
pub mod Tiles
pub mod Unions
