pub mod Filling
pub mod Parts
pub mod Found
