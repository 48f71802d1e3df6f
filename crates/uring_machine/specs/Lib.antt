pub mod Machine
pub mod Settling
