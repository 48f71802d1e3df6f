pub mod PathLists
pub mod Visiting
pub mod Keeping
