pub mod Items
pub mod Parts
pub mod Lines
pub mod Listings
pub mod Wanted
pub mod Claims
pub mod Choices
pub mod Crashes
