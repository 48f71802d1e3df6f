pub mod Seen
pub mod Sights
pub mod Told
pub mod Written
