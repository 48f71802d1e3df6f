pub mod Contents
pub mod Operations
pub mod Done
pub mod Laws
