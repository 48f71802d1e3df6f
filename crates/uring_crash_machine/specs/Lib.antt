pub mod Logs
pub mod Epochs
pub mod Laws
pub mod Asked
