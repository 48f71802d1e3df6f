pub mod Entries
pub mod Chains
pub mod Copies
pub mod Files
pub mod Calls
pub mod Requests
