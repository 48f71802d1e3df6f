-- What `uring_operations` decides, in words that C can read.
pub mod Calls
pub mod Entries
pub mod Files
pub mod Requests
