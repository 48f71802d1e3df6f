-- The system calls by which an operation is carried out, and what becomes of their results.
pub mod Instances
pub mod Tries
pub mod Parts
pub mod CallTries
pub mod Layouts
pub mod SystemCalls
pub mod Means
pub mod TransferCalls
pub mod CallResults
pub mod Signals
pub mod Splices
pub mod Advances
