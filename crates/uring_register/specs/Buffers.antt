-- Buffers: which memory may be registered, what an operation has of a buffer, and which of those that are provided it takes.
pub mod Pinning
pub mod Bytes
pub mod Provided
pub mod ProvidedLaws
