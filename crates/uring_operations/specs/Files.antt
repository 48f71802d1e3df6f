-- The files of a request: what they are, how they are opened, and how long they are kept.
-- What a descriptor is, and how it is opened and kept:
pub mod Descriptors
pub mod Openness
pub mod PipeOpens
pub mod Remembering
pub mod Keeping
pub mod Asking
pub mod StartFaults
pub mod ToldLocks
pub mod Syncing
-- What is logged, so that it is known what a power failure may leave:
pub mod Logging
pub mod LoggedCalls
pub mod LoggedWords
pub mod LoggedBytes
pub mod LoggedNames
pub mod Mapped
