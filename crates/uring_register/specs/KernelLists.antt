-- What the kernel's lists say of processors, locks and memory.
pub mod Processors
pub mod Texts
pub mod Locks
pub mod Mapped
