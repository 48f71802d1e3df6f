pub mod Tables
pub mod Buffers
pub mod Rings
pub mod Calls
pub mod KernelLists
