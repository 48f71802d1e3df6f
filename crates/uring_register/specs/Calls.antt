-- The calls of io_uring_register(2): which there are, what each reads, for which arguments it is refused, and in which steps it is made.
pub mod Calling
pub mod CallingLaws
pub mod Stepping
pub mod Structures
