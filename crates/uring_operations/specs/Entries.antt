-- What an entry asks for, and what is wrong with it.
pub mod Timeouts
pub mod Clocks
pub mod SocketForms
pub mod NoOps
pub mod Buffers
pub mod Provisions
pub mod Rules
pub mod Forms
pub mod Names
pub mod Needs
pub mod Strictness
pub mod Named
