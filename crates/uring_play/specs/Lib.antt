pub mod Totals
pub mod Threads
pub mod Plays
