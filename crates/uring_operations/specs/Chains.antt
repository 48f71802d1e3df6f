-- Which request is linked to which, and which one limits another.
pub mod Chains
pub mod ChainLaws
pub mod Timings
