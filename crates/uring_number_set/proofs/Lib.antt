pub mod BlockLemmas
pub mod FilledBlocks
