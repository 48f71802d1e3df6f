-- What a cancel, a removal or an update finds, and what it does with that.
pub mod Cancels
pub mod CancelLaws
pub mod Seeking
pub mod Updates
pub mod Awaiting
pub mod Ranks
