-- What a cancel, a removal or an update finds, and what it does with that.
pub mod CancellingForm
