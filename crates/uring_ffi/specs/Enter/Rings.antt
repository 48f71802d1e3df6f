-- How a ring is set up, mapped and freed, and what another ring is told.
pub mod MessageForm
pub mod RingForm
pub mod MissingForm
pub mod CopyingForm
