-- In the order in which they are best read.
mod Common
-- Words and bytes of entries and completions, and set-ups:
pub mod Payloads
pub mod CompletionWords
pub mod Powers
pub mod SetupLemmas
pub mod Preparations
-- What the definitions on requests mean:
pub mod BelowLemmas
pub mod RequestLemmas
pub mod GroupLemmas
pub mod WhyLemmas
-- What an event changes in that:
pub mod EventLemmas
pub mod GroupEvents
