-- In the order in which they are best read.
mod Common
-- Counts, and tables of what is outstanding:
pub mod Counting
pub mod ByData
pub mod WindowLemmas
pub mod WindowFront
pub mod GroupsKept
-- How a request stands, and why:
pub mod HeldLemmas
pub mod WhyHeld
pub mod WaitingLemmas
pub mod IssuableLemmas
-- What an event leaves of what is held: an entry is accepted, a request is issued, chosen by a cancel, or ends:
pub mod Changes
pub mod Accepts
pub mod AcceptsListed
pub mod Issues
pub mod Choosing
pub mod EndLemmas
-- What a dispatcher shows, and how much it keeps:
pub mod Alike
pub mod Views
pub mod Sizes
