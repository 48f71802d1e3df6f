-- In the order in which they are best read.
mod Common
-- What is kept of requests and groups, and what an event makes of it:
pub mod WindowLemmas
pub mod MemberLemmas
pub mod WindowEvents
pub mod GroupEvents
pub mod GroupsShown
pub mod PassedOver
pub mod WindowCounts
pub mod Tallies
-- What a dispatcher shows, and what it lets go:
pub mod Dispatches
pub mod LettingGo
-- How a request stands, and why:
pub mod Standings
pub mod Reasons
-- What is so whatever has happened: faults, deferred groups, and who goes on:
pub mod FaultsKept
pub mod InOrder
pub mod Deferring
pub mod Reaching
pub mod GoingOn
