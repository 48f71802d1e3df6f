-- In the order in which they are best read.
mod Common
-- Lists that begin with others:
pub mod Begun
-- What stays as a history goes on, and goes on after another:
pub mod Going
pub mod Seeing
-- Which events go on from a part, and which are added:
pub mod Events
pub mod Issuing
pub mod Adding
-- That a search covers all histories:
pub mod Covering
