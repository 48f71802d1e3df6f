-- Effects of operations between issue and finish, and the laws of them:
pub mod Effects
pub mod Laws
-- A search for their moments:
pub mod Moves
pub mod Search
-- The moments of a history:
pub mod Marks
pub mod Decided
pub mod Bare
