-- In the order in which they are best read.
mod Common
-- The laws:
pub mod LogMoves
pub mod CrashLaws
-- Trials, and what is shown after them:
pub mod Lists
pub mod Trying
pub mod Showing
-- The walk:
pub mod Taking
