mod Common
pub mod DoneLemmas
pub mod OperationCases
pub mod Changes
pub mod Overwrites
pub mod Places
pub mod Prepared
pub mod StandAlone
