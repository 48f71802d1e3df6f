-- How a ring is set up, mapped and freed, and what another ring is told.
pub mod SettingUp
pub mod Messages
pub mod Visits
pub mod Ringing
pub mod Mappings
pub mod Missing
pub mod Copying
pub mod Closing
