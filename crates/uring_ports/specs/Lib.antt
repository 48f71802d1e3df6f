pub mod Items
pub mod Dropped
pub mod Seen
pub mod Ports
pub mod Messages
pub mod Lanes
pub mod AppEnd
