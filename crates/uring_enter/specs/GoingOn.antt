-- What is done for requests that go on or end, and in which order.
pub mod Tried
pub mod Duties
pub mod Following
pub mod PuttingOff
pub mod Carrying
pub mod Due
