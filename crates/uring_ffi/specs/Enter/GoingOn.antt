-- What is done for requests that go on or end, and in which order.
pub mod DutyForm
pub mod FollowingForm
pub mod TriedForm
pub mod PuttingOffForm
