-- What `uring_register` decides, in words that C can read.
pub mod RegisterForm
pub mod UsesForm
pub mod PinningForm
pub mod ListingForm
