-- What waits, what is looked at, and how a call sleeps.
pub mod SleepForm
pub mod LeavingForm
pub mod HearingForm
