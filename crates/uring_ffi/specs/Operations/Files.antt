-- The files of a request: what they are, how they are opened, and what is logged of them.
pub mod RememberedForm
pub mod OpeningForm
pub mod LoggingForm
pub mod LoggedForm
