-- What is posted, what the application is shown, and what it has reaped.
pub mod ShownForm
