-- Set-ups, answers and what is read off a core or a machine, as words that C can read and write.
pub mod AnswerForm
pub mod OperationForm
pub mod WhyForm
pub mod SetUps
pub mod ReadingForms
pub mod Cuts
