-- The system calls by which an operation is carried out, and what becomes of their results.
pub mod MeansForm
pub mod ShuttingForm
pub mod CarryingForm
