pub mod Sq
pub mod SqAnswers
pub mod Cq
