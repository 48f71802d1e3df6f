mod Common
pub mod Spellings
pub mod Sessions
pub mod QuestionLines
pub mod LineFlaws
pub mod ShownTexts
pub mod ChosenTexts
pub mod ExplainLines
pub mod ExplainStreams
pub mod Traces
