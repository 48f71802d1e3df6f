-- In the order in which they are best read.
mod Common
-- Lines, and the texts of answers:
pub mod Splitting
pub mod WantedAnswers
pub mod SameTexts
pub mod SetupLaws
pub mod FirstLines
-- What a checker makes of a line, and of all of them:
pub mod Posting
pub mod GrantedAnswers
pub mod Looking
pub mod Readings
-- What findings say of a history:
pub mod RuleLaws
pub mod LawfulTexts
