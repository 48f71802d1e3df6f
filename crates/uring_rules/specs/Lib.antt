pub mod Rules
pub mod RulesCalls
pub mod RulesIssues
pub mod RulesDispatch
pub mod RulesLaws
pub mod Posting
