pub mod Views
pub mod Calls
pub mod IssueLemmas
pub mod RulesLemmas
