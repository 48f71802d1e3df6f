mod Common
pub mod ItemLaws
pub mod CallLaws
pub mod ScriptLaws
pub mod Readings
pub mod Outputs
pub mod OnceLaws
pub mod AlwaysLaws
