mod Common
pub mod Fitting
pub mod Deferring
pub mod GoingOn
pub mod Settling
pub mod RecordedEnds
pub mod FirstWrong
