-- What a call is asked for, what it does next, and what it returns.
pub mod RoundForm
pub mod UnknownForm
pub mod PassageForm
pub mod SignalForm
