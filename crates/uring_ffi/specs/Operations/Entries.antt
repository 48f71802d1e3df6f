-- What an entry asks for, and what is wrong with it.
pub mod EntryForm
