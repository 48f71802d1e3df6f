-- What is copied of the application's memory, and what is told there.
pub mod Pieces
pub mod Copies
pub mod MessageCopies
pub mod Receipts
