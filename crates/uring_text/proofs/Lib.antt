-- In the order in which they are best read.
mod Common
-- Steps that may give nothing, and zeros at the end of bytes:
pub mod Options
pub mod Trimming
-- A token that is read and the token that is written are one: numbers, flags, digits:
pub mod Numbers
pub mod NumberLaws
pub mod FlagLaws
pub mod HexLaws
pub mod Hexadecimal
-- So are an entry and its tokens:
pub mod FormLaws
pub mod PartLaws
pub mod EntryLaws
pub mod Spellings
-- Lines of a stream, and their tokens:
pub mod KeptLines
pub mod LineLaws
pub mod Splits
pub mod Cutting
-- What is written:
pub mod Writing
pub mod TermLaws
pub mod VisibleLaws
