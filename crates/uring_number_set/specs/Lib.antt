pub mod NumberSet
