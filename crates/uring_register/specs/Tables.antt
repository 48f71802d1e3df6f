-- The tables of registered files and buffers: what their slots hold, what a call or an operation makes of them, and when what was registered is gone.
pub mod Tables
pub mod TableLaws
pub mod Registering
pub mod Holding
pub mod Uses
pub mod UseLaws
pub mod Listing
pub mod Lists
pub mod Placing
