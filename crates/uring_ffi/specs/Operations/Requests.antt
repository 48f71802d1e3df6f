-- The course of one request: when it starts, whether it has to wait, and with which result it ends.
pub mod StartForm
