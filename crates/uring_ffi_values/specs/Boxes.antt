-- What a C program's handle stands for, and what its place holds.
pub mod Slots
pub mod Places
