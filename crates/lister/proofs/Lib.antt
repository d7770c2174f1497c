pub mod Each
pub mod Digits
pub mod Grown
pub mod Lines
pub mod Listed
