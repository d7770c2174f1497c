pub mod Code
pub mod Lines
pub mod Listing
