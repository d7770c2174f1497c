pub mod Checked
pub mod Increments
