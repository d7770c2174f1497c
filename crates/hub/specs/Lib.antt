pub mod Entries
pub mod Requests
pub mod Accounts
pub mod Histories
pub mod Promises
pub mod Code
pub mod Trials
