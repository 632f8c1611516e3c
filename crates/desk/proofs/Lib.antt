pub mod Inputs
pub mod Loan
pub mod Relay
pub mod Rows
pub mod Told
pub mod Unique
