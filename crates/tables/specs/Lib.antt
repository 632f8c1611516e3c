pub mod Entries
pub mod Lent
pub mod Runs
pub mod Sets
pub mod Steps
pub mod Tests
