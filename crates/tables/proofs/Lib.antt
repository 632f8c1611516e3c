pub mod Entries
pub mod RunLaws
pub mod Searches
pub mod SetLaws
pub mod StepLaws
pub mod TestLaws
pub mod Verdicts
