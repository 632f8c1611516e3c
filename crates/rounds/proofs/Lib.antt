pub mod Advancing
pub mod Beginning
pub mod Judging
pub mod Lending
pub mod Meeting
pub mod Offered
pub mod Refusing
pub mod Standing
