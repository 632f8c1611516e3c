pub mod Chain
pub mod Ground
pub mod Over
pub mod Picked
