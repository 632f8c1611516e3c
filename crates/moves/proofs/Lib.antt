pub mod Brought
pub mod Gathers
