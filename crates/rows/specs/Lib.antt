pub mod Offers
pub mod Rows
