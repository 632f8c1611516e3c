pub mod AskLaws
pub mod FollowLaws
pub mod Listing
