pub mod Listing
pub mod Stored
pub mod ListingLaws
pub mod Longest
pub mod Read
