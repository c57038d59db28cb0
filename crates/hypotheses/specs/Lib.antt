pub mod Tables
pub mod Listing
