pub mod Index
pub mod Counts
