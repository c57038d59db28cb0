pub mod Lists
pub mod Rows
pub mod Words
pub mod Farkas
pub mod Sizes
pub mod Sums
