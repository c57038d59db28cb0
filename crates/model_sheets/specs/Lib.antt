pub mod Limits
pub mod Opening
