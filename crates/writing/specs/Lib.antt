pub mod Writing
pub mod Changed
