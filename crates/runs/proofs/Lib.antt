pub mod RunCode
pub mod RunCodeRead
pub mod RunSlice
