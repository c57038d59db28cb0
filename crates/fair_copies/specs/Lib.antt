pub mod Copyable
pub mod Items
