pub mod Tables
pub mod Numbered
pub mod Counted
pub mod Slots
