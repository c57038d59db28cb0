pub mod Standing
pub mod Paper
pub mod Papers
pub mod Opening
pub mod Blanks
