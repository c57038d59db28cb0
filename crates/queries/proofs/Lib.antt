pub mod FindLaws
pub mod HeldLaws
pub mod ShowLaws
pub mod Desks
pub mod AnyNumber
